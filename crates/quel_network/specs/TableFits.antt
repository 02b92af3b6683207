-- The tables of a fit tree: their rows suit their heads, and both can be spelled.
use Rattle.std.specs.Prelude.{◌≡◌, ℕ, zero, suc, Bool, true, false, ◌&&◌, IsTrue, List, [], ◌∷◌, length, map, flat_map, nat_le}
use Rattle.std.specs.List.{list_all}
use Rattle.std.proofs.Common.{refl, sym, ap, subst}
use Rattle.std.proofs.lemmas.Bool.{and_parts, and_from}
use Rattle.std.proofs.lemmas.List.{length-map}
use Rattle.calculus.specs.declared.query.QTerm.{QTerm}
use Rattle.calculus.specs.declared.query.Query.{Query}
use Rattle.calculus.specs.declared.query.Target.{Target}
use Rattle.calculus.specs.declared.reply.Column.{Column}
use Rattle.calculus.specs.declared.request.Asked.{Asked}
use Rattle.calculus.specs.declared.value.Kind.{Kind}
use Rattle.calculus.specs.declared.value.Kind.TheVariants.{Of, Wide}
use Rattle.calculus.specs.declared.value.Value.{Value}
use Rattle.calculus.specs.declared.value.Value.TheVariants.{Int, Text}
use Rattle.calculus.specs.Aggregate.{aggregates}
use Rattle.calculus.specs.Answer.{answer}
use Rattle.calculus.specs.Database.{Db}
use Rattle.calculus.specs.IsDatabase.{IsDatabase, has_kind, var_kinds}
use Rattle.calculus.specs.Kinds.{is_number_kind}
use Rattle.calculus.specs.Limits.{most_expanded_variables}
use Rattle.calculus.specs.QueryParts.{vars_of, targets_of, qual_of, term_aggregates, qual_aggregates, query_aggregates}
use Rattle.calculus.specs.Rows.{Row}
use Rattle.calculus.specs.Sizes.{expanded_variables}
use Rattle.calculus.specs.Spelled.{term_is_spelled, query_is_spelled}
use Rattle.calculus.specs.Text.{is_text}
use Rattle.calculus.specs.Value.{fits}
use Rattle.calculus.specs.VariableRows.{rows_of}
use Rattle.calculus.specs.Who.{Who}
use Rattle.quel_meaning.specs.FitQueries.{is_kept, kept_alone, lists_few_vars, has_few_targets, source_fits, sources_fit, slots_count_up, reads_fit, sort_is_in_range, asked_fits}
use Rattle.quel_meaning.specs.KindsInQueries.{kind_in_query, kinds_fit_in_query, query_fits}
use Rattle.quel_meaning.specs.Tables.{rows_order, sorted, column_of, table_of}
use Rattle.quel_meaning.proofs.Each.{Each, front_of, of_flat_map, each_to, each_passes}
use Rattle.quel_meaning.proofs.FitMade.{both_hold}
use Rattle.quel_tree.specs.Queries.{target_over, trees, query}
use Rattle.quel_tree.specs.Relations.{column, columns}
use Rattle.quel_tree.specs.Requests.{asked as asked_codec}
use Rattle.quel_tree.specs.Names.{text}
use Rattle.quel_tree.specs.Values.{value, row as row_codec}
use Rattle.tree_words.specs.Codec.{Codec}
use Rattle.tree_words.specs.Words.{ItemsFit, list, number16, number64}
use Rattle.network_meaning.specs.Sorts.{Table}
use Rattle.quel_network.specs.AggregateValues.{aggregate_gives}
use Rattle.quel_network.specs.NumberRange.{bits_fit, kind_suits}
use Rattle.quel_network.specs.Parts.{in_insert}
use Rattle.quel_network.specs.QueryRows.{SourceSuits, query_rows_fit}
use Rattle.quel_network.specs.Sorts.{quel_sorts}
use Rattle.quel_network.specs.Spelling.{is_of_kind, row_suits}
use Rattle.quel_network.specs.StoredRows.{kept_suit}
use Rattle.quel_network.specs.Suiting.{Suits, SuitsKind, RowFits}
use Rattle.quel_network.specs.TermValues.{AggGives, TargetStands, target_kinds, targets_spelled}
use Rattle.quel_network.specs.Trees.{sent_table}

-- the row has values of the kinds of the columns, and has a spelling
pub record RowStands (head : List Column) (row : Row) : Type 0 where
  pub suits : row_suits head row ≡ true
  pub spelled : row_codec.Fits row

-- the head has a spelling, and each row stands behind it
pub record TableStands (t : Table quel_sorts) : Type 0 where
  pub head : columns.Fits t.top
  pub rows : Each (RowStands t.top) t.rows

-- ---- heads

items_columns : (term : Codec QTerm) (n : ℕ) (ts : List Target) → ItemsFit (target_over term) n ts → ItemsFit column n (map column_of ts)
unfolding column
items_columns term zero [] h = tt
items_columns term zero (t ∷ ts) h = h
items_columns term (suc n) [] h = h
items_columns term (suc n) (t ∷ ts) h = ((h.0.0, h.0.1.0), items_columns term n ts h.1)

columns_fit : (term : Codec QTerm) (ts : List Target) → (list number16 (target_over term)).Fits ts → columns.Fits (map column_of ts)
unfolding columns list
columns_fit term ts h =
    subst (λ n. number16.Fits n × ItemsFit column n (map column_of ts)) (sym (length-map ts column_of)) (h.0, items_columns term (length ts) ts h.1)

-- the targets of a query that has a spelling make a head that has one, and are not too many for a count of two bytes
query_columns : (n : ℕ) (q : Query) → (query n).Fits q → columns.Fits (map column_of (targets_of q)) × number16.Fits (length (targets_of q))
unfolding trees list
query_columns zero q h = absurd h
query_columns (suc n) q h = (columns_fit (trees n).term (targets_of q) h.1.0, h.1.0.0)

-- ---- rows

of_kind : (k : Kind) (v : Value) → SuitsKind k v → is_of_kind k v ≡ true
of_kind Wide (Int z) h = refl
of_kind Wide (Text bytes) h = absurd h
of_kind (Of domain) (Int z) h = h
of_kind (Of domain) (Text bytes) h = (and_parts (fits (Text bytes) domain) (is_text bytes) h).0

row_of_columns : (ts : List Target) (row : Row) → RowFits (target_kinds ts) row → row_suits (map column_of ts) row ≡ true
row_of_columns [] [] h = refl
row_of_columns [] (v ∷ row) h = absurd h
row_of_columns (t ∷ ts) [] h = absurd h
row_of_columns (t ∷ ts) (v ∷ row) h = and_from (is_of_kind t.kind v) (row_suits (map column_of ts) row) (of_kind t.kind v h.0) (row_of_columns ts row h.1)

value_spelled : (b : Bool) (v : Value) → Suits b v → value.Fits v
unfolding value number64 text
value_spelled true (Int z) h = bits_fit z h
value_spelled true (Text bytes) h = absurd h
value_spelled false (Int z) h = absurd h
value_spelled false (Text bytes) h = h

values_spelled : (ks : List Kind) (row : Row) → RowFits ks row → ItemsFit value (length row) row
values_spelled [] [] h = tt
values_spelled [] (v ∷ row) h = absurd h
values_spelled (k ∷ ks) [] h = absurd h
values_spelled (k ∷ ks) (v ∷ row) h = (value_spelled (is_number_kind k) v (kind_suits k v h.0), values_spelled ks row h.1)

as_many : (ts : List Target) (row : Row) → RowFits (target_kinds ts) row → length ts ≡ length row
as_many [] [] h = refl
as_many [] (v ∷ row) h = absurd h
as_many (t ∷ ts) [] h = absurd h
as_many (t ∷ ts) (v ∷ row) h = ap suc (as_many ts row h.1)

row_spelled : (ts : List Target) (row : Row) → number16.Fits (length ts) → RowFits (target_kinds ts) row → row_codec.Fits row
unfolding row_codec list
row_spelled ts row few h = (subst number16.Fits (as_many ts row h) few, values_spelled (target_kinds ts) row h)

in_sorted : (P : Row → Type 0) (rows : List Row) (keys : _) → Each P rows → Each P (sorted keys rows)
unfolding sorted
in_sorted P [] keys h = tt
in_sorted P (row ∷ rows) keys h = in_insert P (rows_order keys) row (sorted keys rows) h.0 (in_sorted P rows keys h.1)

-- ---- answers

-- what is known of a query that is asked for
record Fitting (db : Db) (a : Asked) : Type 0 where
  reads : IsTrue (reads_fit (kept_alone db) db a.query)
  kinds : IsTrue (query_fits db a.query)
  spelled : IsTrue (query_is_spelled a.query)

fitting : (db : Db) (a : Asked) → asked_fits (kept_alone db) db a ≡ true → query_is_spelled a.query ≡ true → Fitting db a
unfolding asked_fits
fitting db a h s =
    let w = and_parts (reads_fit (kept_alone db) db a.query) (query_fits db a.query && (nat_le (expanded_variables db a.query) most_expanded_variables && sort_is_in_range a)) h in
    record {
      reads = w.0;
      kinds = (and_parts (query_fits db a.query) (nat_le (expanded_variables db a.query) most_expanded_variables && sort_is_in_range a) w.1).0;
      spelled = s;
    }

targets_stand : (db : Db) (q : Query) → IsTrue (query_fits db q) → IsTrue (query_is_spelled q) → Each (TargetStands db (var_kinds db q)) (targets_of q)
unfolding query_fits
targets_stand db q h s =
    both_hold (λ t. has_kind (kind_in_query db t.term (var_kinds db q)) t.kind ≡ true) (λ t. IsTrue (term_is_spelled t.term)) (TargetStands db (var_kinds db q))
    (λ t k c. record { kind = k; spelled = c }) (targets_of q)
    (each_passes (λ t. has_kind (kind_in_query db t.term (var_kinds db q)) t.kind) (targets_of q)
    (and_parts (list_all (λ t. has_kind (kind_in_query db t.term (var_kinds db q)) t.kind) (targets_of q)) (kinds_fit_in_query db (qual_of q) (var_kinds db q)) h).0) (targets_spelled q s)

-- what variables and aggregates of the query are over is kept
record Reading (db : Db) (q : Query) : Type 0 where
  vars : Each (λ key. is_kept db key ≡ true) (vars_of q)
  sources : Each (λ t. Each (λ g. source_fits (kept_alone db) db g.source ≡ true) (term_aggregates t.term)) (targets_of q)

reading : (db : Db) (q : Query) → IsTrue (reads_fit (kept_alone db) db q) → Reading db q
unfolding reads_fit
reading db q h =
    let w = and_parts (list_all (is_kept db) (vars_of q)) (sources_fit (kept_alone db) db q && (slots_count_up q && (lists_few_vars q && has_few_targets q))) h in
    let v = and_parts (sources_fit (kept_alone db) db q) (slots_count_up q && (lists_few_vars q && has_few_targets q)) w.1 in
    record {
      vars = each_passes (is_kept db) (vars_of q) w.0;
      sources = of_flat_map (λ g. source_fits (kept_alone db) db g.source ≡ true) (λ t. term_aggregates t.term) (targets_of q)
          (front_of (λ g. source_fits (kept_alone db) db g.source ≡ true) (flat_map (λ t. term_aggregates t.term) (targets_of q)) (qual_aggregates (qual_of q))
          (each_passes (λ g. source_fits (kept_alone db) db g.source) (query_aggregates q) v.0));
    }

-- the rows of an answer fit the kinds of the targets
pub answer_fits : (db : Db) (who : Who) (q : Query) → IsDatabase db → IsTrue (reads_fit (kept_alone db) db q) → IsTrue (query_fits db q) → IsTrue (query_is_spelled q)
    → Each (RowFits (target_kinds (targets_of q))) (answer db who q)
unfolding answer
answer_fits db who q is reads kinds spelled =
    query_rows_fit db (aggregates db who) (rows_of db who) q
    (each_to (λ key. is_kept db key ≡ true) (SourceSuits db (rows_of db who)) (λ key h attrs. kept_suit db who key attrs is h) (vars_of q) read.vars) (targets_stand db q kinds spelled)
    (λ e. each_to (λ t. Each (λ g. source_fits (kept_alone db) db g.source ≡ true) (term_aggregates t.term)) (λ t. Each (AggGives db (aggregates db who) (var_kinds db q) e) (term_aggregates t.term))
    (λ t h. each_to (λ g. source_fits (kept_alone db) db g.source ≡ true) (AggGives db (aggregates db who) (var_kinds db q) e) (λ g f. aggregate_gives db who g (var_kinds db q) e is f) (term_aggregates t.term) h)
    (targets_of q) read.sources)
  where
    read : Reading db q
    read = reading db q reads

-- ---- tables

-- the table of a query that is asked for and has a spelling
pub asked_stands : (n : ℕ) (db : Db) (who : Who) (a : Asked) → IsDatabase db → asked_fits (kept_alone db) db a ≡ true → query_is_spelled a.query ≡ true → (asked_codec n).Fits a
    → TableStands (sent_table (table_of db who a))
unfolding table_of asked_codec
asked_stands n db who a is fit spelled fits = record {
  head = head.0;
  rows = in_sorted (RowStands (map column_of (targets_of a.query))) (answer db who a.query) a.sort
      (each_to (RowFits (target_kinds (targets_of a.query))) (RowStands (map column_of (targets_of a.query)))
      (λ row h. record { suits = row_of_columns (targets_of a.query) row h; spelled = row_spelled (targets_of a.query) row head.1 h }) (answer db who a.query)
      (answer_fits db who a.query is known.reads known.kinds known.spelled));
}
  where
    head : columns.Fits (map column_of (targets_of a.query)) × number16.Fits (length (targets_of a.query))
    head = query_columns n a.query fits.0

    known : Fitting db a
    known = fitting db a fit spelled
