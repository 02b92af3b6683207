-- Databases of one schema that have the same of the rows that are read give the same answers.
use Rattle.std.proofs.Common.{◌≡◌, inl, inr, refl, sym, ap, ◌∙◌, ℕ, zero, suc, List, [], ◌∷◌, map, filter, Option, Some, None}
use Rattle.std.specs.Prelude.{◌&&◌}
use Rattle.std.specs.List.{flat_map, enumerate_from}
use Rattle.calculus.specs.declared.value.Value.{Value}
use Rattle.calculus.specs.declared.query.RelKey.{RelKey}
use Rattle.calculus.specs.declared.query.AggSource.{AggSource, Named}
use Rattle.calculus.specs.declared.query.QAgg.{QAgg}
use Rattle.calculus.specs.declared.query.Query.{Query}
use Rattle.calculus.specs.Tree.{rows_of_query}
use Rattle.calculus.specs.Rows.{Row}
use Rattle.calculus.specs.Lists.{is_any}
use Rattle.calculus.specs.Limits.{greatest_level}
use Rattle.calculus.specs.Term.{holds, no_aggs, values_of}
use Rattle.calculus.specs.Who.{Who}
use Rattle.calculus.specs.Database.{Db, Relation, View}
use Rattle.calculus.specs.Stored.{Kept, Viewed, range_at, kept_rows, rows_at}
use Rattle.calculus.specs.Rights.{Retrieve}
use Rattle.calculus.specs.QueryParts.{vars_of, query_aggregates}
use Rattle.calculus.specs.Used.{used_in_query, used_in_aggregate, used_vars}
use Rattle.calculus.specs.Assignments.{Source, choices, rows_used, variable_rows, assigned}
use Rattle.calculus.specs.Targets.{rows_given, some_lacks}
use Rattle.calculus.specs.VariableRows.{rows_within, rows_of}
use Rattle.calculus.specs.Aggregate.{source_rows, agree, folded_rows, arguments, fold_values, fold_arguments, fold_linked, aggregates}
use Rattle.calculus.specs.Answer.{answer, lacks}
use Rattle.calculus.specs.Reads.{vars_read, reads_of, source_reads, query_reads}
use Rattle.calculus.specs.Schema.{schema_of}
use Rattle.calculus_laws.specs.Reading.{HaveSameRows}
use Rattle.calculus_laws.proofs.Asked.{In-Contains}
use Rattle.calculus_laws.proofs.Members.{In, In-filter, In-append_left, In-append_right}
use Rattle.calculus_laws.proofs.Plain.{AgreeOn, given_agree, lacks_agree}
use Rattle.calculus_laws.proofs.SameSchema.{nothing_alike, kept_alike, view_alike, ranges_alike, may_same, none_same}
use Rattle.calculus_laws.proofs.Through.{said_at, rows_said, reads_said, said, each_said}
use Rattle.calculus_laws.proofs.WhatIsRead.{In-flat_map}

-- ---- assignments, where the used variables have the same rows

pub lists_same : {X Y : Type 0} (f g : X → Y) (xs : List X) → ((x : X) → In x xs → f x ≡ g x) → map f xs ≡ map g xs
lists_same f g [] h = refl
lists_same f g (x ∷ xs) h = λ i. h x (inl refl) i ∷ lists_same f g xs (λ y inside. h y (inr inside)) i

-- the used variables have the same rows
abbrev pub AgreeUsed : Source → Source → Query → Type 0
AgreeUsed source other q = (p : ℕ × RelKey) → In p (used_vars q) → (attrs : List ℕ) → source p.1 attrs ≡ other p.1 attrs

pub variable_same : (source other : Source) (q : Query) → AgreeUsed source other q → (p : ℕ × RelKey) → In p (enumerate_from 0 (vars_of q))
    → variable_rows source q p.0 p.1 ≡ variable_rows other q p.0 p.1
variable_same source other q same p inside = go (used_in_query p.0 q) refl
  where
    go : (attrs : List ℕ) → used_in_query p.0 q ≡ attrs → rows_used source p.1 attrs ≡ rows_used other p.1 attrs
    go [] e = refl
    go (a ∷ attrs) e = same p (In-filter (λ p. is_any (used_in_query p.0 q)) (enumerate_from 0 (vars_of q)) p inside (ap is_any e)) (a ∷ attrs)

assigned_same : (source other : Source) (q : Query) → AgreeUsed source other q → assigned source q ≡ assigned other q
unfolding assigned
assigned_same source other q same =
    ap choices (lists_same (λ (p : ℕ × RelKey). variable_rows source q p.0 p.1) (λ p. variable_rows other q p.0 p.1) (enumerate_from 0 (vars_of q))
    (variable_same source other q same))

-- ---- the databases

module _ (db other : Db) (schema : schema_of db ≡ schema_of other) (who : Who) where
  -- the same rows stand under each of these keys
  abbrev SameUnder : List RelKey → Type 0
  SameUnder keys = (key : RelKey) → In key keys → rows_at db key ≡ rows_at other key

  -- where the same rows stand under each key that is read, the rows of a variable are the same
  abbrev SameRows : ℕ → RelKey → List RelKey → Type 0
  SameRows n key reads = SameUnder reads → (attrs : List ℕ) → rows_within n db who key attrs ≡ rows_within n other who key attrs

  nothing_same : (n : ℕ) (key : RelKey) → range_at db key ≡ None → SameRows n key []
  nothing_same n key e same attrs =
      let there = nothing_alike (range_at db key) (range_at other key) (ranges_alike db other schema key) e in
      ap (λ rows. rows attrs) (said_at (rows_said db who) n db key None e) ∙ sym (ap (λ rows. rows attrs) (said_at (rows_said other who) n other key None there))

  kept_same : (n : ℕ) (key : RelKey) (relation : Relation) → range_at db key ≡ Some (Kept relation) → SameRows n key (key ∷ [])
  kept_same n key relation e same attrs =
      let there = kept_alike (range_at db key) (range_at other key) relation (ranges_alike db other schema key) e in
      let rows : relation.rows ≡ there.0.rows = sym (ap kept_rows e) ∙ same key (inl refl) ∙ ap kept_rows there.1 in
      ap (λ rows. rows attrs) (said_at (rows_said db who) n db key (Some (Kept relation)) e)
      ∙ (λ i. filter (λ row. may_same db other schema who Retrieve attrs key row i) (rows i))
      ∙ sym (ap (λ rows. rows attrs) (said_at (rows_said other who) n other key (Some (Kept there.0)) there.1))

  past_same : (key : RelKey) (view : View) → range_at db key ≡ Some (Viewed view) → SameRows zero key []
  past_same key view e same attrs =
      let there = view_alike (range_at db key) (range_at other key) view (ranges_alike db other schema key) e in
      ap (λ rows. rows attrs) (said_at (rows_said db who) zero db key (Some (Viewed view)) e)
      ∙ sym (ap (λ rows. rows attrs) (said_at (rows_said other who) zero other key (Some (Viewed view)) there))

  -- the used variables of a query, where it is so of what each key reads
  used_same : (reads : RelKey → List RelKey) (source others : Source) → ((key : RelKey) → SameUnder (reads key) → (attrs : List ℕ) → source key attrs ≡ others key attrs)
      → (q : Query) → SameUnder (vars_read reads q) → AgreeUsed source others q
  used_same reads source others below q same p inside attrs =
      below p.1 (λ key read. same key (In-flat_map (λ (p : ℕ × RelKey). reads p.1) (used_vars q) p key inside read)) attrs

  query_same : (reads : RelKey → List RelKey) (source others : Source) → ((key : RelKey) → SameUnder (reads key) → (attrs : List ℕ) → source key attrs ≡ others key attrs)
      → (q : Query) → SameUnder (vars_read reads q) → assigned source q ≡ assigned others q
  query_same reads source others below q same = assigned_same source others q (used_same reads source others below q same)

  view_same : (n : ℕ) (reads : RelKey → List RelKey) → ((key : RelKey) → SameRows n key (reads key)) → (key : RelKey) (view : View) → range_at db key ≡ Some (Viewed view)
      → SameRows (suc n) key (vars_read reads view.query)
  view_same n reads below key view e same attrs =
      let there = view_alike (range_at db key) (range_at other key) view (ranges_alike db other schema key) e in
      ap (λ rows. rows attrs) (said_at (rows_said db who) (suc n) db key (Some (Viewed view)) e)
      ∙ ap (rows_given no_aggs view.query) (query_same reads (rows_within n db who) (rows_within n other who) below view.query same)
      ∙ sym (ap (λ rows. rows attrs) (said_at (rows_said other who) (suc n) other key (Some (Viewed view)) there))

  within_same : (n : ℕ) (key : RelKey) → SameRows n key (said reads_said n db key)
  within_same =
      each_said reads_said db SameRows (record {
        nothing = λ n f key e. nothing_same n key e;
        kept = λ n f key relation e. kept_same n key relation e;
        view_past = past_same;
        view_above = view_same;
      })

  rows_same : (key : RelKey) → SameUnder (reads_of db key) → (attrs : List ℕ) → rows_of db who key attrs ≡ rows_of other who key attrs
  unfolding reads_of rows_of
  rows_same key same attrs = within_same greatest_level key same attrs

  -- ---- aggregates

  source_same : (source : AggSource) (attrs : List ℕ) → SameUnder (source_reads db source) → source_rows (rows_of db who) attrs source ≡ source_rows (rows_of other who) attrs source
  source_same (Named key) attrs same = rows_same key same attrs
  source_same (rows_of_query q) attrs same = ap (rows_given no_aggs q) (query_same (reads_of db) (rows_of db who) (rows_of other who) rows_same q same)

  arguments_same : (g : QAgg) (values : Option (List Value)) → fold_arguments db g values ≡ fold_arguments other g values
  arguments_same g None = refl
  arguments_same g (Some values) = ap (λ none. fold_values g.op none values) (none_same db other schema g)

  fold_same : (g : QAgg) → SameUnder (source_reads db g.source) → (link : Option Row) → fold_linked db (rows_of db who) g link ≡ fold_linked other (rows_of other who) g link
  fold_same g same None = refl
  fold_same g same (Some link) =
      ap (λ rows. fold_arguments db g (arguments g (filter (λ s. holds no_aggs g.qual (s ∷ []) && agree link (values_of g.by (s ∷ []))) rows)))
      (source_same g.source (used_in_aggregate g) same)
      ∙ arguments_same g (arguments g (folded_rows (rows_of other who) g link))

  aggregates_same : (gs : List QAgg) → SameUnder (flat_map (λ g. source_reads db g.source) gs) → AgreeOn (aggregates db who) (aggregates other who) gs
  unfolding aggregates
  aggregates_same gs same g inside e = fold_same g (λ key read. same key (In-flat_map (λ g. source_reads db g.source) gs g key inside read)) (values_of g.link e)

  -- ---- queries

  said_under : (keys : List RelKey) → HaveSameRows db other keys → SameUnder keys
  said_under keys same key inside = same key (In-Contains keys key inside)

  pub variables_agree : (q : Query) → HaveSameRows db other (query_reads db q) → AgreeUsed (rows_of db who) (rows_of other who) q
  unfolding query_reads
  variables_agree q same =
      used_same (reads_of db) (rows_of db who) (rows_of other who) rows_same q
      (λ key read. said_under (query_reads db q) same key (In-append_left (vars_read (reads_of db) q) (flat_map (λ g. source_reads db g.source) (query_aggregates q)) key read))

  pub aggregates_agree : (q : Query) → HaveSameRows db other (query_reads db q) → AgreeOn (aggregates db who) (aggregates other who) (query_aggregates q)
  unfolding query_reads
  aggregates_agree q same =
      aggregates_same (query_aggregates q)
      (λ key read. said_under (query_reads db q) same key (In-append_right (vars_read (reads_of db) q) (flat_map (λ g. source_reads db g.source) (query_aggregates q)) key read))

  pub rows_are_same : (key : RelKey) → HaveSameRows db other (reads_of db key) → (attrs : List ℕ) → rows_of db who key attrs ≡ rows_of other who key attrs
  rows_are_same key same attrs = rows_same key (said_under (reads_of db key) same) attrs

  pub answers_are_same : (q : Query) → HaveSameRows db other (query_reads db q) → answer db who q ≡ answer other who q
  unfolding answer
  answers_are_same q same =
      ap (rows_given (aggregates db who) q) (assigned_same (rows_of db who) (rows_of other who) q (variables_agree q same))
      ∙ given_agree (aggregates db who) (aggregates other who) q (assigned (rows_of other who) q) (aggregates_agree q same)

  pub lacks_are_same : (q : Query) → HaveSameRows db other (query_reads db q) → lacks db who q ≡ lacks other who q
  unfolding lacks
  lacks_are_same q same =
      ap (some_lacks (aggregates db who) q) (assigned_same (rows_of db who) (rows_of other who) q (variables_agree q same))
      ∙ lacks_agree (aggregates db who) (aggregates other who) q (assigned (rows_of other who) q) (aggregates_agree q same)
