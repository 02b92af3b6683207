-- Trees whose constants are ones keep such constants once views, permits and rules are put in.
use Rattle.std.proofs.Common.{◌≡◌, refl, ℕ, zero, suc, ◌+◌, Bool, true, false, ◌&&◌, ◌==◌, List, [], ◌∷◌, ◌++◌, map, filter, length, Option, Some, None}
use Rattle.std.specs.Prelude.{nat_le}
use Rattle.std.specs.List.{list_all, enumerate_from}
use Rattle.std.proofs.lemmas.Bool.{and_parts}
use Rattle.calculus.specs.declared.query.AggSource.{AggSource, Named}
use Rattle.calculus.specs.declared.query.QQual.{QQual}
use Rattle.calculus.specs.declared.query.QQual.TheVariants as quals
use Rattle.calculus.specs.declared.query.QTerm.{QTerm, Agg', items-the_row-QTerm, Row_of-QTerm, end_of-QTerm, more_of-QTerm, Row_of-QAgg, end_of-QAgg, more_of-QAgg}
use Rattle.calculus.specs.declared.query.QTerm.TheVariants as terms
use Rattle.calculus.specs.declared.query.Query.{Query, Query', items-the_row-Target, Row_of-Target, end_of-Target, more_of-Target}
use Rattle.calculus.specs.declared.query.RelKey.{RelKey}
use Rattle.calculus.specs.declared.query.Target.{Target}
use Rattle.calculus.specs.declared.request.Asked.{Asked}
use Rattle.calculus.specs.declared.request.Checked.{Checked}
use Rattle.calculus.specs.declared.request.Checked.TheVariants as checked
use Rattle.calculus.specs.declared.request.Update.{Update}
use Rattle.calculus.specs.declared.request.UpdateOp.{UpdateOp}
use Rattle.calculus.specs.declared.request.UpdateOp.TheVariants as op
use Rattle.calculus.specs.declared.schema.Permit.{Permit}
use Rattle.calculus.specs.declared.schema.Rule.{Rule}
use Rattle.calculus.specs.Assignments.{changed}
use Rattle.calculus.specs.Chars.{is_chars}
use Rattle.calculus.specs.Database.{Db, View, permits_on, rules_on}
use Rattle.calculus.specs.IsDatabase.{IsDatabase}
use Rattle.calculus.specs.Keys.{same_key}
use Rattle.calculus.specs.Limits.{most_levels}
use Rattle.calculus.specs.Name.{is_name}
use Rattle.calculus.specs.Pairs.{ruled}
use Rattle.calculus.specs.QueryParts.{vars_of, targets_of, qual_of}
use Rattle.calculus.specs.Rights.{Right, Retrieve, Append, covers, needs_none}
use Rattle.calculus.specs.Spelled.{term_is_spelled, aggregate_is_spelled, source_is_spelled, terms_are_spelled, qual_is_spelled, targets_are_spelled, query_is_spelled}
use Rattle.calculus.specs.Storable.{query_is_storable, row_qual_is_small, row_qual_is_storable}
use Rattle.calculus.specs.Stored.{Range, Kept, Viewed, range_at}
use Rattle.calculus.specs.Term.{holds, no_aggs}
use Rattle.calculus.specs.Tree as tree
use Rattle.calculus.specs.TreeLevels.{query_levels}
use Rattle.calculus.specs.Used.{used_in_query, used_in_aggregate}
use Rattle.calculus.specs.Who.{Who, Asker, Unrestricted, AsUser}
use Rattle.calculus_laws.proofs.SameRows.{all_at}
use Rattle.calculus_laws.proofs.Through.{each_said}
use Rattle.quel_meaning.specs.Meaning.{ruled_tree}
use Rattle.quel_meaning.specs.SpelledTree.{made_key_is_spelled, update_is_spelled, tree_is_spelled}
use Rattle.quel_meaning.proofs.Each.{Each, both_of, in_map, in_filter, each_to, each_passes, passed, and}
use Rattle.view_text.specs.declared.expansion.Expansion.{Expansion}
use Rattle.view_text.specs.Halves.{Joining, paired, chained, joined_within, all_of, any_of}
use Rattle.view_text.specs.Replaced.{Substitution, replaced, replaced_in_qual, replaced_target, no_aggregate, further, shifted, shifted_qual, of_only}
use Rattle.view_text.specs.Expansions.{ExpansionSource, term_at, attr_term, used_expansion, query_expansions, expansions_vars, substituted_from, conditions_from}
use Rattle.view_text.specs.ExpansionOf.{permit_condition, covering, restriction, kept_expansion, past_expansion, has_value, substituted_terms, rows_conditions, settled, view_text, expansion_within, expansion_of}
use Rattle.view_text.specs.Expanded.{substituted_query, expanded_range, expanded_source, range_restriction, source_restriction, put_row, expanded_made, expanded_over, expanded, read_restriction, changed_expansion, update_expansion, update_expansions, append_restriction, expanded_update, expanded_asked, expanded_tree}
use Rattle.tree_laws.proofs.Denoted.{expansions_said}
use Rattle.tree_laws.proofs.Counted.{all_expansions}
use Rattle.tree_laws.proofs.TextLaws.{view_in}

-- constants that are ones
abbrev Term : QTerm → Type 0
Term t = term_is_spelled t ≡ true

abbrev Qual : QQual → Type 0
Qual q = qual_is_spelled q ≡ true

-- ---- terms in place of attributes

module _ (made : QTerm → QTerm) (put : Substitution) (makes : (t : QTerm) → Term t → Term (made t)) (puts : (v a : ℕ) → Term (put v a)) where
  term_replaced : (t : QTerm) → Term t → Term (replaced made put t)
  unfolding replaced
  term_replaced (terms.Int n) h = h
  term_replaced (terms.Chars bytes) h = h
  term_replaced (terms.Attr var attr) h = puts var attr
  term_replaced (tree.neg t) h = term_replaced t h
  term_replaced (tree.abs t) h = term_replaced t h
  term_replaced (tree.operation o t u) h =
      let two = and_parts (term_is_spelled t) (term_is_spelled u) h in and (term_is_spelled (replaced made put t)) (term_is_spelled (replaced made put u)) (term_replaced t two.0) (term_replaced u two.1)
  term_replaced (tree.concat t u) h =
      let two = and_parts (term_is_spelled t) (term_is_spelled u) h in and (term_is_spelled (replaced made put t)) (term_is_spelled (replaced made put u)) (term_replaced t two.0) (term_replaced u two.1)
  term_replaced (Agg' mark row) h = makes (Agg' mark row) h

  qual_replaced : (q : QQual) → Qual q → Qual (replaced_in_qual made put q)
  unfolding replaced_in_qual
  qual_replaced quals.True h = refl
  qual_replaced (quals.Cmp o t u) h =
      let two = and_parts (term_is_spelled t) (term_is_spelled u) h in and (term_is_spelled (replaced made put t)) (term_is_spelled (replaced made put u)) (term_replaced t two.0) (term_replaced u two.1)
  qual_replaced (quals.Like t pattern same) h =
      let two = and_parts (term_is_spelled t) (is_chars pattern) h in and (term_is_spelled (replaced made put t)) (is_chars pattern) (term_replaced t two.0) two.1
  qual_replaced (tree.both p q) h =
      let two = and_parts (qual_is_spelled p) (qual_is_spelled q) h in and (qual_is_spelled (replaced_in_qual made put p)) (qual_is_spelled (replaced_in_qual made put q)) (qual_replaced p two.0) (qual_replaced q two.1)
  qual_replaced (tree.either p q) h =
      let two = and_parts (qual_is_spelled p) (qual_is_spelled q) h in and (qual_is_spelled (replaced_in_qual made put p)) (qual_is_spelled (replaced_in_qual made put q)) (qual_replaced p two.0) (qual_replaced q two.1)
  qual_replaced (tree.negated q) h = qual_replaced q h

none_made : (t : QTerm) → Term t → Term (no_aggregate t)
none_made t h = refl

shifted_term : (n : ℕ) (t : QTerm) → Term t → Term (shifted n t)
shifted_term n t h = term_replaced no_aggregate (further n) none_made (λ v a. refl) t h

shifted_each : (n : ℕ) (qs : List QQual) → Each Qual qs → Each Qual (map (shifted_qual n) qs)
shifted_each n [] h = tt
shifted_each n (q ∷ qs) h = (qual_replaced no_aggregate (further n) none_made (λ v a. refl) q h.0, shifted_each n qs h.1)

-- ---- what is joined

module _ (join : Joining) (none : QQual) (joins : (p q : QQual) → Qual p → Qual q → Qual (join p q)) (nothing : Qual none) where
  paired_each : (qs : List QQual) → Each Qual qs → Each Qual (paired join qs)
  unfolding paired
  paired_each [] h = tt
  paired_each (p ∷ []) h = h
  paired_each (p ∷ q ∷ more) h = (joins p q h.0 h.1.0, paired_each more h.1.1)

  chained_one : (qs : List QQual) → Each Qual qs → Qual (chained join none qs)
  unfolding chained
  chained_one [] h = nothing
  chained_one (p ∷ []) h = h.0
  chained_one (p ∷ q ∷ more) h = joins p (chained join none (q ∷ more)) h.0 (chained_one (q ∷ more) h.1)

  joined_one : (n : ℕ) (qs : List QQual) → Each Qual qs → Qual (joined_within n join none qs)
  unfolding joined_within
  joined_one zero qs h = chained_one qs h
  joined_one (suc n) qs h = joined_one n (paired join qs) (paired_each qs h)

all_one : (qs : List QQual) → Each Qual qs → Qual (all_of qs)
all_one qs h = joined_one tree.both quals.True (λ p q h k. and (qual_is_spelled p) (qual_is_spelled q) h k) refl (length qs) qs h

any_one : (qs : List QQual) → Each Qual qs → Qual (any_of qs)
any_one qs h = joined_one tree.either (tree.negated quals.True) (λ p q h k. and (qual_is_spelled p) (qual_is_spelled q) h k) refl (length qs) qs h

-- ---- texts

-- the terms and the conditions of a text
record IsOne (text : Expansion) : Type 0 where
  attr : (a : ℕ) → Term (attr_term text a)
  conditions : Each Qual text.conditions

put_term : (texts : List Expansion) → Each IsOne texts → (n v a : ℕ) → Term (substituted_from n texts v a)
put_term [] h n v a = refl
put_term (text ∷ texts) h n zero a = shifted_term n (attr_term text a) (h.0.attr a)
put_term (text ∷ texts) h n (suc v) a = put_term texts h.1 (n + length text.vars) v a

conditions_each : (texts : List Expansion) → Each IsOne texts → (n : ℕ) → Each Qual (conditions_from n texts)
conditions_each [] h n = tt
conditions_each (text ∷ texts) h n =
    both_of Qual (map (shifted_qual n) text.conditions) (conditions_from (n + length text.vars) texts) (shifted_each n text.conditions h.0.conditions) (conditions_each texts h.1 (n + length text.vars))

settled_each : (vars : List RelKey) (conditions : List QQual) → Each Qual conditions → Each Qual (settled vars conditions)
unfolding settled
settled_each [] conditions h = by (list_all (λ q. holds no_aggs q []) conditions)
  where
    by : (b : Bool) → Each Qual (elim b [ true ↦ [] | false ↦ tree.negated quals.True ∷ [] ])
    by true = tt
    by false = (refl, tt)
settled_each (key ∷ vars) conditions h = h

-- ---- parts of queries

-- a target has a name, and constants that are ones
abbrev Named' : Target → Type 0
Named' t = (is_name t.name ≡ true) × Term t.term

row_targets : {n : _} (row : Row_of-Target n) → targets_are_spelled row ≡ true → Each Named' (items-the_row-Target _ row)
row_targets end_of-Target h = tt
row_targets (more_of-Target name kind t rest) h =
    let one = and_parts (is_name name) (term_is_spelled t && targets_are_spelled rest) h in let two = and_parts (term_is_spelled t) (targets_are_spelled rest) one.1 in
    ((one.0, two.0), row_targets rest two.1)

targets_row : (ts : List Target) → Each Named' ts → targets_are_spelled (tree.target_row ts) ≡ true
targets_row [] h = refl
targets_row (t ∷ ts) h = and (is_name t.name) (term_is_spelled t.term && targets_are_spelled (tree.target_row ts)) h.0.0 (and (term_is_spelled t.term) (targets_are_spelled (tree.target_row ts)) h.0.1 (targets_row ts h.1))

query_parts : (q : Query) → query_is_spelled q ≡ true → Each Named' (targets_of q) × Qual (qual_of q)
query_parts (Query' vars marks targets q) h = let two = and_parts (targets_are_spelled targets) (qual_is_spelled q) h in (row_targets targets two.0, two.1)

targets_replaced : (made : QTerm → QTerm) (put : Substitution) → ((t : QTerm) → Term t → Term (made t)) → ((v a : ℕ) → Term (put v a)) → (ts : List Target) → Each Named' ts → Each Named' (map (replaced_target made put) ts)
targets_replaced made put makes puts [] h = tt
targets_replaced made put makes puts (t ∷ ts) h = ((h.0.0, term_replaced made put makes puts t.term h.0.1), targets_replaced made put makes puts ts h.1)

query_one : (made : QTerm → QTerm) (texts : List Expansion) (q : Query) → ((t : QTerm) → Term t → Term (made t)) → Each IsOne texts → query_is_spelled q ≡ true → query_is_spelled (substituted_query made texts q) ≡ true
query_one made texts q makes all h =
    let two = query_parts q h in
    let puts = put_term texts all 0 in
    and (targets_are_spelled (tree.target_row (map (replaced_target made (substituted_from 0 texts)) (targets_of q)))) (qual_is_spelled (all_of (replaced_in_qual made (substituted_from 0 texts) (qual_of q) ∷ conditions_from 0 texts)))
    (targets_row (map (replaced_target made (substituted_from 0 texts)) (targets_of q)) (targets_replaced made (substituted_from 0 texts) makes puts (targets_of q) two.0))
    (all_one (replaced_in_qual made (substituted_from 0 texts) (qual_of q) ∷ conditions_from 0 texts) (qual_replaced made (substituted_from 0 texts) makes puts (qual_of q) two.1, conditions_each texts all 0))

-- the terms of targets, where they stand
terms_of : (made : QTerm → QTerm) (put : Substitution) → ((t : QTerm) → Term t → Term (made t)) → ((v a : ℕ) → Term (put v a)) → (ts : List Target) → Each Named' ts → Each Term (map (λ t. replaced made put t.term) ts)
terms_of made put makes puts [] h = tt
terms_of made put makes puts (t ∷ ts) h = (term_replaced made put makes puts t.term h.0.1, terms_of made put makes puts ts h.1)

term_there : (ts : List QTerm) → Each Term ts → (a : ℕ) → Term (term_at ts a)
term_there [] h a = refl
term_there (t ∷ ts) h zero = h.0
term_there (t ∷ ts) h (suc a) = term_there ts h.1 a

values_each : (ts : List QTerm) → Each Term ts → Each Qual (map has_value ts)
values_each [] h = tt
values_each (t ∷ ts) h = (and (term_is_spelled t) (term_is_spelled t) h.0 h.0, values_each ts h.1)

-- ---- in a database

module _ (db : Db) (d : IsDatabase db) (who : Who) where
  permits_each : (key : RelKey) → Each (λ (p : Permit). Qual p.qual) (permits_on db key)
  permits_each key =
      in_map (λ (p : Permit). Qual p.qual) (λ (p : RelKey × Permit). p.1) (filter (λ p. same_key p.0 key) db.permits)
      (in_filter (λ (p : RelKey × Permit). Qual p.1.qual) (λ p. same_key p.0 key) db.permits
      (each_to (λ (p : RelKey × Permit). row_qual_is_storable p.1.qual ≡ true) (λ (p : RelKey × Permit). Qual p.1.qual) (λ p h. (and_parts (row_qual_is_small p.1.qual) (qual_is_spelled p.1.qual) h).1) db.permits
      (each_passes (λ (p : RelKey × Permit). row_qual_is_storable p.1.qual) db.permits d.storable_permits)))

  only_put : (v a : ℕ) → Term (of_only v a)
  only_put zero a = refl
  only_put (suc v) a = refl

  conditions_of : (ps : List Permit) → Each (λ (p : Permit). Qual p.qual) ps → Each Qual (map permit_condition ps)
  conditions_of [] h = tt
  conditions_of (p ∷ ps) h = (qual_replaced no_aggregate of_only none_made only_put p.qual h.0, conditions_of ps h.1)

  restriction_by : (asker : Asker) (right : Right) (attrs : List ℕ) (key : RelKey) (b : Bool) → Each Qual (elim b as (λ b. List QQual) [ true ↦ [] | false ↦ any_of (map permit_condition (covering db asker right attrs key)) ∷ [] ])
  restriction_by asker right attrs key true = tt
  restriction_by asker right attrs key false =
      (any_one (map permit_condition (covering db asker right attrs key)) (conditions_of (covering db asker right attrs key) (in_filter (λ (p : Permit). Qual p.qual) (λ p. covers p asker right attrs) (permits_on db key) (permits_each key))), tt)

  restriction_each : (w : Who) (right : Right) (attrs : List ℕ) (key : RelKey) → Each Qual (restriction db w right attrs key)
  restriction_each Unrestricted right attrs key = tt
  restriction_each (AsUser asker) right attrs key = restriction_by asker right attrs key (needs_none db asker right key)

  kept_one : (conditions : List QQual) (key : RelKey) → Each Qual conditions → IsOne (kept_expansion conditions key)
  kept_one conditions key h = record { attr = λ a. refl; conditions = h }

  used_one : (texts : ExpansionSource) → ((key : RelKey) (attrs : List ℕ) → IsOne (texts key attrs)) → (key : RelKey) (attrs : List ℕ) → IsOne (used_expansion texts key attrs)
  used_one texts h key [] = record { attr = λ a. refl; conditions = tt }
  used_one texts h key (a ∷ attrs) = h key (a ∷ attrs)

  each_text : (texts : ExpansionSource) → ((key : RelKey) (attrs : List ℕ) → IsOne (texts key attrs)) → (q : Query) → Each IsOne (query_expansions texts q)
  each_text texts h q = all_expansions IsOne texts (used_one texts h) q 0 (vars_of q)

  stored_view : (key : RelKey) (view : View) → range_at db key ≡ Some (Viewed view) → query_is_spelled view.query ≡ true
  stored_view key view e =
      (and_parts (nat_le (query_levels view.query) most_levels) (query_is_spelled view.query) (all_at (λ (v : View). query_is_storable v.query) db.views view (view_in db d key view e) d.storable_views)).1

  view_one : (texts : ExpansionSource) → ((key : RelKey) (attrs : List ℕ) → IsOne (texts key attrs)) → (key : RelKey) (view : View) → range_at db key ≡ Some (Viewed view) → IsOne (view_text texts view)
  view_one texts h key view e =
      let two = query_parts view.query (stored_view key view e) in
      let all = each_text texts h view.query in
      let puts = put_term (query_expansions texts view.query) all 0 in
      let put = terms_of no_aggregate (substituted_from 0 (query_expansions texts view.query)) none_made puts (targets_of view.query) two.0 in
      record {
        attr = term_there (substituted_terms (query_expansions texts view.query) view.query) put;
        conditions = settled_each (expansions_vars (query_expansions texts view.query)) (rows_conditions (query_expansions texts view.query) view.query) (
          qual_replaced no_aggregate (substituted_from 0 (query_expansions texts view.query)) none_made puts (qual_of view.query) two.1,
          both_of Qual (map has_value (substituted_terms (query_expansions texts view.query) view.query)) (conditions_from 0 (query_expansions texts view.query))
              (values_each (substituted_terms (query_expansions texts view.query) view.query) put) (conditions_each (query_expansions texts view.query) all 0),
        );
      }

  past_one : IsOne past_expansion
  past_one = record { attr = λ a. refl; conditions = (refl, tt) }

  within_one : (n : ℕ) (key : RelKey) (attrs : List ℕ) → IsOne (expansion_within n db who key attrs)
  within_one n key =
      each_said (expansions_said db who) db (λ n key text. (attrs : List ℕ) → IsOne (text attrs))
      (record {
        nothing = λ n f key e attrs. kept_one (restriction db who Retrieve attrs key) key (restriction_each who Retrieve attrs key);
        kept = λ n f key relation e attrs. kept_one (restriction db who Retrieve attrs key) key (restriction_each who Retrieve attrs key);
        view_past = λ key view e attrs. past_one;
        view_above = λ n f below key view e attrs. view_one f below key view e;
      })
      n key

  text_one : (key : RelKey) (attrs : List ℕ) → IsOne (expansion_of db who key attrs)
  unfolding expansion_of
  text_one key attrs = within_one 16 key attrs

  -- ---- aggregates

  source_one : (s : AggSource) → source_is_spelled s ≡ true → source_is_spelled (expanded_source db who s) ≡ true
  source_one (Named key) h = by (range_at db key) refl
    where
      by : (r : Option Range) → range_at db key ≡ r → source_is_spelled (expanded_range db who key r) ≡ true
      by None e = refl
      by (Some (Kept relation)) e = refl
      by (Some (Viewed view)) e = query_one no_aggregate (query_expansions (expansion_within 15 db who) view.query) view.query none_made (each_text (expansion_within 15 db who) (within_one 15) view.query) (stored_view key view e)
  source_one (tree.rows_of_query q) h = query_one no_aggregate (query_expansions (expansion_of db who) q) q none_made (each_text (expansion_of db who) text_one q) h

  source_restriction_each : (attrs : List ℕ) (s : AggSource) → Each Qual (source_restriction db who attrs s)
  source_restriction_each attrs (Named key) = by (range_at db key)
    where
      by : (r : Option Range) → Each Qual (range_restriction db who attrs key r)
      by None = restriction_each who Retrieve attrs key
      by (Some (Kept relation)) = restriction_each who Retrieve attrs key
      by (Some (Viewed view)) = tt
  source_restriction_each attrs (tree.rows_of_query q) = tt

  row_again : {n : _} (row : Row_of-QTerm n) → terms_are_spelled row ≡ true → terms_are_spelled (tree.term_row (items-the_row-QTerm _ row)) ≡ true
  row_again end_of-QTerm h = refl
  row_again (more_of-QTerm t rest) h =
      let two = and_parts (term_is_spelled t) (terms_are_spelled rest) h in and (term_is_spelled t) (terms_are_spelled (tree.term_row (items-the_row-QTerm _ rest))) two.0 (row_again rest two.1)

  module _ (put : Substitution) (puts : (v a : ℕ) → Term (put v a)) where
    links_replaced : {n : _} (row : Row_of-QTerm n) → terms_are_spelled row ≡ true → terms_are_spelled (tree.term_row (map (replaced no_aggregate put) (items-the_row-QTerm _ row))) ≡ true
    links_replaced end_of-QTerm h = refl
    links_replaced (more_of-QTerm t rest) h =
        let two = and_parts (term_is_spelled t) (terms_are_spelled rest) h in
        and (term_is_spelled (replaced no_aggregate put t)) (terms_are_spelled (tree.term_row (map (replaced no_aggregate put) (items-the_row-QTerm _ rest))))
        (term_replaced no_aggregate put none_made puts t two.0) (links_replaced rest two.1)

    row_one : {n : _} (row : Row_of-QAgg n) → aggregate_is_spelled row ≡ true → Term (put_row db who put row)
    row_one end_of-QAgg h = refl
    row_one (more_of-QAgg slot o source arg bys by links link q rest) h =
        let one = and_parts (source_is_spelled source) _ h in
        let two = and_parts (term_is_spelled arg) _ one.1 in
        let three = and_parts (terms_are_spelled by) _ two.1 in
        let four = and_parts (terms_are_spelled link) (qual_is_spelled q) three.1 in
        let attrs = used_in_aggregate (record { slot = slot; op = o; source = source; arg = arg; by = items-the_row-QTerm _ by; link = items-the_row-QTerm _ link; qual = q }) in
        and (source_is_spelled (expanded_source db who source)) _ (source_one source one.0)
        (and (term_is_spelled arg) _ two.0
        (and (terms_are_spelled (tree.term_row (items-the_row-QTerm _ by))) _ (row_again by three.0)
        (and (terms_are_spelled (tree.term_row (map (replaced no_aggregate put) (items-the_row-QTerm _ link)))) (qual_is_spelled (all_of (q ∷ source_restriction db who attrs source))) (links_replaced link four.0)
        (all_one (q ∷ source_restriction db who attrs source) (four.1, source_restriction_each attrs source)))))

    made_one : (t : QTerm) → Term t → Term (expanded_made db who put t)
    made_one (terms.Int n) h = refl
    made_one (terms.Chars bytes) h = refl
    made_one (terms.Attr var attr) h = refl
    made_one (tree.neg t) h = refl
    made_one (tree.abs t) h = refl
    made_one (tree.operation o t u) h = refl
    made_one (tree.concat t u) h = refl
    made_one (Agg' mark row) h = row_one row h

  over_one : (texts : List Expansion) (q : Query) → Each IsOne texts → query_is_spelled q ≡ true → query_is_spelled (expanded_over db who texts q) ≡ true
  over_one texts q all h = query_one (expanded_made db who (substituted_from 0 texts)) texts q (made_one (substituted_from 0 texts) (put_term texts all 0)) all h

  -- ---- updates

  read_each : (attrs : List ℕ) (key : RelKey) → Each Qual (read_restriction db who attrs key)
  read_each [] key = tt
  read_each (a ∷ attrs) key = restriction_each who Retrieve (a ∷ attrs) key

  changed_one : (right : Right) (places read : List ℕ) (key : RelKey) → IsOne (changed_expansion db who right places read key)
  changed_one right places read key =
      kept_one (restriction db who right places key ++ read_restriction db who read key) key (both_of Qual (restriction db who right places key) (read_restriction db who read key) (restriction_each who right places key) (read_each read key))

  update_one : (u : Update) (v : ℕ) (key : RelKey) → IsOne (update_expansion db who u v key)
  update_one u v key = by (changed u)
    where
      at : (right : Right) (b : Bool) → IsOne (elim b [
        | true ↦ changed_expansion db who right u.places (used_in_query v u.query) key
        | false ↦ used_expansion (expansion_of db who) key (used_in_query v u.query)
      ])
      at right true = changed_one right u.places (used_in_query v u.query) key
      at right false = used_one (expansion_of db who) text_one key (used_in_query v u.query)

      by : (c : Option (ℕ × Right)) → IsOne (elim c [
        | None ↦ used_expansion (expansion_of db who) key (used_in_query v u.query)
        | Some c ↦ elim (c.0 == v) [
          | true ↦ changed_expansion db who c.1 u.places (used_in_query v u.query) key
          | false ↦ used_expansion (expansion_of db who) key (used_in_query v u.query)
        ]
      ])
      by None = used_one (expansion_of db who) text_one key (used_in_query v u.query)
      by (Some c) = at c.1 (c.0 == v)

  each_update : (u : Update) (k : ℕ) (keys : List RelKey) → Each IsOne (map (λ p. update_expansion db who u p.0 p.1) (enumerate_from k keys))
  each_update u k [] = tt
  each_update u k (key ∷ keys) = (update_one u k key, each_update u (k + 1) keys)

  new_cut_one : (u : Update) (o : UpdateOp) → Qual u.new_cut → Qual (append_restriction db who u o)
  new_cut_one u op.Append h = all_one (u.new_cut ∷ restriction db who Append u.places u.rel) (h, restriction_each who Append u.places u.rel)
  new_cut_one u op.Replace h = h
  new_cut_one u op.Delete h = h
  new_cut_one u op.Into h = h

  update_spelled : (u : Update) → update_is_spelled u ≡ true → update_is_spelled (expanded_update db who u) ≡ true
  unfolding update_is_spelled expanded_update
  update_spelled u h =
      let one = and_parts (made_key_is_spelled u) _ h in
      let two = and_parts (query_is_spelled u.query) _ one.1 in
      let three = and_parts (qual_is_spelled u.new_cut) (list_all qual_is_spelled u.checks) two.1 in
      and (made_key_is_spelled u) _ one.0
      (and (query_is_spelled (expanded_over db who (update_expansions db who u) u.query)) _ (over_one (update_expansions db who u) u.query (each_update u 0 (vars_of u.query)) two.0)
      (and (qual_is_spelled (append_restriction db who u u.op)) (list_all qual_is_spelled u.checks) (new_cut_one u u.op three.0) three.1))

  -- ---- trees

  asked_spelled : (asked : List Asked) → list_all (λ (a : Asked). query_is_spelled a.query) asked ≡ true → list_all (λ (a : Asked). query_is_spelled a.query) (map (expanded_asked db who) asked) ≡ true
  unfolding expanded
  asked_spelled [] h = refl
  asked_spelled (a ∷ asked) h =
      let two = and_parts (query_is_spelled a.query) (list_all (λ (a : Asked). query_is_spelled a.query) asked) h in
      and (query_is_spelled (expanded db who a.query)) (list_all (λ (a : Asked). query_is_spelled a.query) (map (expanded_asked db who) asked))
      (over_one (query_expansions (expansion_of db who) a.query) a.query (each_text (expansion_of db who) text_one a.query) two.0) (asked_spelled asked two.1)

  put_spelled : (tree : Checked) → tree_is_spelled tree ≡ true → tree_is_spelled (expanded_tree db who tree) ≡ true
  unfolding tree_is_spelled expanded_tree
  put_spelled (checked.Answer asked) h = asked_spelled asked h
  put_spelled (checked.Update u) h = update_spelled u h
  put_spelled (checked.Utility work) h = h

  rules_each : (key : RelKey) → Each Qual (map (λ (r : Rule). r.qual) (rules_on db key))
  rules_each key =
      in_map Qual (λ (r : Rule). r.qual) (rules_on db key)
      (in_map (λ (r : Rule). Qual r.qual) (λ (p : RelKey × Rule). p.1) (filter (λ p. same_key p.0 key) db.rules)
      (in_filter (λ (p : RelKey × Rule). Qual p.1.qual) (λ p. same_key p.0 key) db.rules
      (each_to (λ (p : RelKey × Rule). row_qual_is_storable p.1.qual ≡ true) (λ (p : RelKey × Rule). Qual p.1.qual) (λ p h. (and_parts (row_qual_is_small p.1.qual) (qual_is_spelled p.1.qual) h).1) db.rules
      (each_passes (λ (p : RelKey × Rule). row_qual_is_storable p.1.qual) db.rules d.storable_rules))))

  with_rules : (u : Update) → update_is_spelled u ≡ true → update_is_spelled (record u { checks = map (λ (r : Rule). r.qual) (rules_on db u.rel) ++ u.checks }) ≡ true
  unfolding update_is_spelled
  with_rules u h =
      let one = and_parts (made_key_is_spelled u) _ h in
      let two = and_parts (query_is_spelled u.query) _ one.1 in
      let three = and_parts (qual_is_spelled u.new_cut) (list_all qual_is_spelled u.checks) two.1 in
      and (made_key_is_spelled u) _ one.0
      (and (query_is_spelled u.query) _ two.0
      (and (qual_is_spelled u.new_cut) (list_all qual_is_spelled (map (λ (r : Rule). r.qual) (rules_on db u.rel) ++ u.checks)) three.0
      (passed qual_is_spelled (map (λ (r : Rule). r.qual) (rules_on db u.rel) ++ u.checks)
      (both_of Qual (map (λ (r : Rule). r.qual) (rules_on db u.rel)) u.checks (rules_each u.rel) (each_passes qual_is_spelled u.checks three.1)))))

  ruled_op : (u : Update) (o : UpdateOp) → update_is_spelled (record u { op = o }) ≡ true → update_is_spelled (ruled db (record u { op = o })) ≡ true
  unfolding ruled
  ruled_op u op.Append h = with_rules (record u { op = op.Append }) h
  ruled_op u op.Replace h = with_rules (record u { op = op.Replace }) h
  ruled_op u op.Delete h = with_rules (record u { op = op.Delete }) h
  ruled_op u op.Into h = h

  ruled_spelled : (tree : Checked) → tree_is_spelled tree ≡ true → tree_is_spelled (ruled_tree db tree) ≡ true
  unfolding tree_is_spelled ruled_tree
  ruled_spelled (checked.Answer asked) h = h
  ruled_spelled (checked.Update u) h = ruled_op u u.op h
  ruled_spelled (checked.Utility work) h = h

  -- with what is put in, and the rules of the relation that it changes
  pub all_spelled : (tree : Checked) → tree_is_spelled tree ≡ true → tree_is_spelled (ruled_tree db (expanded_tree db who tree)) ≡ true
  all_spelled tree h = ruled_spelled (expanded_tree db who tree) (put_spelled tree h)
