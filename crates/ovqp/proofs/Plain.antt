-- Where no aggregates stand, what aggregates give doesn't count.
use Rattle.std.proofs.Common.{◌≡◌, refl, ap, not, ◌&&◌, ◌||◌, List, [], ◌∷◌, filter_map}
use Rattle.std.specs.Prelude.{filter, is_none}
use Rattle.std.specs.List.{list_any, flat_map}
use Rattle.calculus.specs.declared.query.QTerm.{QTerm, Int, Chars, Attr, Agg', Row_of-QAgg, end_of-QAgg, more_of-QAgg}
use Rattle.calculus.specs.declared.query.QQual.{QQual, True, Cmp, Like}
use Rattle.calculus.specs.declared.query.Query.{Query}
use Rattle.calculus.specs.declared.query.Target.{Target}
use Rattle.calculus.specs.Tree.{neg, abs, operation, concat, both, either, negated}
use Rattle.calculus.specs.Aggregate.{aggregates}
use Rattle.calculus.specs.Answer.{answer, lacks}
use Rattle.calculus.specs.Assignments.{assigned}
use Rattle.calculus.specs.Database.{Db}
use Rattle.calculus.specs.QueryParts.{aggregates_of, term_aggregates, qual_aggregates, query_aggregates, targets_of, qual_of}
use Rattle.calculus.specs.Rows.{set_of}
use Rattle.calculus.specs.Targets.{target_values, rows_given, some_lacks}
use Rattle.calculus.specs.Term.{Env, Aggs, val, holds, aggregate_value, opposite_value, value_without_sign, operated_values, joined_values, compared_values, matched_value, value_before}
use Rattle.calculus.specs.VariableRows.{rows_of}
use Rattle.calculus.specs.Who.{Who}
use Rattle.quel_meaning.proofs.KindFacts.{none_before, none_behind}

same_row : (aggs others : Aggs) {n : _} (row : Row_of-QAgg n) (e : Env) → aggregates_of row ≡ [] → aggregate_value aggs row e ≡ aggregate_value others row e
same_row aggs others end_of-QAgg e h = refl
same_row aggs others (more_of-QAgg slot op source arg bys by links link qual rest) e h = absurd (cc h)

-- the value of a term
pub same_value : (aggs others : Aggs) (t : QTerm) (e : Env) → term_aggregates t ≡ [] → val aggs t e ≡ val others t e
unfolding term_aggregates val
same_value aggs others (Int n) e h = refl
same_value aggs others (Chars bytes) e h = refl
same_value aggs others (Attr var attr) e h = refl
same_value aggs others (neg t) e h = ap opposite_value (same_value aggs others t e h)
same_value aggs others (abs t) e h = ap value_without_sign (same_value aggs others t e h)
same_value aggs others (operation op t u) e h =
    λ i. operated_values op (same_value aggs others t e (none_before _ (term_aggregates u) h) i) (same_value aggs others u e (none_behind (term_aggregates t) _ h) i)
same_value aggs others (concat t u) e h =
    λ i. joined_values (same_value aggs others t e (none_before _ (term_aggregates u) h) i) (same_value aggs others u e (none_behind (term_aggregates t) _ h) i)
same_value aggs others (Agg' mark row) e h = same_row aggs others row e h

-- the truth of a qualification
pub same_truth : (aggs others : Aggs) (q : QQual) (e : Env) → qual_aggregates q ≡ [] → holds aggs q e ≡ holds others q e
unfolding qual_aggregates holds
same_truth aggs others True e h = refl
same_truth aggs others (Cmp op t u) e h =
    λ i. compared_values op (same_value aggs others t e (none_before _ (term_aggregates u) h) i) (same_value aggs others u e (none_behind (term_aggregates t) _ h) i)
same_truth aggs others (Like t pattern same) e h = ap (matched_value pattern same) (same_value aggs others t e h)
same_truth aggs others (both p q) e h =
    λ i. same_truth aggs others p e (none_before _ (qual_aggregates q) h) i && same_truth aggs others q e (none_behind (qual_aggregates p) _ h) i
same_truth aggs others (either p q) e h =
    λ i. same_truth aggs others p e (none_before _ (qual_aggregates q) h) i || same_truth aggs others q e (none_behind (qual_aggregates p) _ h) i
same_truth aggs others (negated p) e h = ap not (same_truth aggs others p e h)

-- the values of targets
pub same_targets : (aggs others : Aggs) (ts : List Target) (e : Env) → flat_map (λ t. term_aggregates t.term) ts ≡ [] → target_values aggs ts e ≡ target_values others ts e
same_targets aggs others [] e h = refl
same_targets aggs others (t ∷ ts) e h =
    λ i. value_before (same_value aggs others t.term e (none_before _ (flat_map (λ t. term_aggregates t.term) ts) h) i)
    (same_targets aggs others ts e (none_behind (term_aggregates t.term) _ h) i)

-- the parts of a query
pub targets_plain : (q : Query) → query_aggregates q ≡ [] → flat_map (λ t. term_aggregates t.term) (targets_of q) ≡ []
targets_plain q h = none_before _ (qual_aggregates (qual_of q)) h

pub qual_plain : (q : Query) → query_aggregates q ≡ [] → qual_aggregates (qual_of q) ≡ []
qual_plain q h = none_behind (flat_map (λ t. term_aggregates t.term) (targets_of q)) _ h

-- the rows of a query
pub same_rows : (aggs others : Aggs) (q : Query) (es : List Env) → query_aggregates q ≡ [] → rows_given aggs q es ≡ rows_given others q es
unfolding rows_given
same_rows aggs others q es h =
    λ i. set_of (filter_map (λ e. same_targets aggs others (targets_of q) e (targets_plain q h) i) (filter (λ e. same_truth aggs others (qual_of q) e (qual_plain q h) i) es))

-- whether a target lacks a value
pub same_lacks : (aggs others : Aggs) (q : Query) (es : List Env) → query_aggregates q ≡ [] → some_lacks aggs q es ≡ some_lacks others q es
unfolding some_lacks
same_lacks aggs others q es h =
    λ i. list_any (λ e. is_none (same_targets aggs others (targets_of q) e (targets_plain q h) i)) (filter (λ e. same_truth aggs others (qual_of q) e (qual_plain q h) i) es)

-- the answer
pub same_answer : (db : Db) (who : Who) (aggs : Aggs) (q : Query) → query_aggregates q ≡ [] → rows_given aggs q (assigned (rows_of db who) q) ≡ answer db who q
unfolding answer
same_answer db who aggs q h = same_rows aggs (aggregates db who) q (assigned (rows_of db who) q) h

pub same_query_lacks : (db : Db) (who : Who) (aggs : Aggs) (q : Query) → query_aggregates q ≡ [] → some_lacks aggs q (assigned (rows_of db who) q) ≡ lacks db who q
unfolding lacks
same_query_lacks db who aggs q h = same_lacks aggs (aggregates db who) q (assigned (rows_of db who) q) h
