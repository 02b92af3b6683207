-- The rows of a query, where the rows of its variables hold numbers and texts in the language's sense.
use Rattle.std.proofs.Common.{◌≡◌, refl, subst, ℕ, ◌+◌, IsTrue, List, [], ◌∷◌, Some}
use Rattle.std.specs.Prelude.{filter_map}
use Rattle.std.specs.List.{enumerate_from}
use Rattle.calculus.specs.declared.query.QAgg.{QAgg}
use Rattle.calculus.specs.declared.query.Query.{Query}
use Rattle.calculus.specs.declared.query.RelKey.{RelKey}
use Rattle.calculus.specs.declared.query.Target.{Target}
use Rattle.calculus.specs.Assignments.{Source, rows_used, variable_rows, assigned}
use Rattle.calculus.specs.QueryParts.{vars_of, targets_of, qual_of, term_aggregates}
use Rattle.calculus.specs.Rows.{Row}
use Rattle.calculus.specs.Spelled.{query_is_spelled}
use Rattle.calculus.specs.Targets.{target_values, qualifying, rows_given}
use Rattle.calculus.specs.Term.{Env, holds, no_aggs}
use Rattle.calculus.specs.Used.{used_in_query}
use Rattle.quel_meaning.proofs.Each.{Each, in_filter, each_to}
use Rattle.update_laws.specs.Proper.{rows_are_proper}
use Rattle.update_laws.proofs.Assigned.{OfVariable, Chosen, OfRows, chosen, all_proper}
use Rattle.update_laws.proofs.Catalogued.{Proper, set_each}
use Rattle.update_laws.proofs.Standing.{in_targets}
use Rattle.update_laws.proofs.Lists.{in_filter_map}
use Rattle.update_laws.proofs.Valued.{AggsProper, gives_row, targets_proper}

-- no aggregate has a value
pub none_proper : (e : Env) (gs : List QAgg) → AggsProper no_aggs e gs
none_proper e [] = tt
none_proper e (g ∷ gs) = (refl, none_proper e gs)

none_in_targets : (e : Env) (ts : List Target) → Each (λ t. AggsProper no_aggs e (term_aggregates t.term)) ts
none_in_targets e [] = tt
none_in_targets e (t ∷ ts) = (none_proper e (term_aggregates t.term), none_in_targets e ts)

-- each row of each variable is of numbers and texts
abbrev Anywhere : OfVariable
Anywhere n key row = Proper row

-- all rows that there are under keys are
abbrev pub AllProper : Source → Type 0
AllProper source = (key : RelKey) (attrs : List ℕ) → Each Proper (source key attrs)

pub variable_proper : (source : Source) → AllProper source → (q : Query) (v : ℕ) (key : RelKey) → Each Proper (variable_rows source q v key)
variable_proper source rows q v key = go (used_in_query v q)
  where
    go : (attrs : List ℕ) → Each Proper (rows_used source key attrs)
    go [] = (refl, tt)
    go (a ∷ attrs) = rows key (a ∷ attrs)

given_proper : (q : Query) (es : List Env) → IsTrue (query_is_spelled q) → Each (λ e. IsTrue (rows_are_proper e)) es → Each Proper (rows_given no_aggs q es)
unfolding rows_given
given_proper q es spelled h =
    set_each Proper (filter_map (target_values no_aggs (targets_of q)) (qualifying no_aggs q es))
    (in_filter_map (λ e. IsTrue (rows_are_proper e)) Proper (target_values no_aggs (targets_of q)) of_targets (qualifying no_aggs q es)
    (in_filter (λ e. IsTrue (rows_are_proper e)) (holds no_aggs (qual_of q)) es h))
  where
    of_targets : (e : Env) → IsTrue (rows_are_proper e) → (row : Row) → target_values no_aggs (targets_of q) e ≡ Some row → Proper row
    of_targets e r row v = subst (λ o. IsTrue (gives_row o)) v (targets_proper no_aggs (targets_of q) e (in_targets q spelled) r (none_in_targets e (targets_of q)))

-- the rows of a query whose constants stand
pub query_proper : (source : Source) → AllProper source → (q : Query) → IsTrue (query_is_spelled q) → Each Proper (rows_given no_aggs q (assigned source q))
unfolding assigned
query_proper source rows q spelled =
    given_proper q (assigned source q) spelled
    (each_to (Chosen Anywhere 0 (vars_of q)) (λ e. IsTrue (rows_are_proper e)) (all_proper Anywhere (λ n key row p. p) 0 (vars_of q)) (assigned source q)
    (chosen Anywhere (variable_rows source q) 0 (vars_of q) (of_keys 0 (vars_of q))))
  where
    of_keys : (n : ℕ) (keys : List RelKey) → OfRows Anywhere (variable_rows source q) (enumerate_from n keys)
    of_keys n [] = tt
    of_keys n (key ∷ keys) = (variable_proper source rows q n key, of_keys (n + 1) keys)
