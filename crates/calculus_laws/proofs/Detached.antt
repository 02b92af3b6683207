-- A condition on one variable may be applied to its rows first.
use Rattle.std.proofs.Common.{◌≡◌, refl, sym, ap, ◌∙◌, subst, ℕ, zero, suc, ◌<◌, Bool, true, false, not, ◌&&◌, ◌||◌, List, [], ◌∷◌, ◌++◌, map, filter, filter_map, length, slice_get, Some, option_map, is_none, arith}
use Rattle.std.proofs.lemmas.List.Folds.{list_all-append}
use Rattle.std.proofs.lemmas.List.Sorted.{list_any-IsPermutation, IsPermutation-refl, IsPermutation-append_comm}
use Rattle.std.specs.List.{list_any, list_all}
use Rattle.std.specs.List.Sorted.{IsPermutation}
use Rattle.calculus.specs.declared.query.RelKey.{RelKey}
use Rattle.calculus.specs.declared.query.QQual.{QQual, True, Cmp, Like}
use Rattle.calculus.specs.declared.query.Query.{Query, Query'}
use Rattle.calculus.specs.Tree.{both, either, negated}
use Rattle.calculus.specs.Rows.{Row, set_of}
use Rattle.calculus.specs.Term.{Env, Aggs, holds, no_aggs}
use Rattle.calculus.specs.Who.{Who}
use Rattle.calculus.specs.Database.{Db}
use Rattle.calculus.specs.QueryParts.{vars_of, targets_of, qual_of}
use Rattle.calculus.specs.Assignments.{choices, assigned_by, variable_rows, assigned, Seen, changing_by, update_rows, update_assigned}
use Rattle.calculus.specs.Targets.{target_values, qualifying, rows_given, some_lacks}
use Rattle.calculus.specs.VariableRows.{rows_of}
use Rattle.calculus.specs.Aggregate.{aggregates}
use Rattle.calculus.specs.Answer.{answer, lacks}
use Rattle.calculus.specs.declared.request.Update.{Update}
use Rattle.calculus.specs.Pairs.{qualifying_updates}
use Rattle.calculus_laws.specs.Detaching.{conjuncts, AsksForBoth, IsOfOne, alone, cut_by, cut_down, seen_cut_down, qualifying_changes, with_qual}
use Rattle.calculus_laws.proofs.OneVariable.{holds_same}
use Rattle.calculus_laws.proofs.Asked.{nowhere}
use Rattle.calculus_laws.proofs.Cut.{filter-map, test_at, choices_cut, lists_of, lists_cut, length-lists_of}

-- ---- a qualification holds where each of its conditions does

and_true : (b : Bool) → b ≡ (b && true)
and_true true = refl
and_true false = refl

holds-conjuncts : (aggs : Aggs) (e : Env) (q : QQual) → holds aggs q e ≡ list_all (λ p. holds aggs p e) (conjuncts q)
unfolding holds
holds-conjuncts aggs e True = refl
holds-conjuncts aggs e (Cmp op t u) = and_true (holds aggs (Cmp op t u) e)
holds-conjuncts aggs e (Like t pattern same) = and_true (holds aggs (Like t pattern same) e)
holds-conjuncts aggs e (both p q) =
    (λ i. holds-conjuncts aggs e p i && holds-conjuncts aggs e q i) ∙ sym (list_all-append (λ p. holds aggs p e) (conjuncts p) (conjuncts q))
holds-conjuncts aggs e (either p q) = and_true (holds aggs (either p q) e)
holds-conjuncts aggs e (negated p) = and_true (holds aggs (negated p) e)

all_not_any : {X : Type 0} (test : X → Bool) (xs : List X) → list_all test xs ≡ not (list_any (λ x. not (test x)) xs)
all_not_any test [] = refl
all_not_any test (x ∷ xs) = go (test x) (all_not_any test xs)
  where
    go : (b : Bool) → list_all test xs ≡ not (list_any (λ x. not (test x)) xs) → (b && list_all test xs) ≡ not (not b || list_any (λ x. not (test x)) xs)
    go true ih = ih
    go false ih = refl

list_all-IsPermutation : {X : Type 0} (test : X → Bool) (xs ys : List X) → IsPermutation xs ys → list_all test xs ≡ list_all test ys
list_all-IsPermutation test xs ys h =
    all_not_any test xs ∙ ap not (list_any-IsPermutation (λ x. not (test x)) xs ys h) ∙ sym (all_not_any test ys)

holds-parts : (aggs : Aggs) (e : Env) (whole p rest : QQual) → AsksForBoth whole p rest → holds aggs whole e ≡ (holds aggs p e && holds aggs rest e)
holds-parts aggs e whole p rest h =
    holds-conjuncts aggs e whole
    ∙ list_all-IsPermutation (λ c. holds aggs c e) (conjuncts whole) (conjuncts p ++ conjuncts rest) h
    ∙ list_all-append (λ c. holds aggs c e) (conjuncts p) (conjuncts rest)
    ∙ sym (λ i. holds-conjuncts aggs e p i && holds-conjuncts aggs e rest i)

-- ---- the row of one variable

get_alone : (v : ℕ) (row : Row) → slice_get (alone v row) v ≡ Some row
get_alone zero row = refl
get_alone (suc v) row = get_alone v row

item_at : {X : Type 0} (v : ℕ) (e : List X) (f : X → Bool) → v < length e → (x : X) × (slice_get e v ≡ Some x) × (test_at v f e ≡ f x)
item_at v [] f h = absurd (omega (arith, h))
item_at zero (x ∷ e) f h = (x, refl, refl)
item_at (suc v) (x ∷ e) f h = item_at v e f (omega (arith, h))

-- the condition on the variable `v` is a test of its row
tested : (aggs : Aggs) (v : ℕ) (p : QQual) → IsOfOne v p → (e : Env) (row : Row) → slice_get e v ≡ Some row → holds aggs p e ≡ holds no_aggs p (alone v row)
tested aggs v p h e row there = holds_same aggs no_aggs v e (alone v row) (there ∙ sym (get_alone v row)) p h.names_no_other h.has_no_aggregate

row_tested : (aggs : Aggs) (v : ℕ) (p : QQual) → IsOfOne v p → (e : Env) → v < length e → holds aggs p e ≡ test_at v (λ row. holds no_aggs p (alone v row)) e
row_tested aggs v p h e within =
    let at = item_at v e (λ row. holds no_aggs p (alone v row)) within in
    tested aggs v p h e at.0 at.1 ∙ sym at.2

get_seen : (v : ℕ) (seen : List Seen) (s : Seen) → slice_get seen v ≡ Some s → slice_get (map (λ s. s.row) seen) v ≡ Some s.row
get_seen v [] s h = absurd (nowhere v s h)
get_seen zero (first ∷ seen) s h = ap (option_map (λ s. s.row)) h
get_seen (suc v) (first ∷ seen) s h = get_seen v seen s h

seen_tested : (aggs : Aggs) (v : ℕ) (p : QQual) → IsOfOne v p → (seen : List Seen) → v < length seen
    → holds aggs p (map (λ s. s.row) seen) ≡ test_at v (λ s. holds no_aggs p (alone v s.row)) seen
seen_tested aggs v p h seen within =
    let at = item_at v seen (λ s. holds no_aggs p (alone v s.row)) within in
    tested aggs v p h (map (λ s. s.row) seen) at.0.row (get_seen v seen at.0 at.1) ∙ sym at.2

-- ---- the assignments

-- what the condition leaves, where it is a test of what one variable has
detached : {X : Type 0} (env_of : List X → Env) (passes : X → Bool) (aggs : Aggs) (qual p rest : QQual) (v : ℕ) → AsksForBoth qual p rest
    → ((e : List X) → v < length e → holds aggs p (env_of e) ≡ test_at v passes e)
    → (vars : List RelKey) → v < length vars → (rows : ℕ → RelKey → List X)
    → filter (λ e. holds aggs qual (env_of e)) (choices (lists_of rows 0 vars))
    ≡ filter (λ e. holds aggs rest (env_of e)) (choices (lists_of (cut_by v passes rows) 0 vars))
detached env_of passes aggs qual p rest v parts test vars within rows =
    choices_cut v passes (λ e. holds aggs rest (env_of e)) (λ e. holds aggs qual (env_of e))
    (λ e inside. holds-parts aggs (env_of e) qual p rest parts ∙ ap (λ b. b && holds aggs rest (env_of e)) (test e inside))
    (lists_of rows 0 vars) (subst (λ n. v < n) (sym (length-lists_of rows 0 vars)) within)
    ∙ ap (λ lists. filter (λ e. holds aggs rest (env_of e)) (choices lists)) (sym (lists_cut v passes rows 0 v (omega arith) vars))

pub condition_detached : (aggs : Aggs) (q : Query) (p rest : QQual) (v : ℕ)
    → AsksForBoth (qual_of q) p rest → IsOfOne v p → v < length (vars_of q) → (rows : ℕ → RelKey → List Row)
    → qualifying aggs q (assigned_by rows q) ≡ qualifying aggs (with_qual rest q) (assigned_by (cut_down v p rows) q)
condition_detached aggs (Query' vars marks targets qual) p rest v parts one within rows =
    detached (λ e. e) (λ row. holds no_aggs p (alone v row)) aggs qual p rest v parts (row_tested aggs v p one) vars within rows

pub changes_detached : (aggs : Aggs) (q : Query) (p rest : QQual) (v : ℕ)
    → AsksForBoth (qual_of q) p rest → IsOfOne v p → v < length (vars_of q) → (rows : ℕ → RelKey → List Seen)
    → qualifying_changes aggs q (map changing_by (assigned_by rows q))
    ≡ qualifying_changes aggs (with_qual rest q) (map changing_by (assigned_by (seen_cut_down v p rows) q))
changes_detached aggs (Query' vars marks targets qual) p rest v parts one within rows =
    filter-map (λ c. holds aggs qual c.env) changing_by (choices (lists_of rows 0 vars))
    ∙ ap (map changing_by) (detached (λ seen. map (λ s. s.row) seen) (λ s. holds no_aggs p (alone v s.row)) aggs qual p rest v parts (seen_tested aggs v p one) vars within rows)
    ∙ sym (filter-map (λ c. holds aggs rest c.env) changing_by (choices (lists_of (seen_cut_down v p rows) 0 vars)))

same_targets : (rest : QQual) (q : Query) → targets_of (with_qual rest q) ≡ targets_of q
same_targets rest (Query' vars marks targets qual) = refl

pub answer_detached : (db : Db) (who : Who) (q : Query) (p rest : QQual) (v : ℕ)
    → AsksForBoth (qual_of q) p rest → IsOfOne v p → v < length (vars_of q)
    → answer db who q ≡ rows_given (aggregates db who) (with_qual rest q) (assigned_by (cut_down v p (variable_rows (rows_of db who) q)) q)
unfolding answer rows_given assigned
answer_detached db who q p rest v parts one within =
    λ i. set_of (filter_map (target_values (aggregates db who) (sym (same_targets rest q) i))
    (condition_detached (aggregates db who) q p rest v parts one within (variable_rows (rows_of db who) q) i))

pub lacks_detached : (db : Db) (who : Who) (q : Query) (p rest : QQual) (v : ℕ)
    → AsksForBoth (qual_of q) p rest → IsOfOne v p → v < length (vars_of q)
    → lacks db who q ≡ some_lacks (aggregates db who) (with_qual rest q) (assigned_by (cut_down v p (variable_rows (rows_of db who) q)) q)
unfolding lacks some_lacks assigned
lacks_detached db who q p rest v parts one within =
    λ i. list_any (λ e. is_none (target_values (aggregates db who) (sym (same_targets rest q) i) e))
    (condition_detached (aggregates db who) q p rest v parts one within (variable_rows (rows_of db who) q) i)

pub update_detached : (db : Db) (who : Who) (u : Update) (p rest : QQual) (v : ℕ)
    → AsksForBoth (qual_of u.query) p rest → IsOfOne v p → v < length (vars_of u.query)
    → qualifying_updates db who u
    ≡ qualifying_changes (aggregates db who) (with_qual rest u.query) (map changing_by (assigned_by (seen_cut_down v p (update_rows db who (rows_of db who) u)) u.query))
unfolding update_assigned
update_detached db who u p rest v parts one within =
    changes_detached (aggregates db who) u.query p rest v parts one within (update_rows db who (rows_of db who) u)

-- ---- what `and` asks for

pub left_and : (p q : QQual) → AsksForBoth (both p q) p q
left_and p q = IsPermutation-refl (conjuncts p ++ conjuncts q)

pub right_and : (p q : QQual) → AsksForBoth (both q p) p q
right_and p q = IsPermutation-append_comm (conjuncts q) (conjuncts p)
