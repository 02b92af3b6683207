-- Where the variables that a query lists are few, those that it uses are.
use Rattle.std.proofs.Common.{◌≡◌, refl, sym, ap, ◌∙◌, subst, ℕ, ◌+◌, ◌≤◌, nat_le, nat_lt, Bool, true, false, ◌||◌, not, List, [], ◌∷◌, length, arith}
use Rattle.std.specs.List.{filter, sum_by, enumerate_from}
use Rattle.std.proofs.lemmas.Bool.{ltb-false, le-leb}
use Rattle.std.proofs.lemmas.List.Filters.{length-filter_both, sum_by-filter_both}
use Rattle.std.proofs.lemmas.List.FromFn.{length-enumerate_from}
use Rattle.std.proofs.lemmas.List.Sums.{sum_by-cons}
use Rattle.calculus.specs.declared.query.RelKey.{RelKey}
use Rattle.calculus.specs.declared.query.Query.{Query}
use Rattle.calculus.specs.declared.request.Update.{Update}
use Rattle.calculus.specs.Lists.{is_any}
use Rattle.calculus.specs.Limits.{most_variables, most_expanded_variables}
use Rattle.calculus.specs.Database.{Db}
use Rattle.calculus.specs.Assignments.{is_changed}
use Rattle.calculus.specs.QueryParts.{vars_of}
use Rattle.calculus.specs.Used.{used_in_query}
use Rattle.calculus.specs.Sizes.{measure_of, variables, expanded_variables, update_expanded_variables}
use Rattle.quel_meaning.specs.Passing.{listed_variables, listed_expanded_variables, has_too_many}
use Rattle.quel_meaning.specs.FitQueries.{lists_few_vars}
use Rattle.quel_meaning.proofs.Each.{not_left, not_right}

fewer : {X : Type 0} (p : X → Bool) (xs : List X) → length (filter p xs) ≤ length xs
fewer p xs = omega (arith, length-filter_both p (λ x. not (p x)) (λ x. refl) xs)

less : {X : Type 0} (p : X → Bool) (f : X → ℕ) (xs : List X) → sum_by f (filter p xs) ≤ sum_by f xs
less p f xs = omega (arith, sum_by-filter_both p (λ x. not (p x)) (λ x. refl) f xs)

numbered : {X : Type 0} (f : X → ℕ) (k : ℕ) (xs : List X) → sum_by (λ (p : ℕ × X). f p.1) (enumerate_from k xs) ≡ sum_by f xs
numbered f k [] = refl
numbered f k (x ∷ xs) =
    sum_by-cons (λ p. f p.1) (k, x) (enumerate_from (k + 1) xs) ∙ ap (λ n. f x + n) (numbered f (k + 1) xs) ∙ sym (sum_by-cons f x xs)

-- some of the variables are at most as many as all, and what they count is at most what all count
some_vars : (q : Query) (p : ℕ × RelKey → Bool) → length (filter p (enumerate_from 0 (vars_of q))) ≤ length (vars_of q)
some_vars q p = subst (λ n. length (filter p (enumerate_from 0 (vars_of q))) ≤ n) (length-enumerate_from 0 (vars_of q)) (fewer p (enumerate_from 0 (vars_of q)))

pub some_measures : (db : Db) (q : Query) (p : ℕ × RelKey → Bool)
    → sum_by (λ (v : ℕ × RelKey). (measure_of db v.1).variables) (filter p (enumerate_from 0 (vars_of q))) ≤ sum_by (λ key. (measure_of db key).variables) (vars_of q)
some_measures db q p =
    subst (λ n. sum_by (λ (v : ℕ × RelKey). (measure_of db v.1).variables) (filter p (enumerate_from 0 (vars_of q))) ≤ n)
    (numbered (λ key. (measure_of db key).variables) 0 (vars_of q)) (less p (λ (v : ℕ × RelKey). (measure_of db v.1).variables) (enumerate_from 0 (vars_of q)))

few : (m n : ℕ) → nat_lt m n ≡ false → n ≤ m
few m n h = ltb-false m n h

-- ---- of a query without too many

pub listed_few : (db : Db) (q : Query) → has_too_many db q ≡ false → lists_few_vars q ≡ true
unfolding has_too_many
listed_few db q h = le-leb _ _ (omega (arith, few most_variables (listed_variables q) (not_left _ _ h)))

pub variables_few : (db : Db) (q : Query) → has_too_many db q ≡ false → nat_le (variables q) most_variables ≡ true
unfolding has_too_many variables
variables_few db q h =
    le-leb _ _ (omega (arith, few most_variables (listed_variables q) (not_left _ _ h), some_vars q (λ p. is_any (used_in_query p.0 q))))

pub expanded_few : (db : Db) (q : Query) → has_too_many db q ≡ false → nat_le (expanded_variables db q) most_expanded_variables ≡ true
unfolding has_too_many expanded_variables
expanded_few db q h =
    le-leb _ _ (omega (arith, few most_expanded_variables (listed_expanded_variables db q) (not_right _ _ h), some_measures db q (λ p. is_any (used_in_query p.0 q))))

pub update_expanded_few : (db : Db) (u : Update) → has_too_many db u.query ≡ false → nat_le (update_expanded_variables db u) most_expanded_variables ≡ true
unfolding has_too_many update_expanded_variables
update_expanded_few db u h =
    le-leb _ _ (omega (arith, few most_expanded_variables (listed_expanded_variables db u.query) (not_right _ _ h), some_measures db u.query (λ p. is_any (used_in_query p.0 u.query) || is_changed u p.0)))
