-- What refuses a statement with too many variables and aggregates, or with aggregates that don't stand.
use Rattle.std.proofs.Common.{◌≡◌, refl, sym, ap, ◌∙◌, subst, ℕ, ◌+◌, ◌<◌, ◌≤◌, arith, Bool, true, false, not, ◌||◌, List, [], ◌∷◌, length, map, slice_get, nat_lt, Option, Some, None}
use Rattle.std.proofs.lemmas.Bool.{lt-ltb, ltb-true, ltb-false}
use Rattle.std.proofs.lemmas.List.{length-map}
use Rattle.calculus.specs.Change.{permit_numbers, rule_numbers}
use Rattle.calculus.specs.Limits.{most_permits, most_rules, most_listed_attributes}
use Rattle.calculus.specs.QueryParts.{query_aggregates, qual_of, vars_of}
use Rattle.calculus.specs.Replacement.{first_refusal}
use Rattle.calculus.specs.Storable.{row_qual_is_small}
use Rattle.calculus.specs.declared.statement.Statement.{Statement}
use Rattle.calculus.specs.declared.statement.Statement.TheVariants as statement
use Rattle.quel_refusals.specs.CheckedStatements.{is_checked}
use Rattle.quel_refusals.proofs.Standing.{none_in_text}
use Rattle.quel_check.proofs.Among.{inner_many}
use Rattle.quel_check.specs.Known.{inner_vars}
use Rattle.quel_meaning.proofs.Slots.{as_many}
use Rattle.quel_meaning.specs.Aggregates.{aggregates_allowed, keeps_a_text}
use Rattle.quel_meaning.specs.Causes.{Causes, refusals, print_refusals, into_refusals, update_refusals, delete_refusals, view_refusals, row_refusals}
use Rattle.quel_meaning.specs.Passing.{has_too_many, is_full, is_too_large}
use Rattle.quel_meaning.specs.Planned.{is_past_limit}
use Rattle.quel_meaning.specs.Scope.{Scope, key_found, ranged}
use Rattle.quel_meaning.specs.StatementUpdate.{append_of, replace_of, delete_of}
use Rattle.quel_meaning.specs.WrittenParts.{aggregates_in_qual, text_aggregates, vars_in}
use Rattle.quel_meaning.specs.WrittenQuery.{query_of}
use Rattle.quel_meaning.specs.WrittenTree.{key_over}

or_more : (a b : Bool) → a ≡ true → (a || b) ≡ true
or_more true b k = refl
or_more false b k = absurd (cc k)

many : (s : Scope) (stmt : Statement) → 10 < length (vars_in stmt) + length (text_aggregates stmt) → has_too_many s.db (query_of s stmt) ≡ true
unfolding has_too_many query_of
many s stmt h =
    let more : 10 < length (map (key_over s) (vars_in stmt)) + length (query_aggregates (query_of s stmt)) = omega (arith, h, length-map (vars_in stmt) (key_over s), as_many s stmt) in
    or_more (nat_lt 10 (length (map (key_over s) (vars_in stmt)) + length (query_aggregates (query_of s stmt)))) _ (lt-ltb _ _ more)

-- of what keeps a text, whose aggregates stand, all are variables
second_variable : (s : Scope) (stmt : Statement) → keeps_a_text stmt ≡ true → aggregates_allowed s stmt ≡ true → 10 < length (vars_in stmt) + length (text_aggregates stmt)
    → nat_lt 1 (length (vars_of (query_of s stmt))) ≡ true
unfolding query_of
second_variable s stmt k a h =
    let none : length (text_aggregates stmt) ≡ 0 = sym (as_many s stmt) ∙ ap length (none_in_text s stmt (query_of s stmt) refl a k) in
    lt-ltb 1 (length (map (key_over s) (vars_in stmt))) (omega (arith, h, none, length-map (vars_in stmt) (key_over s)))

-- where the first cause isn't there and the second is, that one refuses
second : (cs : Causes) → slice_get (map (λ (c : ℕ × Bool). c.1) cs) 0 ≡ Some false → slice_get (map (λ (c : ℕ × Bool). c.1) cs) 1 ≡ Some true
    → first_refusal cs ≡ slice_get (map (λ (c : ℕ × Bool). c.0) cs) 1
second [] h k = absurd (cc h)
second (c ∷ []) h k = absurd (cc k)
second (c ∷ d ∷ cs) h k =
    let out : c.1 ≡ false = cc h in
    let there : d.1 ≡ true = cc k in
    ap (λ b. elim b as (λ x. Option ℕ) [ true ↦ Some c.0 | false ↦ first_refusal (d ∷ cs) ]) out
    ∙ ap (λ b. elim b as (λ x. Option ℕ) [ true ↦ Some d.0 | false ↦ first_refusal cs ]) there

refused : (s : Scope) (stmt : Statement) → is_checked stmt ≡ true → 10 < length (vars_in stmt) + length (text_aggregates stmt) → aggregates_allowed s stmt ≡ true → has_too_many s.db (query_of s stmt) ≡ true
    → first_refusal (refusals s stmt) ≡ Some 14
unfolding refusals vars_in aggregates_in_qual append_of replace_of delete_of
refused s (statement.Range var rel) w h a m = absurd (omega (arith, h))
refused s (statement.Retrieve None items qual sort) w h a m =
    let stmt = statement.Retrieve None items qual sort in
    second (print_refusals s (aggregates_allowed s stmt) sort (query_of s stmt)) (ap (λ b. Some (not b)) a) (ap (λ b. Some b) m)
refused s (statement.Retrieve (Some name) items qual sort) w h a m =
    let stmt = statement.Retrieve (Some name) items qual sort in
    second (into_refusals s (aggregates_allowed s stmt) name sort (query_of s stmt)) (ap (λ b. Some (not b)) a) (ap (λ b. Some b) (or_more (has_too_many s.db (query_of s stmt)) (is_full s.db) m))
refused s (statement.Append rel items qual) w h a m =
    let stmt = statement.Append rel items qual in
    second (update_refusals s (aggregates_allowed s stmt) (append_of s rel (query_of s stmt))) (ap (λ b. Some (not b)) a) (ap (λ b. Some b) m)
refused s (statement.Replace var items qual) w h a m =
    let stmt = statement.Replace var items qual in
    second (update_refusals s (aggregates_allowed s stmt) (replace_of s var (query_of s stmt))) (ap (λ b. Some (not b)) a) (ap (λ b. Some b) m)
refused s (statement.Delete var qual) w h a m =
    let stmt = statement.Delete var qual in
    second (delete_refusals s (aggregates_allowed s stmt) (delete_of s var (query_of s stmt))) (ap (λ b. Some (not b)) a) (ap (λ b. Some b) m)
refused s (statement.Create rel attrs) w h a m = absurd (omega (arith, h))
refused s (statement.Destroy rels) w h a m = absurd (cc w)
refused s (statement.DropPermits rel numbers) w h a m = absurd (omega (arith, h))
refused s (statement.DropRules rel numbers) w h a m = absurd (omega (arith, h))
refused s (statement.Modify rel to keys) w h a m = absurd (cc w)
refused s (statement.Index base name keys) w h a m = absurd (cc w)
refused s (statement.Print rels) w h a m = absurd (cc w)
refused s (statement.Help rel) w h a m = absurd (cc w)
refused s (statement.Copy rel columns from file) w h a m = absurd (cc w)
refused s (statement.View name items qual) w h a m =
    let stmt = statement.View name items qual in
    second (view_refusals s (aggregates_allowed s stmt) name (query_of s stmt)) (ap (λ b. Some (not b)) a)
    (ap (λ b. Some b) (or_more (has_too_many s.db (query_of s stmt)) (is_full s.db || is_too_large s.db (query_of s stmt)) m))
refused s (statement.Permit ops var attrs user qual) w h a m =
    let stmt = statement.Permit ops var attrs user qual in
    let full = is_past_limit most_permits (permit_numbers s.db (key_found (ranged s var))) || nat_lt most_listed_attributes (length attrs) in
    second (row_refusals s (aggregates_allowed s stmt) (ranged s var) full (query_of s stmt)) (ap (λ b. Some (not b)) a)
    (ap (λ b. Some b) (or_more (nat_lt 1 (length (vars_of (query_of s stmt)))) (full || not (row_qual_is_small (qual_of (query_of s stmt)))) (second_variable s stmt refl a h)))
refused s (statement.Rule var qual) w h a m =
    let stmt = statement.Rule var qual in
    let full = is_past_limit most_rules (rule_numbers s.db (key_found (ranged s var))) in
    second (row_refusals s (aggregates_allowed s stmt) (ranged s var) full (query_of s stmt)) (ap (λ b. Some (not b)) a)
    (ap (λ b. Some b) (or_more (nat_lt 1 (length (vars_of (query_of s stmt)))) (full || not (row_qual_is_small (qual_of (query_of s stmt)))) (second_variable s stmt refl a h)))

-- 14 refuses a statement whose aggregates stand
pub too_many : (s : Scope) (stmt : Statement) → is_checked stmt ≡ true → aggregates_allowed s stmt ≡ true → 10 < length (vars_in stmt) + length (inner_vars stmt)
    → first_refusal (refusals s stmt) ≡ Some 14
too_many s stmt w a h =
    let more : 10 < length (vars_in stmt) + length (text_aggregates stmt) = omega (arith, h, inner_many s stmt a) in
    refused s stmt w more a (many s stmt more)

-- it is counted of the variables that are given
pub more_than : (vars inner : List (List ℕ)) (stmt : Statement) → vars ≡ vars_in stmt → inner ≡ inner_vars stmt → nat_lt 10 (length vars + length inner) ≡ true
    → 10 < length (vars_in stmt) + length (inner_vars stmt)
more_than vars inner stmt e f h =
    subst (λ m. 10 < length m + length (inner_vars stmt)) e (subst (λ m. 10 < length vars + length m) f (ltb-true 10 (length vars + length inner) h))

pub few_enough : (vars inner : List (List ℕ)) → nat_lt 10 (length vars + length inner) ≡ false → length vars + length inner ≤ 10
few_enough vars inner h = ltb-false 10 (length vars + length inner) h

-- ---- aggregates that don't stand

-- where the first cause is there, that one refuses
first : (cs : Causes) → slice_get (map (λ (c : ℕ × Bool). c.1) cs) 0 ≡ Some true → first_refusal cs ≡ slice_get (map (λ (c : ℕ × Bool). c.0) cs) 0
first [] h = absurd (cc h)
first (c ∷ cs) h =
    let there : c.1 ≡ true = cc h in
    ap (λ b. elim b as (λ x. Option ℕ) [ true ↦ Some c.0 | false ↦ first_refusal cs ]) there

-- 18 refuses a statement whose aggregates don't stand
pub stands_not : (s : Scope) (stmt : Statement) → is_checked stmt ≡ true → aggregates_allowed s stmt ≡ false → first_refusal (refusals s stmt) ≡ Some 18
unfolding refusals aggregates_allowed aggregates_in_qual
stands_not s (statement.Range var rel) w h = absurd (cc h)
stands_not s (statement.Retrieve None items qual sort) w h =
    let stmt = statement.Retrieve None items qual sort in
    first (print_refusals s (aggregates_allowed s stmt) sort (query_of s stmt)) (ap (λ b. Some (not b)) h)
stands_not s (statement.Retrieve (Some name) items qual sort) w h =
    let stmt = statement.Retrieve (Some name) items qual sort in
    first (into_refusals s (aggregates_allowed s stmt) name sort (query_of s stmt)) (ap (λ b. Some (not b)) h)
stands_not s (statement.Append rel items qual) w h =
    let stmt = statement.Append rel items qual in
    first (update_refusals s (aggregates_allowed s stmt) (append_of s rel (query_of s stmt))) (ap (λ b. Some (not b)) h)
stands_not s (statement.Replace var items qual) w h =
    let stmt = statement.Replace var items qual in
    first (update_refusals s (aggregates_allowed s stmt) (replace_of s var (query_of s stmt))) (ap (λ b. Some (not b)) h)
stands_not s (statement.Delete var qual) w h =
    let stmt = statement.Delete var qual in
    first (delete_refusals s (aggregates_allowed s stmt) (delete_of s var (query_of s stmt))) (ap (λ b. Some (not b)) h)
stands_not s (statement.Create rel attrs) w h = absurd (cc h)
stands_not s (statement.Destroy rels) w h = absurd (cc w)
stands_not s (statement.DropPermits rel numbers) w h = absurd (cc h)
stands_not s (statement.DropRules rel numbers) w h = absurd (cc h)
stands_not s (statement.Modify rel to keys) w h = absurd (cc w)
stands_not s (statement.Index base name keys) w h = absurd (cc w)
stands_not s (statement.Print rels) w h = absurd (cc w)
stands_not s (statement.Help rel) w h = absurd (cc w)
stands_not s (statement.Copy rel columns from file) w h = absurd (cc w)
stands_not s (statement.View name items qual) w h =
    let stmt = statement.View name items qual in
    first (view_refusals s (aggregates_allowed s stmt) name (query_of s stmt)) (ap (λ b. Some (not b)) h)
stands_not s (statement.Permit ops var attrs user qual) w h =
    let stmt = statement.Permit ops var attrs user qual in
    first (row_refusals s (aggregates_allowed s stmt) (ranged s var) (is_past_limit most_permits (permit_numbers s.db (key_found (ranged s var))) || nat_lt most_listed_attributes (length attrs)) (query_of s stmt)) (ap (λ b. Some (not b)) h)
stands_not s (statement.Rule var qual) w h =
    let stmt = statement.Rule var qual in
    first (row_refusals s (aggregates_allowed s stmt) (ranged s var) (is_past_limit most_rules (rule_numbers s.db (key_found (ranged s var)))) (query_of s stmt)) (ap (λ b. Some (not b)) h)
