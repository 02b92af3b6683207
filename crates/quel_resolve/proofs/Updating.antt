-- Updates, from their parts.
use Rattle.std.proofs.Common.{◌≡◌, refl, sym, ap, ◌∙◌, ℕ, zero, suc, ◌+◌, ◌<◌, add-one, arith, List, [], ◌∷◌, ◌++◌, map, take, length, Some}
use Rattle.std.specs.List.{enumerate_from}
use denote.Hole.Carrier.{roll}
use Rattle.calculus.specs.declared.query.AggSource.TheBlock.{items_hidden-the_row-Target-5}
use Rattle.calculus.specs.declared.query.Query.{Query, out-Query, roll-Query, roll-out-Query}
use Rattle.calculus.specs.declared.request.Update.{Update}
use Rattle.calculus.specs.declared.request.UpdateOp.TheVariants as op
use Rattle.calculus.specs.declared.schema.RelInfo.{RelInfo}
use Rattle.calculus.specs.QueryParts.{targets_of}
use Rattle.quel_meaning.specs.Scope.{Scope, named, ranged}
use Rattle.quel_meaning.specs.StatementUpdate.{changing, append_of, replace_of, delete_of}

-- the targets of a query, as the program reads them
pub targets_is : (q : Query) → (out-Query q).targets ≡ targets_of q
unfolding roll-Query roll
targets_is q = sym (items_hidden-the_row-Target-5 (out-Query q).targets) ∙ ap targets_of (roll-out-Query q)

-- one function behind another, item by item
pub map_both : {X Y Z : Type 0} (f : Y → Z) (g : X → Y) (xs : List X) → map (λ x. f (g x)) xs ≡ map f (map g xs)
map_both f g [] = refl
map_both f g (x ∷ xs) = ap (λ zs. f (g x) ∷ zs) (map_both f g xs)

numbers_more : {X : Type 0} (n : ℕ) (xs : List X) (i j : ℕ) → j ≡ n + i → i < length xs
    → map (λ (p : ℕ × X). p.0) (enumerate_from n (take (suc i) xs)) ≡ map (λ (p : ℕ × X). p.0) (enumerate_from n (take i xs)) ++ j ∷ []
numbers_more n [] i j e h = absurd (omega (arith, h))
numbers_more n (x ∷ xs) zero j e h = let same : n ≡ j = omega arith in ap (λ k. k ∷ []) same
numbers_more n (x ∷ xs) (suc i) j e h =
    let same : j ≡ n + 1 + i = omega arith in
    ap (λ ks. n ∷ ks) (numbers_more (n + 1) xs i j same (omega (arith, h)))

-- the number of one item more
pub numbers_next : {X : Type 0} (xs : List X) (i : ℕ) → i < length xs
    → map (λ (p : ℕ × X). p.0) (enumerate_from 0 (take (i + 1) xs)) ≡ map (λ (p : ℕ × X). p.0) (enumerate_from 0 (take i xs)) ++ i ∷ []
numbers_next xs i h =
    let from_0 : i ≡ 0 + i = omega arith in
    ap (λ k. map (λ p. p.0) (enumerate_from 0 (take k xs))) (add-one i) ∙ numbers_more 0 xs i i from_0 h

pub append_is : (scope : Scope) (rel : List ℕ) (info : RelInfo) (q : Query) (u : Update) → named scope rel ≡ Some info → u ≡ changing op.Append 255 (Some info) q → u ≡ append_of scope rel q
unfolding append_of
append_is scope rel info q u e h = h ∙ ap (λ o. changing op.Append 255 o q) (sym e)

pub replace_is : (scope : Scope) (var : List ℕ) (info : RelInfo) (q : Query) (u : Update) → ranged scope var ≡ Some info → u ≡ changing op.Replace 0 (Some info) q → u ≡ replace_of scope var q
unfolding replace_of
replace_is scope var info q u e h = h ∙ ap (λ o. changing op.Replace 0 o q) (sym e)

pub delete_is : (scope : Scope) (var : List ℕ) (info : RelInfo) (q : Query) (u : Update) → ranged scope var ≡ Some info → u ≡ changing op.Delete 0 (Some info) q → u ≡ delete_of scope var q
unfolding delete_of
delete_is scope var info q u e h = h ∙ ap (λ o. changing op.Delete 0 o q) (sym e)
