-- The numbers of new permits and rules, and of those that go.
use Rattle.std.proofs.Common.{◌≡◌, refl, ap, ◌∙◌, ℕ, suc, ◌<◌, ◌≤◌, nat_eq, Bool, true, false, ◌||◌, IsTrue, List, [], ◌∷◌, arith}
use Rattle.std.specs.Prelude.{max}
use Rattle.std.specs.List.Sorted.{IsStrictlySortedBy}
use Rattle.std.specs.FinMap.{nat_cmp-IsAntisymmetric}
use Rattle.std.specs.Ordering.{nat_cmp}
use Rattle.std.specs.declared.cmp.Ordering.{Ordering}
use Rattle.std.specs.declared.cmp.Ordering.TheVariants.{Less, Equal, Greater}
use Rattle.std.proofs.lemmas.Cmp.{nat_cmp_total}
use Rattle.std.proofs.lemmas.Bool.Decides.{Decides-eqb}
use Rattle.calculus.specs.Lists.{has_number, insert_by}
use Rattle.quel_meaning.specs.Planned.{greatest, next_number, ascending}
use Rattle.quel_meaning.proofs.InOrder.{insert_as, insert-cons, in_order-insert, in_order-nil}

-- ---- a new number

pub next_is_new : (numbers : List ℕ) (n : ℕ) → IsTrue (has_number numbers n) → n < next_number numbers
next_is_new [] n t = cc t
next_is_new (m ∷ numbers) n t = cases (nat_eq m n) refl t (next_is_new numbers n)
  where
    cases : (b : Bool) → nat_eq m n ≡ b → IsTrue (b || has_number numbers n) → (IsTrue (has_number numbers n) → n < next_number numbers) → n < next_number (m ∷ numbers)
    cases true e t later =
        let one : m ≡ n = (Decides-eqb m n).0 e in
        let bound : m ≤ max m (greatest numbers) = omega arith in
        omega (arith, one, bound)
    cases false e t later =
        let bound : greatest numbers ≤ max m (greatest numbers) = omega arith in
        let below : n < suc (greatest numbers) = later t in
        omega (arith, below, bound)

-- ---- numbers in order

or_swap : (a b c : Bool) → (a || (b || c)) ≡ (b || (a || c))
or_swap true true c = refl
or_swap true false c = refl
or_swap false b c = refl

or_same : (b c : Bool) → (b || c) ≡ (b || (b || c))
or_same true c = refl
or_same false c = refl

has-insert_as : (m first : ℕ) (rest more : List ℕ) (n : ℕ) (o : Ordering) → nat_cmp m first ≡ o
    → has_number more n ≡ (nat_eq m n || has_number rest n) → has_number (insert_as o m first rest more) n ≡ (nat_eq m n || (nat_eq first n || has_number rest n))
has-insert_as m first rest more n Less e ih = refl
has-insert_as m first rest more n Equal e ih =
    let one : m ≡ first = nat_cmp-IsAntisymmetric m first e in
    rw one (or_same (nat_eq first n) (has_number rest n))
has-insert_as m first rest more n Greater e ih = ap (λ b. nat_eq first n || b) ih ∙ or_swap (nat_eq first n) (nat_eq m n) (has_number rest n)

has-insert : (m : ℕ) (numbers : List ℕ) (n : ℕ) → has_number (insert_by nat_cmp m numbers) n ≡ (nat_eq m n || has_number numbers n)
has-insert m [] n = refl
has-insert m (first ∷ rest) n =
    ap (λ numbers. has_number numbers n) (insert-cons nat_cmp m first rest (nat_cmp m first) refl)
    ∙ has-insert_as m first rest (insert_by nat_cmp m rest) n (nat_cmp m first) refl (has-insert m rest n)

-- they are the same numbers
pub ascending_same : (numbers : List ℕ) (n : ℕ) → has_number (ascending numbers) n ≡ has_number numbers n
ascending_same [] n = refl
ascending_same (m ∷ numbers) n = has-insert m (ascending numbers) n ∙ ap (λ b. nat_eq m n || b) (ascending_same numbers n)

-- each is smaller than those behind it
pub ascending_in_order : (numbers : List ℕ) → IsStrictlySortedBy nat_cmp (ascending numbers)
ascending_in_order [] = in_order-nil nat_cmp
ascending_in_order (m ∷ numbers) = in_order-insert nat_cmp_total m (ascending numbers) (ascending_in_order numbers)
