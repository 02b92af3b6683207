-- Sorting numbers and dropping repeats puts them in ascending order, each once.
use Rattle.std.proofs.Common.{◌≡◌, refl, sym, ◌∙◌, ℕ, Bool, true, false, ◌||◌, nat_eq, List, [], ◌∷◌, Contains}
use Rattle.std.proofs.lemmas.Cmp.{nat_cmp_total, eq_by_cmp_equiv}
use Rattle.std.proofs.lemmas.List.Filters.{dedup_is}
use Rattle.std.proofs.lemmas.List.Kept.{Contains-dedup, Contains-from_dedup, IsStrictlySortedBy-dedup}
use Rattle.std.proofs.lemmas.List.Sorted.{list_any-IsPermutation}
use Rattle.std.proofs.lemmas.Map.Lookups.{btree_set_from_contains}
use Rattle.std.proofs.lemmas.Map.Views.{Contains-from_any, list_any-from_Contains, exact_unsigned_eq}
use Rattle.std.specs.Cmp.{unsigned_ties, unsigned_tied, nat_eq_equiv}
use Rattle.std.specs.FinMap.{nat_cmp-IsAntisymmetric}
use Rattle.std.specs.List.{dedup, list_any}
use Rattle.std.specs.List.Retain.{IsFiltered, DiffersFromLast}
use Rattle.std.specs.List.Sorted.{IsPermutation, IsSorted}
use Rattle.std.specs.Ordering.{eq_by_cmp, nat_cmp}
use Rattle.calculus.specs.Lists.{has_number}
use Rattle.quel_meaning.specs.Planned.{ascending}
use Rattle.quel_meaning.proofs.Numbers.{ascending_same, ascending_in_order}

equal_by : (b c : Bool) → (b ≡ true → c ≡ true) → (c ≡ true → b ≡ true) → b ≡ c
equal_by true c to from = sym (to refl)
equal_by false true to from = from refl
equal_by false false to from = refl

-- the number is one of these, by the order
has : List ℕ → ℕ → Bool
has ns n = list_any (λ m. eq_by_cmp nat_cmp n m) ns

has_by_order : (ns : List ℕ) (n : ℕ) → has ns n ≡ has_number ns n
unfolding has
has_by_order [] n = refl
has_by_order (m ∷ ns) n = λ i. ((eq_by_cmp_equiv nat_cmp_total).symm n m ∙ unsigned_tied m n) i || has_by_order ns n i

Contains-has : (ns : List ℕ) (n : ℕ) → has ns n ≡ true → Contains ns n
unfolding has
Contains-has ns n h = Contains-from_any (λ x y e. exact_unsigned_eq x y (sym (unsigned_tied x y) ∙ e)) n ns h

has-Contains : (ns : List ℕ) (n : ℕ) → Contains ns n → has ns n ≡ true
unfolding has
has-Contains ns n h = list_any-from_Contains (eq_by_cmp_equiv nat_cmp_total) n ns h

has-dedup : (ns : List ℕ) (n : ℕ) → has (dedup nat_eq ns) n ≡ has ns n
has-dedup ns n =
    equal_by _ _
    (λ h. has-Contains ns n (Contains-from_dedup nat_eq ns n (Contains-has _ n h)))
    (λ h. has-Contains _ n (Contains-dedup nat_eq_equiv exact_unsigned_eq ns n (Contains-has ns n h)))

same_members : (numbers sorted : List ℕ) (n : ℕ) → IsPermutation numbers sorted → has (dedup nat_eq sorted) n ≡ has (ascending numbers) n
unfolding has
same_members numbers sorted n moved =
    has-dedup sorted n ∙ sym (list_any-IsPermutation (eq_by_cmp nat_cmp n) numbers sorted moved)
    ∙ has_by_order numbers n ∙ sym (ascending_same numbers n) ∙ sym (has_by_order (ascending numbers) n)

-- what is left of the sorted numbers without repeats
pub sorted_once : (numbers sorted kept : List ℕ) → IsPermutation numbers sorted → IsSorted nat_cmp sorted → IsFiltered (DiffersFromLast nat_eq) [] sorted kept
    → kept ≡ ascending numbers
unfolding has
sorted_once numbers sorted kept moved rising filtered =
    dedup_is nat_eq sorted kept filtered
    ∙ btree_set_from_contains nat_cmp_total (record { keys = dedup nat_eq sorted }) (record { keys = ascending numbers })
    (IsStrictlySortedBy-dedup nat_cmp_total unsigned_ties sorted rising) (ascending_in_order numbers) (λ n. same_members numbers sorted n moved) nat_cmp-IsAntisymmetric
