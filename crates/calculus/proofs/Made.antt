-- Sorting rows and dropping repeats makes the set of them.
use Rattle.std.proofs.Common.{◌≡◌, refl, sym, ap, ◌∙◌, subst, Bool, true, false, List, [], Contains}
use Rattle.std.proofs.lemmas.Cmp.{eq_by_cmp_equiv}
use Rattle.std.proofs.lemmas.List.Filters.{dedup_is}
use Rattle.std.proofs.lemmas.List.Kept.{Contains-dedup, Contains-from_dedup, IsStrictlySortedBy-dedup}
use Rattle.std.proofs.lemmas.List.Sorted.{list_any-IsPermutation}
use Rattle.std.proofs.lemmas.Map.Views.{Contains-from_any, list_any-from_Contains}
use Rattle.std.specs.List.{dedup}
use Rattle.std.specs.List.Retain.{IsFiltered, DiffersFromLast}
use Rattle.std.specs.List.Sorted.{IsPermutation, IsSorted}
use Rattle.std.specs.Ordering.{eq_by_cmp}
use Rattle.calculus.specs.Orders.{row_total}
use Rattle.calculus.specs.Rows.{Row, Ascends, has, set_of}
use Rattle.calculus.specs.Value.{row_cmp}
use Rattle.calculus.proofs.Sets.{same_exact, same_set, has-set_of, Ascends-set_of}

-- a row that the test finds is one of the rows, and the other way
pub Contains-has : (rows : List Row) (row : Row) → has rows row ≡ true → Contains rows row
Contains-has rows row h = Contains-from_any same_exact row rows h

pub has-Contains : (rows : List Row) (row : Row) → Contains rows row → has rows row ≡ true
has-Contains rows row h = list_any-from_Contains (eq_by_cmp_equiv row_total) row rows h

equal_by : (b c : Bool) → (b ≡ true → c ≡ true) → (c ≡ true → b ≡ true) → b ≡ c
equal_by true c to from = sym (to refl)
equal_by false true to from = from refl
equal_by false false to from = refl

has-dedup : (rows : List Row) (row : Row) → has (dedup (eq_by_cmp row_cmp) rows) row ≡ has rows row
has-dedup rows row =
    equal_by _ _
    (λ h. has-Contains rows row (Contains-from_dedup (eq_by_cmp row_cmp) rows row (Contains-has _ row h)))
    (λ h. has-Contains _ row (Contains-dedup (eq_by_cmp_equiv row_total) same_exact rows row (Contains-has rows row h)))

pub Ascends-dedup : (sorted kept : List Row) → IsSorted row_cmp sorted → IsFiltered (DiffersFromLast (eq_by_cmp row_cmp)) [] sorted kept → Ascends kept
Ascends-dedup sorted kept rising filtered =
    subst Ascends (sym (dedup_is (eq_by_cmp row_cmp) sorted kept filtered))
    (IsStrictlySortedBy-dedup row_total (λ x y. refl) sorted rising)

pub dedup-set_of : (rows sorted kept : List Row) → IsPermutation rows sorted → IsSorted row_cmp sorted → IsFiltered (DiffersFromLast (eq_by_cmp row_cmp)) [] sorted kept
    → kept ≡ set_of rows
dedup-set_of rows sorted kept moved rising filtered =
    same_set kept (set_of rows) (Ascends-dedup sorted kept rising filtered) (Ascends-set_of rows)
    (λ q. ap (λ rows. has rows q) (dedup_is (eq_by_cmp row_cmp) sorted kept filtered)
    ∙ has-dedup sorted q ∙ sym (list_any-IsPermutation (eq_by_cmp row_cmp q) rows sorted moved) ∙ sym (has-set_of rows q))

-- the set of the rows has exactly the rows
pub Contains-set_of : (rows : List Row) (row : Row) → Contains (set_of rows) row → Contains rows row
Contains-set_of rows row h = Contains-has rows row (sym (has-set_of rows row) ∙ has-Contains (set_of rows) row h)

pub set_of-Contains : (rows : List Row) (row : Row) → Contains rows row → Contains (set_of rows) row
set_of-Contains rows row h = Contains-has (set_of rows) row (has-set_of rows row ∙ has-Contains rows row h)
