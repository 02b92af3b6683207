-- Sorting replacements and dropping repeats keeps which there are.
use Rattle.std.proofs.Common.{◌≡◌, refl, sym, ap, ◌∙◌, subst, Bool, true, false, ◌&&◌, List, []}
use Rattle.std.proofs.lemmas.Cmp.{eq_by_cmp_equiv, on_total, then_total, on_equiv, and_equiv}
use Rattle.std.proofs.lemmas.List.Filters.{dedup_is}
use Rattle.std.proofs.lemmas.List.Kept.{Contains-dedup, Contains-from_dedup, IsStrictlySortedBy-dedup}
use Rattle.std.proofs.lemmas.List.Sorted.{list_any-IsPermutation}
use Rattle.std.proofs.lemmas.Map.Views.{Contains-from_any, list_any-from_Contains}
use Rattle.std.specs.Cmp.{IsTotalOrder, IsEquivalence}
use Rattle.std.specs.List.{list_any, dedup}
use Rattle.std.specs.List.Retain.{IsFiltered, DiffersFromLast}
use Rattle.std.specs.List.Sorted.{IsPermutation, IsSorted, IsStrictlySortedBy}
use Rattle.std.specs.Ordering.{eq_by_cmp, is_eq, ordering_then}
use Rattle.std.specs.declared.cmp.Ordering.{Ordering}
use Rattle.std.specs.declared.cmp.Ordering.TheVariants.{Less, Equal, Greater}
use Rattle.calculus.specs.Orders.{row_total}
use Rattle.calculus.specs.Value.{row_cmp}
use Rattle.calculus.proofs.Sets.{same_exact}
use Rattle.update_change.specs.Replacements.{Both, both_cmp, is_both}

both_total : IsTotalOrder both_cmp
both_total = then_total (on_total (λ b. b.0) row_total) (on_total (λ b. b.1) row_total)

both_equiv : IsEquivalence is_both
both_equiv = and_equiv (on_equiv (λ b. b.0) (eq_by_cmp_equiv row_total)) (on_equiv (λ b. b.1) (eq_by_cmp_equiv row_total))

ties : (x y : Both) → is_both x y ≡ eq_by_cmp both_cmp x y
ties x y = go (row_cmp x.0 y.0)
  where
    go : (o : Ordering) → (is_eq o && is_eq (row_cmp x.1 y.1)) ≡ is_eq (ordering_then o (row_cmp x.1 y.1))
    go Less = refl
    go Equal = refl
    go Greater = refl

both_exact : (x y : Both) → is_both x y ≡ true → x ≡ y
both_exact x y h = go (eq_by_cmp row_cmp x.0 y.0) refl (eq_by_cmp row_cmp x.1 y.1) refl h
  where
    go : (a : Bool) → eq_by_cmp row_cmp x.0 y.0 ≡ a → (b : Bool) → eq_by_cmp row_cmp x.1 y.1 ≡ b → (a && b) ≡ true → x ≡ y
    go true e true f h = λ i. (same_exact x.0 y.0 e i, same_exact x.1 y.1 f i)
    go true e false f h = cc h
    go false e b f h = cc h

equal_by : (b c : Bool) → (b ≡ true → c ≡ true) → (c ≡ true → b ≡ true) → b ≡ c
equal_by true c to from = sym (to refl)
equal_by false true to from = from refl
equal_by false false to from = refl

any-dedup : (all : List Both) (b : Both) → list_any (is_both b) (dedup is_both all) ≡ list_any (is_both b) all
any-dedup all b =
    equal_by _ _
    (λ h. list_any-from_Contains both_equiv b all (Contains-from_dedup is_both all b (Contains-from_any both_exact b _ h)))
    (λ h. list_any-from_Contains both_equiv b _ (Contains-dedup both_equiv both_exact all b (Contains-from_any both_exact b all h)))

pub ordered-ascend : (sorted kept : List Both) → IsSorted both_cmp sorted → IsFiltered (DiffersFromLast is_both) [] sorted kept
    → IsStrictlySortedBy both_cmp kept
ordered-ascend sorted kept rising filtered =
    subst (IsStrictlySortedBy both_cmp) (sym (dedup_is is_both sorted kept filtered)) (IsStrictlySortedBy-dedup both_total ties sorted rising)

pub ordered-same : (all sorted kept : List Both) → IsPermutation all sorted → IsFiltered (DiffersFromLast is_both) [] sorted kept
    → (b : Both) → list_any (is_both b) kept ≡ list_any (is_both b) all
ordered-same all sorted kept moved filtered b =
    ap (list_any (is_both b)) (dedup_is is_both sorted kept filtered) ∙ any-dedup sorted b ∙ sym (list_any-IsPermutation (is_both b) all sorted moved)
