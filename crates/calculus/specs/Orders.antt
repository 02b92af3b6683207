-- The orders of values and of rows are total, and exact: what they call equal is the same. The types state these laws with their comparisons.
use Rattle.std.proofs.Common.{◌≡◌, refl, ap}
use Rattle.std.proofs.lemmas.Cmp.{nat_list_cmp_total, int_cmp_total, lists_total}
use Rattle.std.specs.Cmp.{IsTotalOrder}
use Rattle.std.specs.FinMap.{IsAntisymmetric, nat_cmp-IsAntisymmetric, int_cmp-IsAntisymmetric, slice_cmp-IsAntisymmetric}
use Rattle.std.specs.Ordering.{ordering_reverse}
use Rattle.std.specs.declared.cmp.Ordering.TheVariants.{Less, Equal}
use Rattle.calculus.specs.Value.{value_cmp, row_cmp}
use Rattle.calculus.specs.declared.value.Value.{Value}
use Rattle.calculus.specs.declared.value.Value.TheVariants.{Int, Text}

reversed : (x y : Value) → value_cmp x y ≡ ordering_reverse (value_cmp y x)
reversed (Int m) (Int n) = int_cmp_total.antisymm m n
reversed (Int m) (Text t) = refl
reversed (Text s) (Int n) = refl
reversed (Text s) (Text t) = nat_list_cmp_total.antisymm s t

chained : (x y z : Value) → value_cmp x y ≡ Less → value_cmp y z ≡ Less → value_cmp x z ≡ Less
chained (Int l) (Int m) (Int n) = int_cmp_total.trans l m n
chained (Int l) (Int m) (Text t) = λ _ _. refl
chained (Int l) (Text s) (Int n) = λ _ h. cc h
chained (Int l) (Text s) (Text t) = λ _ _. refl
chained (Text r) (Int m) (Int n) = λ h _. cc h
chained (Text r) (Int m) (Text t) = λ h _. cc h
chained (Text r) (Text s) (Int n) = λ _ h. cc h
chained (Text r) (Text s) (Text t) = nat_list_cmp_total.trans r s t

alike : (x y z : Value) → value_cmp x y ≡ Equal → value_cmp x z ≡ value_cmp y z
alike (Int l) (Int m) (Int n) = int_cmp_total.congr l m n
alike (Int l) (Int m) (Text t) = λ _. refl
alike (Int l) (Text s) z = λ h. cc h
alike (Text r) (Int m) z = λ h. cc h
alike (Text r) (Text s) (Int n) = λ _. refl
alike (Text r) (Text s) (Text t) = nat_list_cmp_total.congr r s t

pub value_total : IsTotalOrder value_cmp
value_total = record { antisymm = reversed; trans = chained; congr = alike }

pub row_total : IsTotalOrder row_cmp
row_total = lists_total value_total

pub value_exact : IsAntisymmetric value_cmp
value_exact (Int m) (Int n) h = ap Int (int_cmp-IsAntisymmetric m n h)
value_exact (Int m) (Text t) h = cc h
value_exact (Text s) (Int n) h = cc h
value_exact (Text s) (Text t) h = ap Text (slice_cmp-IsAntisymmetric nat_cmp-IsAntisymmetric s t h)

pub row_exact : IsAntisymmetric row_cmp
row_exact = slice_cmp-IsAntisymmetric value_exact
