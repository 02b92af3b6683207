-- Numbers and lists: tests from what is known of them.
use Rattle.std.proofs.Common.{◌≡◌, refl, sym, true≢false, ℕ, ◌≤◌, ◌<◌, Bool, true, List, length, Option, Some, None, arith}
use Rattle.std.specs.Prelude.{nat_lt, is_some, slice_get}
use Rattle.std.specs.List.{list_all}
use Rattle.std.proofs.lemmas.Bool.{le-leb, ltb-true}
use Rattle.std.proofs.lemmas.Option.{slice_get_within}
use Rattle.quel_meaning.proofs.Each.{Each, and, passed, each_passes, each_to}
use Rattle.spelling_laws.specs.Short.{is_place, is_count, are_short}

-- a value is there
abbrev pub There : {A : Type 0} → Option A → Type 0
There o = is_some o ≡ true

-- the part of an Option that is there
pub there_is : {A : Type 0} (o : Option A) → There o → (x : A) × (o ≡ Some x)
there_is None h = absurd (true≢false (sym h))
there_is (Some x) h = (x, refl)

pub place_is : (n : ℕ) → n ≤ 255 → is_place n ≡ true
place_is n h = le-leb n 255 h

pub count_is : (n : ℕ) → n ≤ 65535 → is_count n ≡ true
count_is n h = le-leb n 65535 h

pub short_is : {A : Type 0} (test : A → Bool) (xs : List A) → length xs ≤ 65535 → Each (λ x. test x ≡ true) xs → are_short test xs ≡ true
short_is test xs few each = and _ _ (count_is (length xs) few) (passed test xs each)

-- what is there at a place of a list is within it
pub get_there : {A : Type 0} (xs : List A) (k : ℕ) → There (slice_get xs k) → k < length xs
get_there {A} xs k h = let one = there_is (slice_get xs k) h in slice_get_within xs k one.0 one.1

-- places below a number that isn't great
pub places_are : (n : ℕ) (xs : List ℕ) → n ≤ 256 → list_all (λ k. nat_lt k n) xs ≡ true → Each (λ k. is_place k ≡ true) xs
places_are n xs few h = each_to (λ k. nat_lt k n ≡ true) (λ k. is_place k ≡ true) (λ k e. let less = ltb-true k n e in place_is k (omega (arith, less, few))) xs (each_passes (λ k. nat_lt k n) xs h)
