-- What stands at the front of bytes.
use Rattle.std.proofs.Common.{◌≡◌, refl, ap, ◌∙◌, ℕ, ◌+◌, ◌*◌, ◌/◌, ◌%◌, ◌<◌, ◌≤◌, Bool, true, false, Some, None, List, [], ◌∷◌, ◌++◌, length, arith, length-append, if◌then◌else◌}
use Rattle.std.specs.Prelude.{nat_le, slice_get, ◌&&◌}
use Rattle.std.proofs.lemmas.Bool.Decides.{nat_tests}
use Rattle.frame_codec.specs.declared.frame.Frame.{Frame}
use Rattle.frame_codec.specs.declared.fronts.Front.{Front}
use Rattle.frame_codec.specs.declared.fronts.Front.TheVariants.{Whole, Part, BadKind, TooLong}
use Rattle.frame_codec.specs.Frames.{has_length, is_kind, is_lawful, frame_bytes}
use Rattle.frame_codec.specs.Reading.{front_of}

-- ---- tests

pub to_le : (n m : ℕ) → nat_le n m ≡ true → n ≤ m
to_le n m e = grind (arith, nat_tests)

pub to_lt : (n m : ℕ) → nat_le n m ≡ false → m < n
to_lt n m e = grind (arith, nat_tests)

pub from_le : (n m : ℕ) → n ≤ m → nat_le n m ≡ true
from_le n m e = grind (arith, nat_tests)

pub from_lt : (n m : ℕ) → m < n → nat_le n m ≡ false
from_lt n m e = grind (arith, nat_tests)

pub and_left : (a b : Bool) → (a && b) ≡ true → a ≡ true
and_left true b e = refl
and_left false b e = cc

pub and_right : (a b : Bool) → (a && b) ≡ true → b ≡ true
and_right true b e = e
and_right false b e = cc

-- no kind has a length above 4,096
pub length_short : (kind n : ℕ) → has_length kind n ≡ true → n ≤ 4096
length_short kind n e = grind (arith, nat_tests)

-- ---- a header's tests

-- what three tests say of a header
abbrev header : Bool → Bool → Bool → ℕ → ℕ → Front
header a b c kind n = if a then (if b then (if c then Whole kind n else Part) else TooLong) else BadKind

header_whole : (a b c : Bool) (kind n k m : ℕ) → header a b c kind n ≡ Whole k m → (a ≡ true) × (b ≡ true) × (c ≡ true) × (kind ≡ k) × (n ≡ m)
header_whole true true true kind n k m e = (refl, refl, refl, cc, cc)
header_whole true true false kind n k m e = cc
header_whole true false c kind n k m e = cc
header_whole false b c kind n k m e = cc

header_part : (a b c : Bool) (kind n : ℕ) → header a b c kind n ≡ Part → c ≡ false
header_part true true true kind n e = cc
header_part true true false kind n e = refl
header_part true false c kind n e = cc
header_part false b c kind n e = cc

header_bad : (a b c : Bool) (kind n : ℕ) → header a b c kind n ≡ BadKind → a ≡ false
header_bad true true true kind n e = cc
header_bad true true false kind n e = cc
header_bad true false c kind n e = cc
header_bad false b c kind n e = refl

header_long : (a b c : Bool) (kind n : ℕ) → header a b c kind n ≡ TooLong → (a ≡ true) × (b ≡ false)
header_long true true true kind n e = cc
header_long true true false kind n e = cc
header_long true false c kind n e = (refl, refl)
header_long false b c kind n e = cc

is_bad : (a b c : Bool) (kind n : ℕ) → a ≡ false → header a b c kind n ≡ BadKind
is_bad true b c kind n e = cc
is_bad false b c kind n e = refl

is_long : (a b c : Bool) (kind n : ℕ) → a ≡ true → b ≡ false → header a b c kind n ≡ TooLong
is_long true true c kind n e f = cc
is_long true false c kind n e f = refl
is_long false b c kind n e f = cc

is_part : (a b c : Bool) (kind n : ℕ) → a ≡ true → b ≡ true → c ≡ false → header a b c kind n ≡ Part
is_part true true true kind n e f g = cc
is_part true true false kind n e f g = refl
is_part true false c kind n e f g = cc
is_part false b c kind n e f g = cc

is_whole : (a b c : Bool) (kind n : ℕ) → a ≡ true → b ≡ true → c ≡ true → header a b c kind n ≡ Whole kind n
is_whole true true true kind n e f g = refl
is_whole true true false kind n e f g = cc
is_whole true false c kind n e f g = cc
is_whole false b c kind n e f g = cc

-- what one test says of a kind alone
abbrev kind_only : Bool → Front
kind_only a = if a then Part else BadKind

kind_not_whole : (a : Bool) (k m : ℕ) → kind_only a ≡ Whole k m → ⊥
kind_not_whole true k m e = cc
kind_not_whole false k m e = cc

kind_bad : (a : Bool) → kind_only a ≡ BadKind → a ≡ false
kind_bad true e = cc
kind_bad false e = refl

kind_not_long : (a : Bool) → kind_only a ≡ TooLong → ⊥
kind_not_long true e = cc
kind_not_long false e = cc

is_kind_bad : (a : Bool) → a ≡ false → kind_only a ≡ BadKind
is_kind_bad true e = cc
is_kind_bad false e = refl

is_kind_part : (a : Bool) → a ≡ true → kind_only a ≡ Part
is_kind_part true e = refl
is_kind_part false e = cc

-- ---- by the first bytes

pub none_is_part : (xs : List ℕ) → slice_get xs 0 ≡ None → front_of xs ≡ Part
unfolding front_of
none_is_part [] e = refl
none_is_part (x ∷ xs) e = cc

pub no_kind_is_bad : (xs : List ℕ) (kind : ℕ) → slice_get xs 0 ≡ Some kind → is_kind kind ≡ false → front_of xs ≡ BadKind
unfolding front_of
no_kind_is_bad [] kind e f = cc
no_kind_is_bad (x ∷ []) kind e f = let s : x ≡ kind = cc in is_kind_bad (is_kind x) (ap is_kind s ∙ f)
no_kind_is_bad (x ∷ y ∷ []) kind e f = let s : x ≡ kind = cc in is_kind_bad (is_kind x) (ap is_kind s ∙ f)
no_kind_is_bad (x ∷ y ∷ z ∷ xs) kind e f =
    let s : x ≡ kind = cc in is_bad (is_kind x) (has_length x (256 * y + z)) (nat_le (256 * y + z) (length xs)) x (256 * y + z) (ap is_kind s ∙ f)

pub no_high_is_part : (xs : List ℕ) (kind : ℕ) → slice_get xs 0 ≡ Some kind → is_kind kind ≡ true → slice_get xs 1 ≡ None → front_of xs ≡ Part
unfolding front_of
no_high_is_part [] kind e f g = refl
no_high_is_part (x ∷ []) kind e f g = let s : x ≡ kind = cc in is_kind_part (is_kind x) (ap is_kind s ∙ f)
no_high_is_part (x ∷ y ∷ xs) kind e f g = cc

pub no_low_is_part : (xs : List ℕ) (kind : ℕ) → slice_get xs 0 ≡ Some kind → is_kind kind ≡ true → slice_get xs 2 ≡ None → front_of xs ≡ Part
unfolding front_of
no_low_is_part [] kind e f g = refl
no_low_is_part (x ∷ []) kind e f g = let s : x ≡ kind = cc in is_kind_part (is_kind x) (ap is_kind s ∙ f)
no_low_is_part (x ∷ y ∷ []) kind e f g = let s : x ≡ kind = cc in is_kind_part (is_kind x) (ap is_kind s ∙ f)
no_low_is_part (x ∷ y ∷ z ∷ xs) kind e f g = cc

-- the bytes begin with a header of this kind, and of a length in these two bytes
pub record Begins (xs : List ℕ) (kind high low : ℕ) : Type 0 where
  pub kind_there : slice_get xs 0 ≡ Some kind
  pub high_there : slice_get xs 1 ≡ Some high
  pub low_there : slice_get xs 2 ≡ Some low
  pub kind_is : is_kind kind ≡ true

-- the bytes behind a header
begins_with : (xs : List ℕ) (kind high low : ℕ) → Begins xs kind high low → (rest : List ℕ) × (xs ≡ kind ∷ high ∷ low ∷ rest)
begins_with [] kind high low b = absurd (let e = b.kind_there in cc)
begins_with (x ∷ []) kind high low b = absurd (let e = b.high_there in cc)
begins_with (x ∷ y ∷ []) kind high low b = absurd (let e = b.low_there in cc)
begins_with (x ∷ y ∷ z ∷ xs) kind high low b =
    let e = b.kind_there in
    let f = b.high_there in
    let g = b.low_there in
    let s : x ≡ kind = cc in
    let t : y ≡ high = cc in
    let u : z ≡ low = cc in
    (xs, cc)

pub header_is_long : (xs : List ℕ) (kind high low : ℕ) → Begins xs kind high low → has_length kind (256 * high + low) ≡ false → front_of xs ≡ TooLong
unfolding front_of
header_is_long xs kind high low b f =
    let w = begins_with xs kind high low b in
    ap front_of w.1 ∙ is_long (is_kind kind) (has_length kind (256 * high + low)) (nat_le (256 * high + low) (length w.0)) kind (256 * high + low) b.kind_is f

pub header_is_part : (xs : List ℕ) (kind high low : ℕ) → Begins xs kind high low → has_length kind (256 * high + low) ≡ true → length xs < 3 + (256 * high + low) → front_of xs ≡ Part
unfolding front_of
header_is_part xs kind high low b f lt =
    let w = begins_with xs kind high low b in
    let long : length xs ≡ 3 + length w.0 = ap length w.1 ∙ omega arith in
    ap front_of w.1
    ∙ is_part (is_kind kind) (has_length kind (256 * high + low)) (nat_le (256 * high + low) (length w.0)) kind (256 * high + low) b.kind_is f
    (from_lt (256 * high + low) (length w.0) (omega arith))

pub header_is_whole : (xs : List ℕ) (kind high low : ℕ) → Begins xs kind high low → has_length kind (256 * high + low) ≡ true → 3 + (256 * high + low) ≤ length xs
    → front_of xs ≡ Whole kind (256 * high + low)
unfolding front_of
header_is_whole xs kind high low b f le =
    let w = begins_with xs kind high low b in
    let long : length xs ≡ 3 + length w.0 = ap length w.1 ∙ omega arith in
    ap front_of w.1
    ∙ is_whole (is_kind kind) (has_length kind (256 * high + low)) (nat_le (256 * high + low) (length w.0)) kind (256 * high + low) b.kind_is f
    (from_le (256 * high + low) (length w.0) (omega arith))

-- ---- what a front says of the bytes

pub whole_within : (xs : List ℕ) (k n : ℕ) → front_of xs ≡ Whole k n → 3 + n ≤ length xs
unfolding front_of
whole_within [] k n e = cc
whole_within (x ∷ []) k n e = absurd (kind_not_whole (is_kind x) k n e)
whole_within (x ∷ y ∷ []) k n e = absurd (kind_not_whole (is_kind x) k n e)
whole_within (x ∷ y ∷ z ∷ xs) k n e =
    let h = header_whole (is_kind x) (has_length x (256 * y + z)) (nat_le (256 * y + z) (length xs)) x (256 * y + z) k n e in
    let le = to_le (256 * y + z) (length xs) h.2 in
    let same = h.4 in
    omega arith

pub whole_short : (xs : List ℕ) (k n : ℕ) → front_of xs ≡ Whole k n → n ≤ 4096
unfolding front_of
whole_short [] k n e = cc
whole_short (x ∷ []) k n e = absurd (kind_not_whole (is_kind x) k n e)
whole_short (x ∷ y ∷ []) k n e = absurd (kind_not_whole (is_kind x) k n e)
whole_short (x ∷ y ∷ z ∷ xs) k n e =
    let h = header_whole (is_kind x) (has_length x (256 * y + z)) (nat_le (256 * y + z) (length xs)) x (256 * y + z) k n e in
    let le = length_short x (256 * y + z) h.1 in
    let same = h.4 in
    omega arith

-- a part of a frame is shorter than the frame
pub part_shorter : (xs ys : List ℕ) (k n : ℕ) → front_of xs ≡ Part → front_of (xs ++ ys) ≡ Whole k n → length xs < 3 + n
unfolding front_of
part_shorter [] ys k n p e = omega arith
part_shorter (x ∷ []) ys k n p e = omega arith
part_shorter (x ∷ y ∷ []) ys k n p e = omega arith
part_shorter (x ∷ y ∷ z ∷ xs) ys k n p e =
    let h = header_whole (is_kind x) (has_length x (256 * y + z)) (nat_le (256 * y + z) (length (xs ++ ys))) x (256 * y + z) k n e in
    let lt = to_lt (256 * y + z) (length xs) (header_part (is_kind x) (has_length x (256 * y + z)) (nat_le (256 * y + z) (length xs)) x (256 * y + z) p) in
    let same = h.4 in
    omega arith

-- behind a length that no frame has, both of its bytes are there
pub long_within : (xs : List ℕ) → front_of xs ≡ TooLong → 3 ≤ length xs
unfolding front_of
long_within [] e = cc
long_within (x ∷ []) e = absurd (kind_not_long (is_kind x) e)
long_within (x ∷ y ∷ []) e = absurd (kind_not_long (is_kind x) e)
long_within (x ∷ y ∷ z ∷ xs) e = omega arith

-- ---- what follows makes no difference

pub whole_more : (xs ys : List ℕ) (k n : ℕ) → front_of xs ≡ Whole k n → front_of (xs ++ ys) ≡ Whole k n
unfolding front_of
whole_more [] ys k n e = cc
whole_more (x ∷ []) ys k n e = absurd (kind_not_whole (is_kind x) k n e)
whole_more (x ∷ y ∷ []) ys k n e = absurd (kind_not_whole (is_kind x) k n e)
whole_more (x ∷ y ∷ z ∷ xs) ys k n e =
    let h = header_whole (is_kind x) (has_length x (256 * y + z)) (nat_le (256 * y + z) (length xs)) x (256 * y + z) k n e in
    let le = to_le (256 * y + z) (length xs) h.2 in
    let there : 256 * y + z ≤ length (xs ++ ys) = omega (arith, length-append xs ys) in
    let a = h.3 in
    let b = h.4 in
    is_whole (is_kind x) (has_length x (256 * y + z)) (nat_le (256 * y + z) (length (xs ++ ys))) x (256 * y + z) h.0 h.1 (from_le (256 * y + z) (length (xs ++ ys)) there) ∙ cc

pub bad_more : (xs ys : List ℕ) → front_of xs ≡ BadKind → front_of (xs ++ ys) ≡ BadKind
unfolding front_of
bad_more [] ys e = cc
bad_more (x ∷ []) ys e = no_kind_is_bad (x ∷ ys) x refl (kind_bad (is_kind x) e)
bad_more (x ∷ y ∷ []) ys e = no_kind_is_bad (x ∷ y ∷ ys) x refl (kind_bad (is_kind x) e)
bad_more (x ∷ y ∷ z ∷ xs) ys e =
    no_kind_is_bad (x ∷ y ∷ z ∷ (xs ++ ys)) x refl (header_bad (is_kind x) (has_length x (256 * y + z)) (nat_le (256 * y + z) (length xs)) x (256 * y + z) e)

pub long_more : (xs ys : List ℕ) → front_of xs ≡ TooLong → front_of (xs ++ ys) ≡ TooLong
unfolding front_of
long_more [] ys e = cc
long_more (x ∷ []) ys e = absurd (kind_not_long (is_kind x) e)
long_more (x ∷ y ∷ []) ys e = absurd (kind_not_long (is_kind x) e)
long_more (x ∷ y ∷ z ∷ xs) ys e =
    let h = header_long (is_kind x) (has_length x (256 * y + z)) (nat_le (256 * y + z) (length xs)) x (256 * y + z) e in
    is_long (is_kind x) (has_length x (256 * y + z)) (nat_le (256 * y + z) (length (xs ++ ys))) x (256 * y + z) h.0 h.1

-- a lawful frame's bytes, whatever follows
pub written_whole : (f : Frame) (ys : List ℕ) → is_lawful f ≡ true → front_of (frame_bytes f ++ ys) ≡ Whole f.kind (length f.payload)
unfolding front_of
written_whole f ys e =
    let n = length f.payload in
    let size : 256 * (n / 256) + n % 256 ≡ n = omega arith in
    let there : n ≤ length (f.payload ++ ys) = omega (arith, length-append f.payload ys) in
    is_whole (is_kind f.kind) (has_length f.kind (256 * (n / 256) + n % 256)) (nat_le (256 * (n / 256) + n % 256) (length (f.payload ++ ys))) f.kind (256 * (n / 256) + n % 256)
    (and_left (is_kind f.kind) (has_length f.kind n) e)
    (ap (has_length f.kind) size ∙ and_right (is_kind f.kind) (has_length f.kind n) e)
    (from_le (256 * (n / 256) + n % 256) (length (f.payload ++ ys)) (omega arith))
    ∙ ap (λ (m : ℕ). Whole f.kind m) size
