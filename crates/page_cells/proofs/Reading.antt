-- What bytes say as numbers, texts and rows.
use Rattle.std.proofs.Common.{◌≡◌, ◌⊎◌, inl, inr, refl, sym, ap, subst, ◌∙◌, ℕ, ℤ, pos, negsuc, zero, suc, ◌+◌, ◌-◌, ◌*◌, ◌/◌, ◌%◌, ◌^◌, ◌<◌, ◌≤◌, nat_le, Bool, true, false, ◌&&◌, not, IsTrue, List, [], ◌∷◌, ◌++◌, Some, None, length, get_or, replicate, arith, if◌then◌else◌}
use Rattle.std.proofs.Math.Nat.{div-div-eq-div-mul, pow-succ'}
use Rattle.std.specs.Int.{w64, byte_at, bytes_low_first}
use Rattle.std.specs.List.{list_all}
use Rattle.std.proofs.lemmas.Bool.Decides.{nat_tests}
use Rattle.std.proofs.lemmas.Int.{ints}
use Rattle.byteorder.specs.Numbers.{little_number-reads_back, little_from-cons}
use Rattle.byteorder.specs.Endian.{little_from, little_number, little_bytes, low_bytes, twos_complement}
use Rattle.calculus.specs.declared.value.Domain.TheVariants.{I1, I2, I4}
use Rattle.calculus.specs.Value.{number_fits}
use Rattle.calculus.specs.Chars.{is_printable, is_chars}
use Rattle.calculus.specs.Text.{is_blank, ends_without_blank, is_text, before_trimmed, trimmed, text_of}
use Rattle.calculus.proofs.Texts.{trimmed_text}
use Rattle.page_cells.specs.RowBytes.{filled}
use Rattle.page_cells.proofs.Spelling.{both}

-- ---- numbers

byte_shift : (i x : ℕ) → byte_at (suc i) x ≡ byte_at i (x / 256)
byte_shift zero x = refl
byte_shift (suc k) x = ap (λ (y : ℕ). y % 256) (ap (λ (p : ℕ). x / p) (pow-succ' 256 (suc k)) ∙ sym (div-div-eq-div-mul x 256 (256 ^ suc k)))

bytes_shift : (n i x : ℕ) → bytes_low_first (suc i) n x ≡ bytes_low_first i n (x / 256)
bytes_shift zero i x = refl
bytes_shift (suc n) i x = λ t. byte_shift i x t ∷ bytes_shift n (suc i) x t

-- the bytes of the number that bytes are
pub bytes_back : (n : ℕ) (bytes : List ℕ) → length bytes ≡ n → ((i : ℕ) → get_or bytes i 0 < 256) → bytes_low_first 0 n (little_from 0 n bytes) ≡ bytes
bytes_back n [] is small = subst (λ m. bytes_low_first 0 m (little_from 0 m []) ≡ []) is refl
bytes_back zero (b ∷ bs) is small = absurd (omega arith)
bytes_back (suc n) (b ∷ bs) is small =
    let rest = little_from-cons 0 n b bs in
    let first : b < 256 = small 0 in
    let low : (b + 256 * little_from 1 n (b ∷ bs)) % 256 ≡ b = omega (arith, first) in
    let high : (b + 256 * little_from 1 n (b ∷ bs)) / 256 ≡ little_from 0 n bs = omega (arith, first, rest) in
    (λ t. low t ∷ (bytes_shift n 0 (b + 256 * little_from 1 n (b ∷ bs)) ∙ ap (bytes_low_first 0 n) high ∙ bytes_back n bs (omega arith) (λ i. small (suc i))) t)

append-nil : (xs : List ℕ) → xs ++ [] ≡ xs
append-nil [] = refl
append-nil (x ∷ xs) = ap (λ ys. x ∷ ys) (append-nil xs)

pub number_back : (n x : ℕ) → x < 256 ^ n → little_number n (little_bytes n x) ≡ x
number_back n x lt = ap (little_number n) (sym (append-nil (little_bytes n x))) ∙ little_number-reads_back n x [] lt

-- a number of 8, 16 or 32 bits, cut and read again
pub cut_1 : (z : ℤ) → IsTrue (number_fits z I1) → twos_complement 1 (low_bytes w64 1 z) ≡ z
cut_1 (pos m) t = grind (arith, ints, nat_tests)
cut_1 (negsuc m) t = grind (arith, ints, nat_tests)

pub cut_2 : (z : ℤ) → IsTrue (number_fits z I2) → twos_complement 2 (low_bytes w64 2 z) ≡ z
cut_2 (pos m) t = grind (arith, ints, nat_tests)
cut_2 (negsuc m) t = grind (arith, ints, nat_tests)

pub cut_4 : (z : ℤ) → IsTrue (number_fits z I4) → twos_complement 4 (low_bytes w64 4 z) ≡ z
cut_4 (pos m) t = grind (arith, ints, nat_tests)
cut_4 (negsuc m) t = grind (arith, ints, nat_tests)

small_or_not : (m x : ℕ) → (x < m) ⊎ (m ≤ x)
small_or_not m x = grind arith

-- what 1, 2 or 4 bytes say fits, and is cut to itself
pub read_1 : (x : ℕ) → x < 256 → IsTrue (number_fits (twos_complement 1 x) I1) × (low_bytes w64 1 (twos_complement 1 x) ≡ x)
read_1 x lt = elim (small_or_not 128 x) [
  | inl small ↦ subst (λ (z : ℤ). IsTrue (number_fits z I1) × (low_bytes w64 1 z ≡ x)) (let e : pos x ≡ twos_complement 1 x = grind (arith, ints, nat_tests) in e) (grind (arith, ints, nat_tests), omega arith)
  | inr big ↦ subst (λ (z : ℤ). IsTrue (number_fits z I1) × (low_bytes w64 1 z ≡ x)) (let e : negsuc (255 - x) ≡ twos_complement 1 x = grind (arith, ints, nat_tests) in e) (grind (arith, ints, nat_tests), omega arith)
]

pub read_2 : (x : ℕ) → x < 65536 → IsTrue (number_fits (twos_complement 2 x) I2) × (low_bytes w64 2 (twos_complement 2 x) ≡ x)
read_2 x lt = elim (small_or_not 32768 x) [
  | inl small ↦ subst (λ (z : ℤ). IsTrue (number_fits z I2) × (low_bytes w64 2 z ≡ x)) (let e : pos x ≡ twos_complement 2 x = grind (arith, ints, nat_tests) in e) (grind (arith, ints, nat_tests), omega arith)
  | inr big ↦ subst (λ (z : ℤ). IsTrue (number_fits z I2) × (low_bytes w64 2 z ≡ x)) (let e : negsuc (65535 - x) ≡ twos_complement 2 x = grind (arith, ints, nat_tests) in e) (grind (arith, ints, nat_tests), omega arith)
]

pub read_4 : (x : ℕ) → x < 4294967296 → IsTrue (number_fits (twos_complement 4 x) I4) × (low_bytes w64 4 (twos_complement 4 x) ≡ x)
read_4 x lt = elim (small_or_not 2147483648 x) [
  | inl small ↦ subst (λ (z : ℤ). IsTrue (number_fits z I4) × (low_bytes w64 4 z ≡ x)) (let e : pos x ≡ twos_complement 4 x = grind (arith, ints, nat_tests) in e) (grind (arith, ints, nat_tests), omega arith)
  | inr big ↦ subst (λ (z : ℤ). IsTrue (number_fits z I4) × (low_bytes w64 4 z ≡ x)) (let e : negsuc (4294967295 - x) ≡ twos_complement 4 x = grind (arith, ints, nat_tests) in e) (grind (arith, ints, nat_tests), omega arith)
]

-- ---- texts

-- two tests that both pass
pub each : (a b : Bool) → IsTrue a → IsTrue b → IsTrue (a && b)
each a b s t = λ i. s i && t i

printable_filled : (text : List ℕ) (n : ℕ) → IsTrue (list_all is_printable text) → IsTrue (list_all is_printable (text ++ replicate n 32))
printable_filled [] zero t = refl
printable_filled [] (suc n) t = printable_filled [] n refl
printable_filled (b ∷ bs) n t =
    let parts = both (is_printable b) (list_all is_printable bs) t in
    each (is_printable b) (list_all is_printable (bs ++ replicate n 32)) parts.0 (printable_filled bs n parts.1)

blanks_trimmed : (n : ℕ) → trimmed (replicate n 32) ≡ []
blanks_trimmed zero = refl
blanks_trimmed (suc n) = ap (before_trimmed 32) (blanks_trimmed n)

filled_trimmed : (text : List ℕ) (n : ℕ) → trimmed (text ++ replicate n 32) ≡ trimmed text
filled_trimmed [] n = blanks_trimmed n
filled_trimmed (b ∷ bs) n = ap (before_trimmed b) (filled_trimmed bs n)

text_trimmed : (text : List ℕ) → IsTrue (ends_without_blank text) → trimmed text ≡ text
text_trimmed [] t = refl
text_trimmed (b ∷ []) t = last (is_blank b) refl t
  where
    last : (blank : Bool) → is_blank b ≡ blank → IsTrue (not (is_blank b)) → before_trimmed b [] ≡ b ∷ []
    last true e t = let f : false ≡ true = sym (ap not e) ∙ t in cc
    last false e t = rw e refl
text_trimmed (b ∷ c ∷ bs) t = ap (before_trimmed b) (text_trimmed (c ∷ bs) t)

-- a text that was filled with blanks is itself again
pub text_back : (text : List ℕ) (n : ℕ) → IsTrue (is_text text) → text_of (filled text n) ≡ Some text
unfolding text_of is_text is_chars
text_back text n t =
    let parts = both (is_chars text) (ends_without_blank text) t in
    let chars = both (nat_le (length text) 255) (list_all is_printable text) parts.0 in
    let printable = printable_filled text (n - length text) chars.1 in
    let same : trimmed (filled text n) ≡ text = filled_trimmed text (n - length text) ∙ text_trimmed text parts.1 in
    (λ i. if printable i && nat_le (length (same i)) 255 then Some (same i) else None) ∙ ap (λ (b : Bool). if b then Some text else None) chars.0

abbrev Refills : ℕ → List ℕ → List ℕ → Type 0
Refills b bs s = (length s ≤ suc (length bs)) × (s ++ replicate (suc (length bs) - length s) 32 ≡ b ∷ bs)

-- a byte in front of blanks
refilled_one : (b : ℕ) (bs : List ℕ) → replicate (length bs - 0) 32 ≡ bs → (blank : Bool) → is_blank b ≡ blank → Refills b bs (if blank then [] else b ∷ [])
refilled_one b bs is true e =
    let same : 32 ≡ b = grind (arith, nat_tests) in
    (omega arith, ap (λ (k : ℕ). replicate k 32) (let f : suc (length bs) - 0 ≡ suc (length bs - 0) = omega arith in f) ∙ (λ i. same i ∷ is i))
refilled_one b bs is false e =
    (omega arith, ap (λ s. b ∷ s) (ap (λ (k : ℕ). replicate k 32) (let f : suc (length bs) - 1 ≡ length bs - 0 = omega arith in f) ∙ is))

-- what is dropped at the end are blanks
refilled_step : (b : ℕ) (bs s : List ℕ) → length s ≤ length bs → s ++ replicate (length bs - length s) 32 ≡ bs
    → (length (before_trimmed b s) ≤ suc (length bs)) × (before_trimmed b s ++ replicate (suc (length bs) - length (before_trimmed b s)) 32 ≡ b ∷ bs)
refilled_step b bs [] le is = subst (Refills b bs) (let e : (if is_blank b then [] else b ∷ []) ≡ before_trimmed b [] = refl in e) (refilled_one b bs is (is_blank b) refl)
refilled_step b bs (c ∷ cs) le is =
    (omega arith, ap (λ s. b ∷ s) (ap (λ (k : ℕ). c ∷ (cs ++ replicate k 32)) (let e : suc (length bs) - suc (suc (length cs)) ≡ length bs - suc (length cs) = omega arith in e) ∙ is))

refilled : (bytes : List ℕ) → (length (trimmed bytes) ≤ length bytes) × (trimmed bytes ++ replicate (length bytes - length (trimmed bytes)) 32 ≡ bytes)
refilled [] = (omega arith, refl)
refilled (b ∷ bs) = let rest = refilled bs in refilled_step b bs (trimmed bs) rest.0 rest.1

-- bytes that are a text, filled with blanks
pub text_spelled : (bytes text : List ℕ) → text_of bytes ≡ Some text → IsTrue (is_text text) × (length text ≤ length bytes) × (filled text (length bytes) ≡ bytes)
unfolding text_of
text_spelled bytes text e = by_cases (list_all is_printable bytes) (nat_le (length (trimmed bytes)) 255) refl refl e
  where
    by_cases : (a b : Bool) → list_all is_printable bytes ≡ a → nat_le (length (trimmed bytes)) 255 ≡ b → (if a && b then Some (trimmed bytes) else None) ≡ Some text
        → IsTrue (is_text text) × (length text ≤ length bytes) × (filled text (length bytes) ≡ bytes)
    by_cases true true p q e =
        let same : trimmed bytes ≡ text = cc in
        let whole = refilled bytes in
        subst (λ (t : List ℕ). IsTrue (is_text t) × (length t ≤ length bytes) × (filled t (length bytes) ≡ bytes)) same (trimmed_text bytes p q, whole.0, whole.1)
    by_cases true false p q e = cc
    by_cases false b p q e = cc
