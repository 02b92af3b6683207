-- A column that was written is read back.
use Rattle.std.proofs.Common.{◌≡◌, refl, sym, ap, ◌∙◌, ℕ, ℤ, pos, negsuc, zero, suc, ◌^◌, ◌<◌, nat_lt, nat_le, nat_eq, Bool, true, false, ◌&&◌, ◌||◌, not, cond, IsTrue, List, [], ◌∷◌, ◌++◌, Option, Some, None, length, take, drop, replicate, arith, length-append, if◌then◌else◌}
use Rattle.std.specs.Prelude.{neg_ℤ, option_map}
use Rattle.std.specs.Int.Signed.{mag}
use Rattle.std.specs.List.{list_all}
use Rattle.std.specs.Int.{w64}
use Rattle.std.specs.Fmt.{decimal, signed_decimal}
use Rattle.std.specs.Char.{digit_value}
use Rattle.std.specs.Str.Parse.{AllDigits, digits_value}
use Rattle.std.proofs.lemmas.Fmt.{decimal_is_IsNumeral}
use Rattle.std.proofs.lemmas.Str.Parse.{digit_from_value}
use Rattle.std.proofs.lemmas.Bool.Decides.{nat_tests, Decides-eqb}
use Rattle.std.proofs.lemmas.Int.{ints}
use Rattle.std.proofs.Math.Seq.{take-append_seam, drop-append_seam}
use Rattle.byteorder.specs.Endian.{little_number, little_bytes, low_bytes, twos_complement}
use Rattle.byteorder.specs.Numbers.{little_number-reads_back}
use Rattle.calculus.specs.declared.value.Domain.TheVariants.{I1, I2, I4}
use Rattle.calculus.specs.Chars.{is_printable, is_chars}
use Rattle.calculus.specs.Name.{is_digit}
use Rattle.calculus.specs.Text.{is_blank, ends_without_blank, is_text, before_trimmed, trimmed, text_of}
use Rattle.calculus.specs.Value.{number_fits}
use Rattle.calculus.specs.Lists.{is_any, has_number}
use Rattle.quel_meaning.specs.Columns.{number_bytes, number_of_bytes, has_bytes, spelled, spelled_signed, without_front_blanks, cut_behind, cut_at}

-- ---- tests

pub both : (a b : Bool) → IsTrue (a && b) → IsTrue a × IsTrue b
both true true t = (refl, refl)
both true false t = cc
both false b t = cc

pub each : (a b : Bool) → IsTrue a → IsTrue b → IsTrue (a && b)
each a b s t = λ i. s i && t i

-- ---- cutting

pub cut_behind_front : (front more : List ℕ) → cut_behind (length front) (front ++ more) ≡ Some (front, more)
cut_behind_front front more =
    let long : nat_lt (length (front ++ more)) (length front) ≡ false = grind (arith, nat_tests, length-append front more) in
    ap (λ b. cond b None (Some (take (length front) (front ++ more), drop (length front) (front ++ more)))) long
    ∙ (λ i. Some (take-append_seam front more i, drop-append_seam front more i))

neither : (a b : Bool) → (a || b) ≡ false → (a ≡ false) × (b ≡ false)
neither true b h = cc h
neither false b h = (refl, h)

abbrev cut_as : Bool → ℕ → List ℕ → Option (List ℕ × List ℕ) → Option (List ℕ × List ℕ)
cut_as true b bytes more = Some ([], bytes)
cut_as false b bytes more = option_map (λ cut. (b ∷ cut.0, cut.1)) more

cut-cons : (stop b : ℕ) (bytes : List ℕ) (t : Bool) → nat_eq b stop ≡ t → cut_at stop (b ∷ bytes) ≡ cut_as t b bytes (cut_at stop bytes)
cut-cons stop b bytes true e = rw (e, cut_at) refl
cut-cons stop b bytes false e = rw (e, cut_at) refl

pub cut_at_front : (stop : ℕ) (front more : List ℕ) → has_number front stop ≡ false → cut_at stop (front ++ stop ∷ more) ≡ Some (front, more)
cut_at_front stop [] more h = cut-cons stop stop more true ((Decides-eqb stop stop).1 refl)
cut_at_front stop (b ∷ front) more h =
    let parts = neither (nat_eq b stop) (has_number front stop) h in
    cut-cons stop b (front ++ stop ∷ more) false parts.0 ∙ ap (option_map (λ cut. (b ∷ cut.0, cut.1))) (cut_at_front stop front more parts.1)

-- ---- blanks

-- no byte is a blank
abbrev pub without_blank : List ℕ → Bool
without_blank bytes = list_all (λ b. not (is_blank b)) bytes

blanks_dropped : (n : ℕ) (bytes : List ℕ) → without_front_blanks (replicate n 32 ++ bytes) ≡ without_front_blanks bytes
blanks_dropped zero bytes = refl
blanks_dropped (suc n) bytes = blanks_dropped n bytes

is_no : (b : Bool) → IsTrue (not b) → b ≡ false
is_no true t = cc
is_no false t = refl

drop-cons : (b : ℕ) (bytes : List ℕ) → is_blank b ≡ false → without_front_blanks (b ∷ bytes) ≡ b ∷ bytes
drop-cons b bytes e = rw (e, without_front_blanks) refl

front_kept : (bytes : List ℕ) → IsTrue (without_blank bytes) → without_front_blanks bytes ≡ bytes
front_kept [] h = refl
front_kept (b ∷ bytes) h = drop-cons b bytes (is_no (is_blank b) (both (not (is_blank b)) (without_blank bytes) h).0)

end_kept : (bytes : List ℕ) → IsTrue (without_blank bytes) → trimmed bytes ≡ bytes
end_kept [] h = refl
end_kept (b ∷ bytes) h =
    let parts = both (not (is_blank b)) (without_blank bytes) h in
    ap (before_trimmed b) (end_kept bytes parts.1) ∙ no_blank_kept b bytes (is_no (is_blank b) parts.0)
  where
    no_blank_kept : (b : ℕ) (bytes : List ℕ) → is_blank b ≡ false → before_trimmed b bytes ≡ b ∷ bytes
    no_blank_kept b [] e = rw e refl
    no_blank_kept b (c ∷ bytes) e = refl

-- ---- printed numbers

digit_is_digit : (c : ℕ) → digit_value c < 10 → is_digit c ≡ true
digit_is_digit c h = let range = digit_from_value c h in grind (arith, nat_tests, range)

digits_are_digits : (ds : List ℕ) → AllDigits 10 ds → list_all is_digit ds ≡ true
digits_are_digits [] h = refl
digits_are_digits (c ∷ cs) h = each (is_digit c) (list_all is_digit cs) (digit_is_digit c h.0) (digits_are_digits cs h.1)

digits_have_no_blank : (ds : List ℕ) → AllDigits 10 ds → IsTrue (without_blank ds)
digits_have_no_blank [] h = refl
digits_have_no_blank (c ∷ cs) h = each (not (is_blank c)) (without_blank cs) (no_blank c h.0) (digits_have_no_blank cs h.1)
  where
    no_blank : (c : ℕ) → digit_value c < 10 → IsTrue (not (is_blank c))
    no_blank c h = let range = digit_from_value c h in grind (arith, nat_tests, range)

spelled_decimal : (n : ℕ) → n < 2 ^ 64 → spelled (decimal n) ≡ Some n
spelled_decimal n small =
    let numeral = decimal_is_IsNumeral n small in
    ap (λ b. cond b (Some (digits_value 10 (decimal n))) None) (each (is_any (decimal n)) (list_all is_digit (decimal n)) (some (decimal n) numeral.0.0) (digits_are_digits (decimal n) numeral.0.1))
    ∙ ap Some numeral.1
  where
    some : (ds : List ℕ) → 0 < length ds → is_any ds ≡ true
    some [] h = absurd (omega arith)
    some (c ∷ cs) h = refl

signed-cons : (b : ℕ) (bytes : List ℕ) (t : Bool) → nat_eq b 45 ≡ t
    → spelled_signed (b ∷ bytes) ≡ cond t (option_map (λ n. neg_ℤ (pos n)) (spelled bytes)) (option_map pos (spelled (b ∷ bytes)))
signed-cons b bytes true e = rw (e, spelled_signed) refl
signed-cons b bytes false e = rw (e, spelled_signed) refl

spelled_unsigned : (ds : List ℕ) → 0 < length ds → AllDigits 10 ds → spelled_signed ds ≡ option_map pos (spelled ds)
spelled_unsigned [] some h = absurd (omega arith)
spelled_unsigned (c ∷ cs) some h = signed-cons c cs false (no_minus c h.0)
  where
    no_minus : (c : ℕ) → digit_value c < 10 → nat_eq c 45 ≡ false
    no_minus c h = let range = digit_from_value c h in grind (arith, nat_tests, range)

-- a number of 64 bits
abbrev pub Is64 : ℤ → Type 0
Is64 z = mag z < 2 ^ 63

spelled_number : (z : ℤ) → Is64 z → spelled_signed (signed_decimal z) ≡ Some z
spelled_number (pos n) small =
    let numeral = decimal_is_IsNumeral n (omega arith) in
    spelled_unsigned (decimal n) numeral.0.0 numeral.0.1 ∙ ap (option_map pos) (spelled_decimal n (omega arith))
spelled_number (negsuc n) small = signed-cons 45 (decimal (suc n)) true refl ∙ ap (option_map (λ n. neg_ℤ (pos n))) (spelled_decimal (suc n) (omega arith))

number_has_no_blank : (z : ℤ) → Is64 z → IsTrue (without_blank (signed_decimal z))
number_has_no_blank (pos n) small = digits_have_no_blank (decimal n) (decimal_is_IsNumeral n (omega arith)).0.1
number_has_no_blank (negsuc n) small = digits_have_no_blank (decimal (suc n)) (decimal_is_IsNumeral (suc n) (omega arith)).0.1

-- a number that is printed behind blanks is that number
pub number_printed : (n : ℕ) (z : ℤ) → Is64 z → spelled_signed (trimmed (without_front_blanks (replicate n 32 ++ signed_decimal z))) ≡ Some z
number_printed n z small =
    ap (λ bytes. spelled_signed (trimmed bytes)) (blanks_dropped n (signed_decimal z) ∙ front_kept (signed_decimal z) (number_has_no_blank z small))
    ∙ ap spelled_signed (end_kept (signed_decimal z) (number_has_no_blank z small)) ∙ spelled_number z small

-- ---- numbers of bytes

pub append-nil : (xs : List ℕ) → xs ++ [] ≡ xs
append-nil [] = refl
append-nil (x ∷ xs) = ap (λ ys. x ∷ ys) (append-nil xs)

number_back : (n x : ℕ) → x < 256 ^ n → little_number n (little_bytes n x) ≡ x
number_back n x lt = ap (little_number n) (sym (append-nil (little_bytes n x))) ∙ little_number-reads_back n x [] lt

pub bytes_1 : (z : ℤ) → IsTrue (has_bytes 1 z) → number_of_bytes 1 (number_bytes 1 z) ≡ z
bytes_1 z t = ap (twos_complement 1) (number_back 1 (low_bytes w64 1 z) (omega arith)) ∙ cut z t
  where
    cut : (z : ℤ) → IsTrue (number_fits z I1) → twos_complement 1 (low_bytes w64 1 z) ≡ z
    cut (pos m) t = grind (arith, ints, nat_tests)
    cut (negsuc m) t = grind (arith, ints, nat_tests)

pub bytes_2 : (z : ℤ) → IsTrue (has_bytes 2 z) → number_of_bytes 2 (number_bytes 2 z) ≡ z
bytes_2 z t = ap (twos_complement 2) (number_back 2 (low_bytes w64 2 z) (omega arith)) ∙ cut z t
  where
    cut : (z : ℤ) → IsTrue (number_fits z I2) → twos_complement 2 (low_bytes w64 2 z) ≡ z
    cut (pos m) t = grind (arith, ints, nat_tests)
    cut (negsuc m) t = grind (arith, ints, nat_tests)

pub bytes_4 : (z : ℤ) → IsTrue (has_bytes 4 z) → number_of_bytes 4 (number_bytes 4 z) ≡ z
bytes_4 z t = ap (twos_complement 4) (number_back 4 (low_bytes w64 4 z) (omega arith)) ∙ cut z t
  where
    cut : (z : ℤ) → IsTrue (number_fits z I4) → twos_complement 4 (low_bytes w64 4 z) ≡ z
    cut (pos m) t = grind (arith, ints, nat_tests)
    cut (negsuc m) t = grind (arith, ints, nat_tests)

-- ---- texts

filled_trimmed : (text : List ℕ) (n : ℕ) → trimmed (text ++ replicate n 32) ≡ trimmed text
filled_trimmed [] zero = refl
filled_trimmed [] (suc n) = ap (before_trimmed 32) (filled_trimmed [] n)
filled_trimmed (b ∷ bs) n = ap (before_trimmed b) (filled_trimmed bs n)

text_trimmed : (text : List ℕ) → IsTrue (ends_without_blank text) → trimmed text ≡ text
text_trimmed [] t = refl
text_trimmed (b ∷ []) t = rw (is_no (is_blank b) t) refl
text_trimmed (b ∷ c ∷ bs) t = ap (before_trimmed b) (text_trimmed (c ∷ bs) t)

printable_filled : (text : List ℕ) (n : ℕ) → IsTrue (list_all is_printable text) → IsTrue (list_all is_printable (text ++ replicate n 32))
printable_filled [] zero t = refl
printable_filled [] (suc n) t = printable_filled [] n refl
printable_filled (b ∷ bs) n t =
    let parts = both (is_printable b) (list_all is_printable bs) t in
    each (is_printable b) (list_all is_printable (bs ++ replicate n 32)) parts.0 (printable_filled bs n parts.1)

-- a text that was filled with blanks is itself again
pub text_printed : (text : List ℕ) (n : ℕ) → IsTrue (is_text text) → text_of (text ++ replicate n 32) ≡ Some text
unfolding text_of is_text is_chars
text_printed text n t =
    let parts = both (is_chars text) (ends_without_blank text) t in
    let chars = both (nat_le (length text) 255) (list_all is_printable text) parts.0 in
    let printable = printable_filled text n chars.1 in
    let same : trimmed (text ++ replicate n 32) ≡ text = filled_trimmed text n ∙ text_trimmed text parts.1 in
    (λ i. if printable i && nat_le (length (same i)) 255 then Some (same i) else None) ∙ ap (λ (b : Bool). if b then Some text else None) chars.0
