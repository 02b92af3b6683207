-- Constants, joined texts, names and what catalogues say are texts in the language's sense.
use Rattle.std.specs.Prelude.{◌≡◌, ℕ, ◌+◌, ◌≤◌, ◌<◌, ◌%◌, ◌^◌, ◌==◌, Bool, true, false, ◌&&◌, not, IsTrue, List, [], ◌∷◌, ◌++◌, length, nat_le, codes, decimal}
use Rattle.std.specs.List.{list_all}
use Rattle.std.proofs.Common.{refl, subst, ◌∙◌, arith}
use Rattle.std.proofs.lemmas.Bool.{and_parts, and_from, leb-true, le-leb, eqb-true, ne_eqb}
use Rattle.std.proofs.lemmas.Fmt.{decimal_by_steps, length-decimal-le}
use Rattle.std.proofs.lemmas.List.Folds.{list_all-append}
use Rattle.calculus.specs.declared.unescaped.Unescaped.{Unescaped}
use Rattle.calculus.specs.declared.schema.Spec.{Spec}
use Rattle.calculus.specs.declared.schema.Spec.TheVariants.{Heap, Hash, Isam, View, Index}
use Rattle.calculus.specs.declared.value.Domain.TheVariants.{I1, I2, I4, C}
use Rattle.calculus.specs.declared.value.Kind.{Kind}
use Rattle.calculus.specs.declared.value.Kind.TheVariants.{Of, Wide}
use Rattle.calculus.specs.declared.value.Value.TheVariants.{Text}
use Rattle.calculus.specs.Catalogue.{format_text}
use Rattle.calculus.specs.Chars.{is_printable, is_chars}
use Rattle.calculus.specs.Constant.{unescaped_byte, unescaped_behind, unescaped, plain_bytes, constant_text}
use Rattle.calculus.specs.IsDatabase.{is_kind, value_fits}
use Rattle.calculus.specs.Name.{is_name, is_name_byte, starts_name}
use Rattle.calculus.specs.Structures.{spec_text}
use Rattle.calculus.specs.Text.{is_text, is_blank, ends_without_blank, trimmed}
use Rattle.calculus.proofs.Constants.{chars_short}
use Rattle.calculus.proofs.Texts.{trimmed_text}
use Rattle.quel_meaning.proofs.ConstantLengths.{constant_short}
use Rattle.quel_meaning.proofs.NameChars.{name_is_chars}

-- printable bytes, at most 255, that don't end in a blank
pub text_from : (bs : List ℕ) → length bs ≤ 255 → IsTrue (list_all is_printable bs) → IsTrue (ends_without_blank bs) → IsTrue (is_text bs)
unfolding is_text is_chars
text_from bs few printable ends =
    and_from (nat_le (length bs) 255 && list_all is_printable bs) (ends_without_blank bs) (and_from (nat_le (length bs) 255) (list_all is_printable bs) (le-leb (length bs) 255 few) printable) ends

-- what a text has: printable bytes, at most 255, and no blank at its end
pub record HasText (bs : List ℕ) : Type 0 where
  pub few : length bs ≤ 255
  pub printable : IsTrue (list_all is_printable bs)
  pub ends : IsTrue (ends_without_blank bs)

pub text_has : (bs : List ℕ) → IsTrue (is_text bs) → HasText bs
unfolding is_text is_chars
text_has bs h =
    let w = and_parts (nat_le (length bs) 255 && list_all is_printable bs) (ends_without_blank bs) h in
    let p = and_parts (nat_le (length bs) 255) (list_all is_printable bs) w.0 in
    record { few = leb-true (length bs) 255 p.0; printable = p.1; ends = w.1 }

-- ---- constants

-- the bytes that are meant are among those that are written
meant : (taken : Bool) (bs : List ℕ) → IsTrue (list_all is_printable bs) → IsTrue (list_all is_printable (plain_bytes (unescaped_behind taken bs)))
meant true [] h = refl
meant false [] h = refl
meant true (b ∷ bs) h =
    let p = and_parts (is_printable b) (list_all is_printable bs) h in
    and_from (is_printable b) (list_all is_printable (plain_bytes (unescaped_behind false bs))) p.0 (meant false bs p.1)
meant false (b ∷ bs) h =
    let p = and_parts (is_printable b) (list_all is_printable bs) h in
    go (b == 92) p.0 (meant true bs p.1) (meant false bs p.1)
  where
    go : (c : Bool) → IsTrue (is_printable b) → IsTrue (list_all is_printable (plain_bytes (unescaped_behind true bs))) → IsTrue (list_all is_printable (plain_bytes (unescaped_behind false bs)))
        → IsTrue (list_all is_printable (plain_bytes (elim c as (λ c. List Unescaped) [ true ↦ unescaped_behind true bs | false ↦ unescaped_byte b false ∷ unescaped_behind false bs ])))
    go true p taken plain = taken
    go false p taken plain = and_from (is_printable b) (list_all is_printable (plain_bytes (unescaped_behind false bs))) p plain

chars_printable : (bytes : List ℕ) → IsTrue (is_chars bytes) → IsTrue (list_all is_printable bytes)
unfolding is_chars
chars_printable bytes h = (and_parts (nat_le (length bytes) 255) (list_all is_printable bytes) h).1

meant_text : (bytes : List ℕ) → IsTrue (list_all is_printable bytes) → length (constant_text bytes) ≤ 255 → IsTrue (is_text (constant_text bytes))
unfolding constant_text unescaped
meant_text bytes h few =
    trimmed_text (plain_bytes (unescaped_behind false bytes)) (meant false bytes h) (le-leb (length (trimmed (plain_bytes (unescaped_behind false bytes)))) 255 few)

pub constant_is_text : (bytes : List ℕ) → IsTrue (is_chars bytes) → IsTrue (is_text (constant_text bytes))
constant_is_text bytes h = meant_text bytes (chars_printable bytes h) (constant_short bytes h)

-- ---- one text behind the other

ends_behind : (s t : List ℕ) → IsTrue (ends_without_blank s) → IsTrue (ends_without_blank t) → IsTrue (ends_without_blank (s ++ t))
ends_behind [] t h k = k
ends_behind (b ∷ []) [] h k = h
ends_behind (b ∷ []) (c ∷ t) h k = k
ends_behind (b ∷ c ∷ s) t h k = ends_behind (c ∷ s) t h k

pub joined_is_text : (s t : List ℕ) → IsTrue (is_text s) → IsTrue (is_text t) → IsTrue (nat_le (length (s ++ t)) 255) → IsTrue (is_text (s ++ t))
joined_is_text s t h k few =
    let one = text_has s h in
    let other = text_has t k in
    text_from (s ++ t) (leb-true (length (s ++ t)) 255 few)
    (list_all-append is_printable s t ∙ and_from (list_all is_printable s) (list_all is_printable t) one.printable other.printable) (ends_behind s t one.ends other.ends)

-- ---- names

-- the byte is no blank
abbrev no_blank : ℕ → Bool
no_blank b = not (is_blank b)

ends_solid : (bs : List ℕ) → IsTrue (list_all no_blank bs) → IsTrue (ends_without_blank bs)
ends_solid [] h = refl
ends_solid (b ∷ []) h = (and_parts (no_blank b) true h).0
ends_solid (b ∷ c ∷ bs) h = ends_solid (c ∷ bs) (and_parts (no_blank b) (list_all no_blank (c ∷ bs)) h).1

name_byte_solid : (b : ℕ) → IsTrue (is_name_byte b) → IsTrue (no_blank b)
name_byte_solid b h = go (b == 32) refl
  where
    go : (c : Bool) → (b == 32) ≡ c → not c ≡ true
    go true e = let blank : is_name_byte 32 ≡ true = subst (λ b. is_name_byte b ≡ true) (eqb-true b 32 e) h in absurd (cc blank)
    go false e = refl

name_bytes_solid : (bs : List ℕ) → IsTrue (list_all is_name_byte bs) → IsTrue (list_all no_blank bs)
name_bytes_solid [] h = refl
name_bytes_solid (b ∷ bs) h =
    let parts = and_parts (is_name_byte b) (list_all is_name_byte bs) h in
    and_from (no_blank b) (list_all no_blank bs) (name_byte_solid b parts.0) (name_bytes_solid bs parts.1)

name_ends : (bs : List ℕ) → IsTrue (is_name bs) → IsTrue (ends_without_blank bs)
unfolding is_name
name_ends bs h = ends_solid bs (name_bytes_solid bs (and_parts (starts_name bs && nat_le (length bs) 12) (list_all is_name_byte bs) h).1)

name_is_text : (bs : List ℕ) → IsTrue (is_name bs) → IsTrue (is_text bs)
name_is_text bs h = let chars = name_is_chars bs h in text_from bs (chars_short bs chars) (chars_printable bs chars) (name_ends bs h)

-- a text that is no longer than a width is a value of the texts of this width
pub text_fits : (width : ℕ) (bs : List ℕ) → length bs ≤ width → IsTrue (is_text bs) → IsTrue (value_fits (Text bs) (Of (C width)))
text_fits width bs few h = and_from (nat_le (length bs) width) (is_text bs) (le-leb (length bs) width few) h

pub name_fits : (bs : List ℕ) → IsTrue (is_name bs) → IsTrue (value_fits (Text bs) (Of (C 12)))
unfolding is_name
name_fits bs h =
    let short = and_parts (starts_name bs) (nat_le (length bs) 12) (and_parts (starts_name bs && nat_le (length bs) 12) (list_all is_name_byte bs) h).0 in
    text_fits 12 bs (leb-true (length bs) 12 short.1) (name_is_text bs h)

-- ---- what catalogues say

pub spec_fits : (s : Spec) → IsTrue (value_fits (Text (spec_text s)) (Of (C 6)))
unfolding is_text is_chars
spec_fits Heap = refl
spec_fits Hash = refl
spec_fits Isam = refl
spec_fits View = refl
spec_fits Index = refl

-- a test that each digit passes
digits_pass : (p : ℕ → Bool) → ((d : ℕ) → d < 10 → IsTrue (p (48 + d))) → (n : ℕ) → n < 2 ^ 64 → IsTrue (list_all p (decimal n))
digits_pass p f =
    decimal_by_steps (λ n ds. IsTrue (list_all p ds)) (λ n h. and_from (p (48 + n)) true (f n h) refl)
    (λ n ds h k. list_all-append p ds ((48 + n % 10) ∷ [])
    ∙ and_from (list_all p ds) (p (48 + n % 10) && true) k (and_from (p (48 + n % 10)) true (f (n % 10) (omega arith)) refl))

digit_printable : (d : ℕ) → d < 10 → IsTrue (is_printable (48 + d))
digit_printable d h = and_from (nat_le 32 (48 + d)) (nat_le (48 + d) 126) (le-leb 32 (48 + d) (omega arith)) (le-leb (48 + d) 126 (omega (arith, h)))

digit_solid : (d : ℕ) → d < 10 → IsTrue (no_blank (48 + d))
digit_solid d h = rw (ne_eqb (48 + d) 32 (λ e. omega (arith, e))) refl

width_fits : (n : ℕ) → n < 256 → IsTrue (value_fits (Text (codes "c" ++ decimal n)) (Of (C 4)))
width_fits n h =
    let big : n < 18446744073709551616 = omega (arith, h) in
    let small : n < 1000 = omega (arith, h) in
    let few : length (decimal n) ≤ 3 = length-decimal-le 3 n (omega arith) small big in
    text_fits 4 (codes "c" ++ decimal n) (omega (arith, few))
    (text_from (codes "c" ++ decimal n) (omega (arith, few)) (digits_pass is_printable digit_printable n big) (ends_solid (codes "c" ++ decimal n) (digits_pass no_blank digit_solid n big)))

in_a_byte : (n : ℕ) → IsTrue (nat_le n 255) → n < 256
in_a_byte n h = let few = leb-true n 255 h in omega (arith, few)

wide_fits : IsTrue (value_fits (Text (format_text Wide)) (Of (C 4)))
unfolding is_text is_chars
wide_fits = refl

byte_fits : IsTrue (value_fits (Text (format_text (Of I1))) (Of (C 4)))
unfolding is_text is_chars
byte_fits = refl

short_fits : IsTrue (value_fits (Text (format_text (Of I2))) (Of (C 4)))
unfolding is_text is_chars
short_fits = refl

long_fits : IsTrue (value_fits (Text (format_text (Of I4))) (Of (C 4)))
unfolding is_text is_chars
long_fits = refl

pub format_fits : (k : Kind) → IsTrue (is_kind k) → IsTrue (value_fits (Text (format_text k)) (Of (C 4)))
format_fits Wide h = wide_fits
format_fits (Of I1) h = byte_fits
format_fits (Of I2) h = short_fits
format_fits (Of I4) h = long_fits
format_fits (Of (C width)) h = width_fits width (in_a_byte width (and_parts (nat_le 1 width) (nat_le width 255) h).1)
