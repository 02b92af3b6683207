-- Text constants, byte by byte.
use Rattle.std.proofs.Common.{◌≡◌, refl, sym, ap, ◌∙◌, ℕ, ◌+◌, ◌<◌, ◌≤◌, Bool, false, List, [], ◌∷◌, length, map, get_or, slice_get, option_map, Some, None, IsTrue, arith}
use Rattle.std.proofs.lemmas.Option.{slice_get-map, slice_get-get_or}
use Rattle.calculus.specs.declared.unescaped.Unescaped.{Unescaped}
use Rattle.calculus.specs.declared.value.Kind.{Kind}
use Rattle.calculus.specs.Text.{is_blank, before_trimmed, trimmed}
use Rattle.calculus.specs.Constant.{unescaped, plain_bytes, constant_text}
use Rattle.calculus.specs.Chars.{is_chars}
use Rattle.calculus.specs.Kinds.{attribute_kind, kind_in}

-- the text of a constant, from its first byte on
pub text_step : (w r : List ℕ) (m : Unescaped) → unescaped w ≡ m ∷ unescaped r → constant_text w ≡ before_trimmed m.byte (constant_text r)
unfolding constant_text
text_step w r m h = ap (λ ms. trimmed (plain_bytes ms)) h

pub no_text : constant_text [] ≡ []
unfolding constant_text unescaped
no_text = refl

-- how many bytes are kept where so many were read, so many of these are kept if only blanks follow, and this text follows
abbrev pub kept_with : ℕ → ℕ → List ℕ → ℕ
kept_with read kept [] = kept
kept_with read kept (b ∷ bs) = read + length (b ∷ bs)

by_blank : (t : Bool) (b : ℕ) → is_blank b ≡ t → b ≡ 32 → (read kept : ℕ) (bs : List ℕ) → kept_with (read + 1) kept bs ≡ kept_with read kept (before_trimmed b bs)
by_blank t b h e read kept [] = rw e refl
by_blank t b h e read kept (c ∷ bs) = omega arith

pub blank_read : (b : ℕ) → b ≡ 32 → (read kept : ℕ) (bs : List ℕ) → kept_with (read + 1) kept bs ≡ kept_with read kept (before_trimmed b bs)
blank_read b e = by_blank (is_blank b) b refl e

pub byte_read : (b : ℕ) → is_blank b ≡ false → (read kept : ℕ) (bs : List ℕ) → kept_with (read + 1) (read + 1) bs ≡ kept_with read kept (before_trimmed b bs)
byte_read b e read kept [] = rw e refl
byte_read b e read kept (c ∷ bs) = omega arith

pub found_at : {V : Type 0} → (xs : List V) (i : ℕ) (x : V) → i < length xs → x ≡ get_or xs i x → slice_get xs i ≡ Some x
found_at xs i x h e = slice_get-get_or xs i x h ∙ ap Some (sym e)

pub kind_absent : {V : Type 0} → (f : V → List Kind) (vars : List V) (var attr : ℕ) → slice_get vars var ≡ None → attribute_kind (map f vars) var attr ≡ None
unfolding attribute_kind
kind_absent f vars var attr h = ap (λ r. kind_in r attr) (slice_get-map f vars var ∙ ap (option_map f) h)

pub kind_present : {V : Type 0} → (f : V → List Kind) (vars : List V) (var attr : ℕ) (v : V) → slice_get vars var ≡ Some v → attribute_kind (map f vars) var attr ≡ slice_get (f v) attr
unfolding attribute_kind
kind_present f vars var attr v h = ap (λ r. kind_in r attr) (slice_get-map f vars var ∙ ap (option_map f) h)

pub chars_short : (bytes : List ℕ) → IsTrue (is_chars bytes) → length bytes ≤ 255
unfolding is_chars
chars_short bytes h = grind (arith, h)
