-- The texts in the rows of the catalogues.
use Rattle.std.proofs.Common.{refl, ◌∙◌, ℕ, ◌+◌, ◌≤◌, ◌<◌, true, ◌&&◌, IsTrue, [], ◌∷◌, ◌++◌, length, nat_le, rules, arith}
use Rattle.std.specs.Prelude.{codes, decimal, ◌^◌, ◌%◌}
use Rattle.std.specs.List.{list_all}
use Rattle.std.proofs.lemmas.Fmt.{decimal_by_steps, length-decimal-le}
use Rattle.std.proofs.lemmas.List.Folds.{list_all-append}
use Rattle.calculus.specs.declared.value.Domain.TheVariants.{I1, I2, I4, C}
use Rattle.calculus.specs.declared.value.Kind.{Kind}
use Rattle.calculus.specs.declared.value.Kind.TheVariants.{Of, Wide}
use Rattle.calculus.specs.declared.schema.Spec.{Spec}
use Rattle.calculus.specs.declared.schema.Spec.TheVariants.{Heap, Hash, Isam, View, Index}
use Rattle.calculus.specs.Chars.{is_chars}
use Rattle.calculus.specs.Name.{is_name_byte}
use Rattle.calculus.specs.Text.{is_text}
use Rattle.calculus.specs.Catalogue.{format_text}
use Rattle.calculus.specs.Structures.{spec_text}
use Rattle.calculus.specs.IsDatabase.{is_kind}
use Rattle.update_laws.proofs.Texts.{both, each, solid_text}

-- ---- digits

digit : (d : ℕ) → d < 10 → IsTrue (is_name_byte (48 + d))
digit d h = search (rules, h)

digits_solid : (n : ℕ) → n < 2 ^ 64 → IsTrue (list_all is_name_byte (decimal n))
digits_solid =
    decimal_by_steps (λ n ds. IsTrue (list_all is_name_byte ds)) (λ n h. each (is_name_byte (48 + n)) true (digit n h) refl)
    (λ n ds h k. list_all-append is_name_byte ds ((48 + n % 10) ∷ [])
    ∙ each (list_all is_name_byte ds) (is_name_byte (48 + n % 10) && true) k (each (is_name_byte (48 + n % 10)) true (digit (n % 10) (omega arith)) refl))

width_short : (n : ℕ) → n < 2 ^ 8 → length (codes "c" ++ decimal n) ≤ 255
width_short n h = let few : length (decimal n) ≤ 3 = length-decimal-le 3 n (search rules) (search rules) (search rules) in search (rules, few)

width_is_text : (n : ℕ) → n < 2 ^ 8 → IsTrue (is_text (codes "c" ++ decimal n))
width_is_text n h = solid_text (codes "c" ++ decimal n) (digits_solid n (search rules)) (width_short n h)

in_a_byte : (n : ℕ) → IsTrue (nat_le n 255) → n < 2 ^ 8
in_a_byte n h = search (rules, h)

-- ---- what catalogues say

pub spec_is_text : (s : Spec) → IsTrue (is_text (spec_text s))
unfolding is_text is_chars
spec_is_text Heap = refl
spec_is_text Hash = refl
spec_is_text Isam = refl
spec_is_text View = refl
spec_is_text Index = refl

wide_is_text : IsTrue (is_text (format_text Wide))
unfolding is_text is_chars
wide_is_text = refl

byte_is_text : IsTrue (is_text (format_text (Of I1)))
unfolding is_text is_chars
byte_is_text = refl

short_is_text : IsTrue (is_text (format_text (Of I2)))
unfolding is_text is_chars
short_is_text = refl

long_is_text : IsTrue (is_text (format_text (Of I4)))
unfolding is_text is_chars
long_is_text = refl

pub format_is_text : (k : Kind) → IsTrue (is_kind k) → IsTrue (is_text (format_text k))
format_is_text Wide h = wide_is_text
format_is_text (Of I1) h = byte_is_text
format_is_text (Of I2) h = short_is_text
format_is_text (Of I4) h = long_is_text
format_is_text (Of (C width)) h = width_is_text width (in_a_byte width (both (nat_le 1 width) (nat_le width 255) h).1)
