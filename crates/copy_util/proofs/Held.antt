-- A number that no domain has stays one that no domain has where its size is held.
use Rattle.std.proofs.Common.{◌≡◌, refl, sym, ap, ◌∙◌, ℕ, suc, ℤ, pos, negsuc, ◌≤◌, min, nat_le, Bool, true, false, List, Option, Some, None, if◌then◌else◌, arith}
use Rattle.std.specs.Prelude.{neg_ℤ, option_map, option_and_then}
use Rattle.std.proofs.lemmas.Bool.Decides.{nat_tests}
use Rattle.std.proofs.lemmas.Int.{ints}
use Rattle.calculus.specs.declared.value.Kind.{Kind}
use Rattle.calculus.specs.declared.value.Kind.TheVariants.{Of, Wide}
use Rattle.calculus.specs.declared.value.Domain.{Domain}
use Rattle.calculus.specs.declared.value.Domain.TheVariants.{I1, I2, I4, C}
use Rattle.calculus.specs.declared.value.Value.{Value}
use Rattle.calculus.specs.declared.value.Value.TheVariants.{Int, Text}
use Rattle.calculus.specs.Kinds.{is_text_kind}
use Rattle.calculus.specs.Text.{text_of, trimmed}
use Rattle.calculus.specs.Value.{number_fits}
use Rattle.quel_meaning.specs.Columns.{fitting, printed_value, spelled_signed, without_front_blanks}
use Rattle.copy_util.specs.Reading.{held, is_wide, most_apart}

too_great : (n : ℕ) (d : Domain) → most_apart ≤ n → number_fits (pos n) d ≡ false
too_great n I1 h = grind (arith, ints, nat_tests, h)
too_great n I2 h = grind (arith, ints, nat_tests, h)
too_great n I4 h = grind (arith, ints, nat_tests, h)
too_great n (C w) h = refl

too_small : (n : ℕ) (d : Domain) → most_apart ≤ suc n → number_fits (negsuc n) d ≡ false
too_small n I1 h = grind (arith, ints, nat_tests, h)
too_small n I2 h = grind (arith, ints, nat_tests, h)
too_small n I4 h = grind (arith, ints, nat_tests, h)
too_small n (C w) h = refl

neither_fits : (d : Domain) (y z : ℤ) → number_fits y d ≡ false → number_fits z d ≡ false → fitting (Some (Of d)) (Int y) ≡ fitting (Some (Of d)) (Int z)
neither_fits d y z e f = ap (λ (b : Bool). if b then Some (Int y) else None) e ∙ sym (ap (λ (b : Bool). if b then Some (Int z) else None) f)

of_domain : (d : Domain) (z : ℤ) → fitting (Some (Of d)) (Int (held z)) ≡ fitting (Some (Of d)) (Int z)
of_domain d (pos n) = go (nat_le n most_apart) refl
  where
    go : (b : Bool) → nat_le n most_apart ≡ b → fitting (Some (Of d)) (Int (held (pos n))) ≡ fitting (Some (Of d)) (Int (pos n))
    go true e = let same : min most_apart n ≡ n = grind (arith, nat_tests, e) in ap (λ n. fitting (Some (Of d)) (Int (pos n))) same
    go false e =
        let most : most_apart ≤ n = grind (arith, nat_tests, e) in
        let same : min most_apart n ≡ most_apart = omega (arith, most) in
        neither_fits d (held (pos n)) (pos n) (ap (λ n. number_fits (pos n) d) same ∙ too_great most_apart d (omega arith)) (too_great n d most)
of_domain d (negsuc n) = go (nat_le (suc n) most_apart) refl
  where
    go : (b : Bool) → nat_le (suc n) most_apart ≡ b → fitting (Some (Of d)) (Int (held (negsuc n))) ≡ fitting (Some (Of d)) (Int (negsuc n))
    go true e = let same : min most_apart (suc n) ≡ suc n = grind (arith, nat_tests, e) in ap (λ n. fitting (Some (Of d)) (Int (neg_ℤ (pos n)))) same
    go false e =
        let most : most_apart ≤ suc n = grind (arith, nat_tests, e) in
        let same : min most_apart (suc n) ≡ most_apart = omega (arith, most) in
        neither_fits d (held (negsuc n)) (negsuc n) (ap (λ n. number_fits (neg_ℤ (pos n)) d) same ∙ too_small 9999999999 d (omega arith)) (too_small n d most)

pub held_fitting : (kind : Option Kind) (z : ℤ) → is_wide kind ≡ false → fitting kind (Int (held z)) ≡ fitting kind (Int z)
held_fitting None z plain = refl
held_fitting (Some Wide) z plain = cc plain
held_fitting (Some (Of d)) z plain = of_domain d z

-- of a number that is read
pub held_value : (kind : Option Kind) (o : Option ℤ) (z : ℤ) → is_wide kind ≡ false → Some z ≡ option_map held o → fitting kind (Int z) ≡ option_and_then (fitting kind) (option_map Int o)
held_value kind None z plain e = cc e
held_value kind (Some y) z plain e = let same : z ≡ held y = cc e in ap (λ z. fitting kind (Int z)) same ∙ held_fitting kind y plain

pub no_value : (kind : Option Kind) (o : Option ℤ) → None ≡ option_map held o → None ≡ option_and_then (fitting kind) (option_map Int o)
no_value kind None e = refl
no_value kind (Some y) e = cc e

-- printed bytes are a number where the kind is none of texts
number_printed : (kind : Option Kind) (bytes : List ℕ) → is_text_kind kind ≡ false → printed_value kind bytes ≡ option_map Int (spelled_signed (trimmed (without_front_blanks bytes)))
number_printed kind bytes = go (is_text_kind kind)
  where
    go : (b : Bool) → b ≡ false → (elim b as (λ b. Option Value) [
      | true ↦ option_map Text (text_of bytes)
      | false ↦ option_map Int (spelled_signed (trimmed (without_front_blanks bytes)))
    ]) ≡ option_map Int (spelled_signed (trimmed (without_front_blanks bytes)))
    go true e = cc e
    go false e = refl

-- the number that was read, where it fits
pub number_read : (kind : Option Kind) (bytes kept : List ℕ) (z : ℤ) (made : Option Value) → is_text_kind kind ≡ false → is_wide kind ≡ false
    → kept ≡ trimmed (without_front_blanks bytes) → Some z ≡ option_map held (spelled_signed kept) → made ≡ fitting kind (Int z)
    → made ≡ option_and_then (fitting kind) (printed_value kind bytes)
number_read kind bytes kept z made number plain is read fits =
    fits ∙ held_value kind (spelled_signed kept) z plain read ∙ ap (λ kept. option_and_then (fitting kind) (option_map Int (spelled_signed kept))) is
    ∙ ap (option_and_then (fitting kind)) (sym (number_printed kind bytes number))
