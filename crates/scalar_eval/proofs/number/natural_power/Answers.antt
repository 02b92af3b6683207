use Rattle.std.proofs.Common.{◌≡◌, sym, ap, ◌∙◌, ℕ, ℤ, pos, negsuc, FitsSigned, to_z, of_z, w64}
use Rattle.std.proofs.lemmas.Int.{to_z-of_z}
use Rattle.calculus.specs.Number.{number, repeated}
use Rattle.scalar_eval.proofs.Powers.{power_of_one, even_power, odd_power}
use Rattle.scalar_eval.proofs.number.natural_power.Goals as goal
use Rattle.scalar_eval.proofs.number.natural_power.Goals.{then-base-eq1-via-then-base-eq1, then-base-eq1-via-else-base-eq1+then-exponent-eq0}

is_read : (x : ℤ) (n : ℕ) → FitsSigned w64 x → of_z w64 x ≡ n → x ≡ to_z w64 n
is_read x n f h = sym (to_z-of_z w64 x f) ∙ ap (to_z w64) h

is_one : (x : ℤ) → FitsSigned w64 x → of_z w64 x ≡ 1 → x ≡ pos 1
is_one x f h = is_read x 1 f h

is_minus_one : (x : ℤ) → FitsSigned w64 x → of_z w64 x ≡ 18446744073709551615 → x ≡ negsuc 0
is_minus_one x f h = is_read x 18446744073709551615 f h

pub returns-then-base-eq1 : goal.returns-then-base-eq1
returns-then-base-eq1 c = elim c.then-base-eq1.branch [
  | then-base-eq1-via-then-base-eq1 w ↦
      sym (ap (λ b. number (repeated b c.args.exponent)) (is_one c.args.base c.ranges.base w.if-base-eq1.true) ∙ power_of_one c.args.exponent)
  | then-base-eq1-via-else-base-eq1+then-exponent-eq0 w ↦
      sym (ap (λ n. number (repeated c.args.base n)) w.if-exponent-eq0.true)
]

pub returns-then-exponent-eq0-2 : goal.returns-then-exponent-eq0-2
returns-then-exponent-eq0-2 c =
    sym (ap (λ b. number (repeated b c.args.exponent)) (is_minus_one c.args.base c.ranges.base c.if-base-eqminus1.true)
    ∙ even_power c.args.exponent c.if-exponent-eq0-2.true)

pub returns-else-exponent-eq0-2 : goal.returns-else-exponent-eq0-2
returns-else-exponent-eq0-2 c =
    sym (ap (λ b. number (repeated b c.args.exponent)) (is_minus_one c.args.base c.ranges.base c.if-base-eqminus1.true)
    ∙ odd_power c.args.exponent c.if-exponent-eq0-2.false)
