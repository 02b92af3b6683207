-- Words for private functions on values and sums. No public clause cites them.
use Rattle.std.specs.Prelude.{ℕ, ◌*◌, ℤ, pos, ◌+ℤ◌, ◌≤ℤ◌, Bool, true, false, List, [], ◌∷◌, length, Option, Some}
use Rattle.calculus.specs.declared.value.Value.{Value}
use Rattle.calculus.specs.declared.value.Value.TheVariants.{Int}
use Rattle.calculus.specs.declared.operator.AggOp.{AggOp}
use Rattle.calculus.specs.declared.operator.AggOp.TheVariants.{Count, Countu, Sum, Sumu, Avg, Avgu, Min, Max, Any}
use Rattle.calculus.specs.Aggregate.{total, average, first_or, last_or, any_of}
use Rattle.calculus.specs.Number.{number}
use Rattle.calculus.specs.Rows.{Row}
use Rattle.calculus.specs.Term.{number_value}

-- the row of this value alone
abbrev pub alone : Value → Row
alone v = v ∷ []

-- the number is within what so many numbers of 64 bits can sum up to
pub record IsSumOf (n : ℕ) (sum : ℤ) : Type 0 where
  pub least : pos 0 ≤ℤ (sum +ℤ pos (9223372036854775808 * n))
  pub greatest : sum ≤ℤ pos (9223372036854775807 * n)

-- the operation is over the different ones among the values
abbrev pub is_over_different : AggOp → Bool
is_over_different Count = false
is_over_different Countu = true
is_over_different Sum = false
is_over_different Sumu = true
is_over_different Avg = false
is_over_different Avgu = true
is_over_different Min = true
is_over_different Max = true
is_over_different Any = false

-- what an operation makes of values that are shown to it: the different ones where it is over those
abbrev pub fold_shown : AggOp → Value → List Value → Option Value
fold_shown Count none vs = Some (Int (pos (length vs)))
fold_shown Countu none vs = Some (Int (pos (length vs)))
fold_shown Sum none vs = number_value (number (total vs))
fold_shown Sumu none vs = number_value (number (total vs))
fold_shown Avg none vs = Some (Int (average vs))
fold_shown Avgu none vs = Some (Int (average vs))
fold_shown Min none vs = Some (first_or none vs)
fold_shown Max none vs = Some (last_or none vs)
fold_shown Any none vs = Some (Int (pos (any_of vs)))
