use Rattle.std.proofs.Common.{arith}
use Rattle.copy_util.proofs.Digits.{one_more_digit}
use Rattle.copy_util.proofs.numbers.digits_value.Goals as goal

pub digits-preserved : goal.digits-preserved
digits-preserved c =
    omega (arith, c.min-number.ensures, c.saturating_sub.ensures, one_more_digit c.args.digits.now c.digits.digit-index c.digits.number c.requires c.digits-test.true c.digits.invariant)
