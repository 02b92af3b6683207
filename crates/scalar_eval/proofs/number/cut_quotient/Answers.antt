use Rattle.scalar_eval.proofs.Wide.{quotient_read}
use Rattle.scalar_eval.proofs.number.cut_quotient.Goals as goal

pub returns : goal.returns
returns c = quotient_read c.args.left c.args.right c.ranges.left c.ranges.right
