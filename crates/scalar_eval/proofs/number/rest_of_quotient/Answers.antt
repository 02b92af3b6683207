use Rattle.scalar_eval.proofs.Wide.{remainder_read}
use Rattle.scalar_eval.proofs.number.rest_of_quotient.Goals as goal

pub returns : goal.returns
returns c = remainder_read c.args.left c.args.right c.ranges.left c.ranges.right
