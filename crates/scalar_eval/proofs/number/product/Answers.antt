use Rattle.scalar_eval.proofs.Wide.{product_read}
use Rattle.scalar_eval.proofs.number.product.Goals as goal

pub returns : goal.returns
returns c = product_read c.args.left c.args.right c.ranges.left c.ranges.right
