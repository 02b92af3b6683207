use Rattle.std.proofs.Common.{ap, length, arith}
use Rattle.catalog_moves.proofs.trees.put_parts.Goals as goal

pub returns-clause-few : goal.returns-clause-few
returns-clause-few c = omega (arith, ap length c.into_items-parts.ensures, c.if-len-gt65536.false)
