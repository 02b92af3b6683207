use Rattle.std.proofs.Common.{length, ap, arith}
use Rattle.page_cells.proofs.Lists.{length_slots}
use Rattle.page_cells.proofs.putting.make_gap.Goals as goal

pub returns-clause-gap : goal.returns-clause-gap
returns-clause-gap c = omega (arith, c.pack.ensures.low, ap length c.pack.ensures.slots, length_slots c.pack.new.out)
