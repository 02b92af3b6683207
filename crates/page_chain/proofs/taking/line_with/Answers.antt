use Rattle.std.proofs.Common.{arith}
use Rattle.page_chain.proofs.Took.{none_on}
use Rattle.page_chain.proofs.taking.line_with.Goals as goal

pub returns-clause-none : goal.returns-clause-none
returns-clause-none c n = none_on n c.args.page.now c.args.row.now c.requires (λ i lt. c.lines.invariant i (omega arith))
