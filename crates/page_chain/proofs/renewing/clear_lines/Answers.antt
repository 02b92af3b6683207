use Rattle.std.proofs.Common.{arith}
use Rattle.page_chain.proofs.Clearing.{page_left}
use Rattle.page_chain.proofs.renewing.clear_lines.Goals as goal

pub returns-clause-stay : goal.returns-clause-stay
returns-clause-stay c n =
    page_left c.args.going.now n c.args.page.now c.lines.page c.lines.invariant.page c.lines.invariant.alike
    (λ k lt. c.lines.invariant.left k (omega arith))
