use Rattle.std.proofs.Common.{arith}
use Rattle.fault_io.proofs.Piecewise.{counted_on, given_on}
use Rattle.fault_io.proofs.pieces.give_on.Goals as goal

pub returns-clause-bytes : goal.returns-clause-bytes
returns-clause-bytes g c =
    given_on _ (g.S.Source.left c.refill.new.source) c.refill.new.piece c.give.new.self c.give.new.buf c.give.result _ c.in_ok-refill.ensures.kept c.in_ok-refill.ensures.end c.give.ensures.count (omega (arith, c.give.auto.buf)) c.give.ensures.given

pub returns-clause-small : goal.returns-clause-small
returns-clause-small g c =
    (c.refill.new.piece, c.in_ok-refill.ensures.size, c.give.ensures.count, counted_on c.refill.new.piece c.give.new.self c.give.new.buf c.give.result _ c.give.ensures.count (omega (arith, c.give.auto.buf)) c.give.ensures.given)
