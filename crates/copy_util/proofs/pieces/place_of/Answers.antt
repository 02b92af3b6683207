use Rattle.copy_util.proofs.Cuts.{found_at, not_found}
use Rattle.copy_util.proofs.pieces.place_of.Goals as goal

pub returns-then-bytes-i-clause-cut : goal.returns-then-bytes-i-clause-cut
returns-then-bytes-i-clause-cut c = found_at c.args.stop c.loop-i.i c.args.bytes.now c.loop-i-test.true c.loop-i.invariant c.if-bytes-i.true

pub returns-clause-cut : goal.returns-clause-cut
returns-clause-cut c = not_found c.args.stop c.loop-i.i c.args.bytes.now c.loop-i-test.false c.loop-i.invariant
