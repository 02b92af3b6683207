use Rattle.std.proofs.Common.{arith, length-take}
use Rattle.net_core.proofs.Pieces.{read_piece}
use Rattle.net_core.proofs.incoming.Incoming.read_right.Goals as goal

pub returns-in-Ok-clause-done : goal.returns-in-Ok-clause-done
returns-in-Ok-clause-done g c = λ taken bytes h.
    let l = length-take c.in-Ok.count c.read.new.buf in
    read_piece taken bytes _ _ _ _ c.args.self.now c.feed.new.self c.feed.result h c.in-Ok.ensures.bytes.0 (omega (arith, l, c.requires.size, c.read.auto.buf)) (c.feed.ensures.held taken bytes h) c.feed.ensures.err
