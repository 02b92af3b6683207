use Rattle.stage_util.proofs.Layings.{handed_over}
use Rattle.stage_util.proofs.laying.hand_over.Goals as goal

pub returns-clause-kept : goal.returns-clause-kept
returns-clause-kept g c = λ b asked.
    let now = c.hand_over.new.self in
    let later = c.hand_over.ensures.asked b asked in
    handed_over (g.B.Base.database b) (g.B.Base.database now) (g.B.Base.schema now) (g.B.Base.clock b) (g.B.Base.clock now) (g.B.Base.left_since b) (g.B.Base.left_since now)
    (g.B.Base.asks_keep b now later).0 (g.B.Base.asks b now later).nothing_else (g.B.Base.counts_now now) c.hand_over.ensures.forgotten
