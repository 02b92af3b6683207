use Rattle.stage_util.proofs.Causes.{still_short}
use Rattle.std.proofs.Common.{refl}
use Rattle.stage_util.proofs.Layings.{laid_short}
use Rattle.stage_util.proofs.laying.lay.Goals as goal

pub returns-in-Err-clause-done : goal.returns-in-Err-clause-done
returns-in-Err-clause-done g c = λ b asked.
    laid_short c.args.change.now (g.B.Base.database b) (g.B.Base.database c.args.base.now) (g.B.Base.schema c.args.base.now) (g.B.Base.clock b) (g.B.Base.clock c.args.base.now) (g.B.Base.left_since b) (g.B.Base.left_since c.args.base.now)
    (g.B.Base.asks_keep b c.args.base.now asked).0 (g.B.Base.asks b c.args.base.now asked).nothing_else

pub returns-in-Err-clause-cause : goal.returns-in-Err-clause-cause
returns-in-Err-clause-cause g c = still_short (g.B.Base.database c.args.base.now) (g.B.Base.faults c.args.base.now) (g.B.Base.faults c.args.base.now) 0 0 refl refl
