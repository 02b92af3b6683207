use Rattle.stage_util.proofs.Causes.{with_shelf}
use Rattle.stage_util.proofs.carrying.work_done.Goals as goal

pub returns-in-None-clause-cause : goal.returns-in-None-clause-cause
returns-in-None-clause-cause g c =
    with_shelf (g.B.Base.database c.args.base.now) (g.B.Base.faults c.args.base.now) (g.B.Base.faults c.plan_done.new.base) (g.H.Shelf.faults c.args.shelf.now) c.plan_done.result c.plan_done.ensures.cause

pub returns-in-None-clause-done : goal.returns-in-None-clause-done
returns-in-None-clause-done g c = λ b asked. c.plan_done.ensures.done b (g.H.Shelf.files c.args.shelf.now) asked
