use Rattle.stage_util.proofs.Causes.{with_shelf}
use Rattle.stage_util.proofs.Results.{change_at}
use Rattle.stage_util.specs.Working.{span}
use Rattle.stage_util.proofs.carrying.carry_out.Goals as goal

pub returns-in-Change-clause-cause : goal.returns-in-Change-clause-cause
returns-in-Change-clause-cause g c =
    with_shelf (g.B.Base.database c.args.base.now) (g.B.Base.faults c.args.base.now) (g.B.Base.faults c.change_done.new.base) (g.H.Shelf.faults c.args.shelf.now) c.change_done.result c.change_done.ensures.cause

pub returns-in-Change-clause-done : goal.returns-in-Change-clause-done
returns-in-Change-clause-done g c =
    change_at c.args.user.now c.args.at.now c.in-Change.change c.get-in-Change.result.now (span g.B.Base.database g.B.Base.schema g.B.Base.clock g.B.Base.left_since c.args.base.now c.change_done.new.base) (g.H.Shelf.files c.args.shelf.now) c.change_done.result c.in-Change.is c.get-in-Change.ensures
    (c.change_done.ensures.done c.args.user.now (g.H.Shelf.files c.args.shelf.now))
