use Rattle.std.proofs.Common.{Ok, refl, sym}
use Rattle.net_core.specs.Sides.{outlet}
use Rattle.net_core.specs.declared.loop_fault.LoopFault.TheVariants as fault
use Rattle.net_core.specs.declared.steps.Moved.TheVariants.{Blocked}
use Rattle.net_core.proofs.GivingSteps.{give_left_done, give_no_work, give_right_done, room_alone, take_no_work, work_done}
use Rattle.net_core.proofs.Crashing.{left_alone, left_by_work}
use Rattle.net_core.proofs.TakingSteps.{take_left_done, take_link_done}
use Rattle.net_core.proofs.stepping.step.Goals as goal

pub returns-in-TakeLeft-clause-done : goal.returns-in-TakeLeft-clause-done
returns-in-TakeLeft-clause-done g c = λ past goes.
    let t = c.take_left.ensures in
    take_left_done (g.T.Stage.serves c.args.stage.now) past _ _ _ _ _ _ c.take_left.result (sym c.in-TakeLeft.ensures) goes (t.taken _ _ goes.left.holds) t.later t.failed t.answered

pub returns-in-TakeRight-clause-done : goal.returns-in-TakeRight-clause-done
returns-in-TakeRight-clause-done g c = λ past goes.
    let t = c.take_right.ensures in
    take_link_done (g.T.Stage.serves c.args.stage.now) past _ _ _ _ _ _ _ _ c.take_right.result (sym c.in-TakeRight.ensures) goes (t.taken _ _ goes.right.holds) refl t.later t.written t.stalls t.failed t.answered

pub returns-in-GiveLeft-clause-done : goal.returns-in-GiveLeft-clause-done
returns-in-GiveLeft-clause-done g c = λ past goes.
    give_left_done (g.T.Stage.serves c.args.stage.now) past _ _ (outlet g.O.Sink.written g.O.Sink.faults g.O.Sink.stalls c.give_left.new.left_out) _ c.give_left.result (sym c.in-GiveLeft.ensures) goes c.give_left.ensures.gave

pub returns-in-GiveRight-clause-done : goal.returns-in-GiveRight-clause-done
returns-in-GiveRight-clause-done g c = λ past goes.
    give_right_done (g.T.Stage.serves c.args.stage.now) past _ _ (g.L.Link.left c.give_right.new.right) (outlet g.L.Link.written g.L.Link.faults g.L.Link.stalls c.give_right.new.right) _ c.give_right.result (sym c.in-GiveRight.ensures) goes refl c.give_right.ensures.left c.give_right.ensures.gave

pub returns-in-Work-clause-done : goal.returns-in-Work-clause-done
returns-in-Work-clause-done g c = λ past goes.
    work_done (g.T.Stage.serves c.args.stage.now) past _ _ _ _ _ c.work_on.result (sym c.in-Work.ensures) goes c.work_on.ensures.worked

pub returns-in-TakeLeft-clause-crash : goal.returns-in-TakeLeft-clause-crash
returns-in-TakeLeft-clause-crash g c = left_alone _ _ _ _ _ _ _ _ (sym c.in-TakeLeft.ensures) refl

pub returns-in-TakeRight-clause-crash : goal.returns-in-TakeRight-clause-crash
returns-in-TakeRight-clause-crash g c = left_alone _ _ _ _ _ _ _ _ (sym c.in-TakeRight.ensures) refl

pub returns-in-GiveLeft-clause-crash : goal.returns-in-GiveLeft-clause-crash
returns-in-GiveLeft-clause-crash g c = left_alone _ _ _ _ _ _ _ _ (sym c.in-GiveLeft.ensures) refl

pub returns-in-GiveRight-clause-crash : goal.returns-in-GiveRight-clause-crash
returns-in-GiveRight-clause-crash g c = left_alone _ _ _ _ _ _ _ _ (sym c.in-GiveRight.ensures) refl

pub returns-in-Ended-clause-crash : goal.returns-in-Ended-clause-crash
returns-in-Ended-clause-crash g c = left_alone _ _ _ _ _ _ _ _ (sym c.in-Ended.ensures) refl

pub returns-in-Work-clause-crash : goal.returns-in-Work-clause-crash
returns-in-Work-clause-crash g c =
    let w = c.work_on.ensures in
    left_by_work _ _ _ _ _ _ _ _ c.work_on.result (sym c.in-Work.ensures) w.crash w.durable w.quiet w.handed

pub returns-in-TakeLeft-clause-room : goal.returns-in-TakeLeft-clause-room
returns-in-TakeLeft-clause-room g c = room_alone _ _ _ _ c.take_left.result c.take_left.ensures.heard (take_no_work _ _ _ _ _ _ _ _ c.take_left.result c.requires.left c.take_left.ensures.taken)

pub returns-in-TakeRight-clause-room : goal.returns-in-TakeRight-clause-room
returns-in-TakeRight-clause-room g c = room_alone _ _ _ _ c.take_right.result c.take_right.ensures.heard (take_no_work _ _ _ _ _ _ _ _ c.take_right.result c.requires.right c.take_right.ensures.taken)

pub returns-in-GiveLeft-clause-room : goal.returns-in-GiveLeft-clause-room
returns-in-GiveLeft-clause-room g c = room_alone _ _ _ _ c.give_left.result c.give_left.ensures.heard (give_no_work _ _ (outlet g.O.Sink.written g.O.Sink.faults g.O.Sink.stalls c.args.left_out.now) (outlet g.O.Sink.written g.O.Sink.faults g.O.Sink.stalls c.give_left.new.left_out) fault.LeftWrite c.give_left.result tt c.give_left.ensures.gave)

pub returns-in-GiveRight-clause-room : goal.returns-in-GiveRight-clause-room
returns-in-GiveRight-clause-room g c = room_alone _ _ _ _ c.give_right.result c.give_right.ensures.heard (give_no_work _ _ (outlet g.L.Link.written g.L.Link.faults g.L.Link.stalls c.args.right.now) (outlet g.L.Link.written g.L.Link.faults g.L.Link.stalls c.give_right.new.right) fault.Right c.give_right.result tt c.give_right.ensures.gave)

pub returns-in-Ended-clause-room : goal.returns-in-Ended-clause-room
returns-in-Ended-clause-room g c = room_alone _ _ _ _ (Ok Blocked) refl tt

pub returns-in-Work-clause-room : goal.returns-in-Work-clause-room
returns-in-Work-clause-room g c =
    let w = c.work_on.ensures in
    record { later = w.later; script = w.heard; database = w.database; ends = w.ends; given = w.given; within = w.within; counts = w.counts }
