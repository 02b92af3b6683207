use Rattle.std.proofs.Common.{refl, sym}
use Rattle.net_core.proofs.AtPipes.{gave_left, gave_right, stopped, took_left, took_right}
use Rattle.net_core.proofs.AtWork.{worked}
use Rattle.net_core.proofs.Crashing.{left_alone, left_by_work}
use Rattle.net_core.proofs.moving.step_stage.Goals as goal

pub returns-in-TakeLeft-clause-done : goal.returns-in-TakeLeft-clause-done
returns-in-TakeLeft-clause-done g c =
    let t = c.take_from.ensures in
    took_left _ _ _ _ _ _ _ _ _ _ _ _ _ _ _ _ c.take_from.result (sym c.in-TakeLeft.ensures) t.took t.blocked t.unlawful t.cause t.serves t.place t.heard

pub returns-in-TakeRight-clause-done : goal.returns-in-TakeRight-clause-done
returns-in-TakeRight-clause-done g c =
    let t = c.take_from-in-TakeRight.ensures in
    took_right _ _ _ _ _ _ _ _ _ _ _ _ _ _ _ _ c.take_from-in-TakeRight.result (sym c.in-TakeRight.ensures) t.took t.blocked t.unlawful t.cause t.serves t.place t.heard

pub returns-in-GiveLeft-clause-done : goal.returns-in-GiveLeft-clause-done
returns-in-GiveLeft-clause-done g c =
    let t = c.give_to.ensures in
    gave_left _ _ _ _ _ _ _ _ _ _ _ _ _ _ _ _ c.give_to.result (sym c.in-GiveLeft.ensures) t.gave t.cause t.serves t.place t.heard

pub returns-in-GiveRight-clause-done : goal.returns-in-GiveRight-clause-done
returns-in-GiveRight-clause-done g c =
    let t = c.give_to-in-GiveRight.ensures in
    gave_right _ _ _ _ _ _ _ _ _ _ _ _ _ _ _ _ c.give_to-in-GiveRight.result (sym c.in-GiveRight.ensures) t.gave t.cause t.serves t.place t.heard

pub returns-in-Work-clause-done : goal.returns-in-Work-clause-done
returns-in-Work-clause-done g c =
    let w = c.work_on.ensures in
    worked _ _ _ _ _ _ _ _ _ _ _ _ _ _ _ _ c.work_on.result (sym c.in-Work.ensures) w.stepped w.works w.failed w.unlawful w.database w.later w.cause w.counts w.spares w.reads w.within w.ends w.serves w.place

pub returns-in-Ended-clause-done : goal.returns-in-Ended-clause-done
returns-in-Ended-clause-done g c = stopped _ _ _ _ _ _ _ _ _ _ _ (sym c.in-Ended.ensures)

pub returns-in-TakeLeft-clause-crash : goal.returns-in-TakeLeft-clause-crash
returns-in-TakeLeft-clause-crash g c = left_alone _ _ _ _ _ _ _ _ (sym c.in-TakeLeft.ensures) refl

pub returns-in-TakeRight-clause-crash : goal.returns-in-TakeRight-clause-crash
returns-in-TakeRight-clause-crash g c = left_alone _ _ _ _ _ _ _ _ (sym c.in-TakeRight.ensures) refl

pub returns-in-GiveLeft-clause-crash : goal.returns-in-GiveLeft-clause-crash
returns-in-GiveLeft-clause-crash g c = left_alone _ _ _ _ _ _ _ _ (sym c.in-GiveLeft.ensures) refl

pub returns-in-GiveRight-clause-crash : goal.returns-in-GiveRight-clause-crash
returns-in-GiveRight-clause-crash g c = left_alone _ _ _ _ _ _ _ _ (sym c.in-GiveRight.ensures) refl

pub returns-in-Ended-clause-crash : goal.returns-in-Ended-clause-crash
returns-in-Ended-clause-crash g c = left_alone _ _ _ _ _ _ _ _ (sym c.in-Ended.ensures) refl

pub returns-in-Work-clause-crash : goal.returns-in-Work-clause-crash
returns-in-Work-clause-crash g c =
    let w = c.work_on.ensures in
    left_by_work _ _ _ _ _ _ _ _ c.work_on.result (sym c.in-Work.ensures) w.crash w.durable w.quiet w.handed
