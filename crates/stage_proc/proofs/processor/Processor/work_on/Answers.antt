use Rattle.stage_proc.specs.Standing.{HasSettled, standing}
use Rattle.stage_proc.specs.Worked.{HasWorked}
use Rattle.stage_proc.proofs.AtWork.{found_unfit, has_worked, is_at_work, memory_cause, memory_lawful}
use Rattle.stage_proc.proofs.Made.{same_fault}
use Rattle.stage_proc.proofs.Results.{on_ok, on_ok_so}
use Rattle.stage_proc.proofs.processor.Processor.work_on.Goals as goal

pub tree-requires : goal.tree-requires
tree-requires g c = (is_at_work c.args.self.now.at c.args.self.now.got c.args.self.now.left c.args.self.now.right c.requires).working

pub settle-requires : goal.settle-requires
settle-requires g c = (is_at_work c.args.self.now.at c.args.self.now.got c.args.self.now.left c.args.self.now.right c.requires).working

pub returns-in-Ok-clause-works : goal.returns-in-Ok-clause-works
returns-in-Ok-clause-works g c = λ user served.
    let known = g.B.Base.database c.args.base.now in
    let old = c.args.self.now in
    let new = c.settle.new.self in
    on_ok_so (HasSettled old.at old.left old.right c.in-Ok.made new.at new.left new.right) (HasWorked user (standing old.at old.got old.left old.right) (standing new.at new.got new.left new.right) known) c.settle.result
    (has_worked user old.user old.at c.tree.result.now old.got new.got old.left old.right new.at new.left new.right c.in-Ok.made known c.requires c.tree.ensures.is served c.tree.ensures.spelled
    (λ db e. g.B.Base.lawful c.args.base.now db (g.B.Base.own c.args.base.now db e)) c.in-Ok.ensures.made c.settle.ensures.got) c.settle.ensures.settled

pub returns-in-Ok-clause-unlawful : goal.returns-in-Ok-clause-unlawful
returns-in-Ok-clause-unlawful g c = λ user served wrong. absurd (memory_lawful c.settle.result c.settle.ensures.memory wrong)

pub returns-in-Ok-clause-handed : goal.returns-in-Ok-clause-handed
returns-in-Ok-clause-handed g c = on_ok _ c.settle.result c.in-Ok.ensures.handed

pub returns-in-Ok-clause-cause : goal.returns-in-Ok-clause-cause
returns-in-Ok-clause-cause g c = record {
  later = c.in-Ok.ensures.cause.later;
  caused = memory_cause (g.B.Base.database c.args.base.now) _ _ c.settle.result c.in-Ok.ensures.cause.caused c.settle.ensures.memory;
}

pub returns-in-Err-clause-unlawful : goal.returns-in-Err-clause-unlawful
returns-in-Err-clause-unlawful g c = λ user served wrong.
    found_unfit user c.args.self.now.user c.args.self.now.at c.tree.result.now c.args.self.now.got c.args.self.now.left c.args.self.now.right (g.B.Base.database c.args.base.now) c.tree.ensures.is served
    (c.in-Err.ensures.unlawful (same_fault c.in-Err.fault _ wrong))

pub returns-in-Err-clause-cause : goal.returns-in-Err-clause-cause
returns-in-Err-clause-cause g c = record { later = c.in-Err.ensures.cause.later; caused = c.in-Err.ensures.cause.caused }
