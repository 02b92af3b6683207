use Rattle.std.proofs.Common.{refl, sym, ap, ◌∙◌}
use Rattle.plan_laws.proofs.FitUtilities.{fitting_plan_lawful}
use Rattle.quel_meaning.specs.FitQueries.{kept_alone}
use Rattle.stage_util.proofs.Causes.{base_cause, behind_calls, may_as, refuses_cause, still_short}
use Rattle.stage_util.proofs.Effects.{planned_effect, refused_by, unplanned_effect, work_of}
use Rattle.stage_util.proofs.Results.{asked_not, laid_carries, refused_carries, short_not}
use Rattle.stage_util.specs.Working.{span}
use Rattle.utilities.specs.declared.fault.UtilFault.TheVariants as utility
use Rattle.stage_util.proofs.planning.plan_done.Goals as goal

pub lay-requires : goal.lay-requires
lay-requires g c = λ db e.
    let was = sym c.in-Ok.ensures.kept ∙ e in
    fitting_plan_lawful (kept_alone db) db c.args.user.now c.args.work.now c.in-Ok.change (g.B.Base.lawful c.args.base.now db (g.B.Base.own c.args.base.now db was)) (c.requires.fits db was) c.requires.copies (c.in-Ok.ensures.change db was)

pub returns-in-Ok-clause-done : goal.returns-in-Ok-clause-done
returns-in-Ok-clause-done g c = λ b files asked.
    let same = (g.B.Base.asks_keep b c.args.base.now asked).0 in
    laid_carries c.args.user.now (work_of c.args.work.now) (span g.B.Base.database g.B.Base.schema g.B.Base.clock g.B.Base.left_since b c.lay.new.base) files files c.in-Ok.change c.lay.result refl tt (λ db e. c.requires.fits db (same ∙ e))
    (λ db fs e f. planned_effect c.args.user.now c.args.work.now db fs c.in-Ok.change c.requires.copies (c.in-Ok.ensures.change db (same ∙ e))) (c.lay.ensures.done b (c.in-Ok.ensures.asked b asked))

pub returns-in-Ok-clause-cause : goal.returns-in-Ok-clause-cause
returns-in-Ok-clause-cause g c =
    behind_calls (g.B.Base.database c.args.base.now) (g.B.Base.database c.plan.new.base) (g.B.Base.faults c.args.base.now) (g.B.Base.faults c.plan.new.base) (g.B.Base.faults c.lay.new.base) 0 0 0 c.lay.result
    c.in-Ok.ensures.kept c.in-Ok.ensures.cause.caused refl c.lay.ensures.cause

pub returns-in-Err-No-clause-done : goal.returns-in-Err-No-clause-done
returns-in-Err-No-clause-done g c = λ b files asked.
    let same = (g.B.Base.asks_keep b c.args.base.now asked).0 in
    let may = may_as c.args.user.now c.args.work.now (g.B.Base.database c.args.base.now) (g.B.Base.faults c.args.base.now) (g.B.Base.faults c.plan.new.base) c.in-Err-No.field-0 (utility.No c.in-Err-No.number) c.in-Err-No.field-0-is c.in-Err-No.ensures.cause.caused in
    refused_carries c.args.user.now c.args.work.now (span g.B.Base.database g.B.Base.schema g.B.Base.clock g.B.Base.left_since b c.refuse.new.base) files files c.refusal.result c.refuse.result (λ fs f. f)
    (λ db e. g.B.Base.lawful c.args.base.now db (g.B.Base.own c.args.base.now db (same ∙ e))) (λ db e. c.requires.fits db (same ∙ e))
    (λ db fs e f. unplanned_effect c.args.user.now c.args.work.now db fs c.in-Err-No.number c.requires.copies (may.1 db (same ∙ e)) ∙ ap (refused_by db fs) (sym c.refusal.ensures))
    (c.refuse.ensures.refused b (c.in-Err-No.ensures.asked b asked))

pub returns-in-Err-No-clause-cause : goal.returns-in-Err-No-clause-cause
returns-in-Err-No-clause-cause g c =
    let may = may_as c.args.user.now c.args.work.now (g.B.Base.database c.args.base.now) (g.B.Base.faults c.args.base.now) (g.B.Base.faults c.plan.new.base) c.in-Err-No.field-0 (utility.No c.in-Err-No.number) c.in-Err-No.field-0-is c.in-Err-No.ensures.cause.caused in
    refuses_cause c.refusal.result (span g.B.Base.database g.B.Base.schema g.B.Base.clock g.B.Base.left_since c.args.base.now c.refuse.new.base) (g.B.Base.database c.args.base.now) (g.B.Base.faults c.args.base.now) (g.B.Base.faults c.refuse.new.base) 0 0 c.refuse.result
    (c.refuse.ensures.refused c.args.base.now (c.in-Err-No.ensures.asked c.args.base.now (g.B.Base.starts c.args.base.now))) (c.refuse.ensures.faults ∙ may.0) refl

pub returns-in-Err-Base-clause-done : goal.returns-in-Err-Base-clause-done
returns-in-Err-Base-clause-done g c = λ b files asked.
    let later = c.in-Err-Base.ensures.asked b asked in
    asked_not c.args.user.now (work_of c.args.work.now) (span g.B.Base.database g.B.Base.schema g.B.Base.clock g.B.Base.left_since b c.plan.new.base) files c.in-Err-Base.fault c.of_base.result c.of_base.ensures
    (record { same = (g.B.Base.asks_keep b c.plan.new.base later).0; crash = (g.B.Base.asks b c.plan.new.base later).nothing_else })

pub returns-in-Err-Base-clause-cause : goal.returns-in-Err-Base-clause-cause
returns-in-Err-Base-clause-cause g c =
    let may = may_as c.args.user.now c.args.work.now (g.B.Base.database c.args.base.now) (g.B.Base.faults c.args.base.now) (g.B.Base.faults c.plan.new.base) c.in-Err-Base.field-0 (utility.Base c.in-Err-Base.fault) c.in-Err-Base.field-0-is c.in-Err-Base.ensures.cause.caused in
    base_cause (g.B.Base.database c.args.base.now) (g.B.Base.faults c.args.base.now) (g.B.Base.faults c.plan.new.base) 0 c.in-Err-Base.fault c.of_base.result c.of_base.ensures c.in-Err-Base.ensures.cause.later may

pub returns-in-Err-OutOfMemory-clause-done : goal.returns-in-Err-OutOfMemory-clause-done
returns-in-Err-OutOfMemory-clause-done g c = λ b files asked.
    let later = c.in-Err-OutOfMemory.ensures.asked b asked in
    short_not c.args.user.now (work_of c.args.work.now) (span g.B.Base.database g.B.Base.schema g.B.Base.clock g.B.Base.left_since b c.plan.new.base) files
    (record { same = (g.B.Base.asks_keep b c.plan.new.base later).0; crash = (g.B.Base.asks b c.plan.new.base later).nothing_else })

pub returns-in-Err-OutOfMemory-clause-cause : goal.returns-in-Err-OutOfMemory-clause-cause
returns-in-Err-OutOfMemory-clause-cause g c =
    let may = may_as c.args.user.now c.args.work.now (g.B.Base.database c.args.base.now) (g.B.Base.faults c.args.base.now) (g.B.Base.faults c.plan.new.base) c.in-Err-OutOfMemory.field-0 utility.OutOfMemory c.in-Err-OutOfMemory.field-0-is c.in-Err-OutOfMemory.ensures.cause.caused in
    still_short (g.B.Base.database c.args.base.now) (g.B.Base.faults c.args.base.now) (g.B.Base.faults c.plan.new.base) 0 0 may refl
