use Rattle.std.proofs.Common.{refl, sym, ◌∙◌}
use Rattle.calculus.specs.Change.{IsLawful}
use Rattle.network_meaning.specs.Sorts.{Cargo.change}
use Rattle.stage_util.proofs.Causes.{base_cause, behind_calls, still_unlawful}
use Rattle.stage_util.proofs.Fits.{fails_so, holds_so}
use Rattle.stage_util.proofs.Results.{asked_not, laid_carries, unfit_not}
use Rattle.stage_util.specs.Working.{span}
use Rattle.stage_util.proofs.carrying.change_done.Goals as goal

pub lay-requires : goal.lay-requires
lay-requires g c = λ db e. holds_so c.in-Ok-true.field-0 (IsLawful db c.args.given.now) c.in-Ok-true.field-0-test (c.in-Ok-true.ensures.known db (sym c.in-Ok-true.ensures.kept ∙ e))

pub returns-in-Ok-true-clause-done : goal.returns-in-Ok-true-clause-done
returns-in-Ok-true-clause-done g c = λ user files.
    laid_carries user (change c.args.given.now) (span g.B.Base.database g.B.Base.schema g.B.Base.clock g.B.Base.left_since c.args.base.now c.lay.new.base) files files c.args.given.now c.lay.result refl tt
    (λ db e. holds_so c.in-Ok-true.field-0 (IsLawful db c.args.given.now) c.in-Ok-true.field-0-test (c.in-Ok-true.ensures.known db e)) (λ db fs e f. refl)
    (c.lay.ensures.done c.args.base.now (c.in-Ok-true.ensures.asked c.args.base.now (g.B.Base.starts c.args.base.now)))

pub returns-in-Ok-true-clause-cause : goal.returns-in-Ok-true-clause-cause
returns-in-Ok-true-clause-cause g c =
    behind_calls (g.B.Base.database c.args.base.now) (g.B.Base.database c.fit_change.new.base) (g.B.Base.faults c.args.base.now) (g.B.Base.faults c.fit_change.new.base) (g.B.Base.faults c.lay.new.base) 0 0 0 c.lay.result
    c.in-Ok-true.ensures.kept c.in-Ok-true.ensures.cause.caused refl c.lay.ensures.cause

pub returns-in-Ok-false-clause-done : goal.returns-in-Ok-false-clause-done
returns-in-Ok-false-clause-done g c = λ user files.
    let later = c.in-Ok-false.ensures.asked c.args.base.now (g.B.Base.starts c.args.base.now) in
    unfit_not user (change c.args.given.now) (span g.B.Base.database g.B.Base.schema g.B.Base.clock g.B.Base.left_since c.args.base.now c.fit_change.new.base) files
    (record { same = (g.B.Base.asks_keep c.args.base.now c.fit_change.new.base later).0; crash = (g.B.Base.asks c.args.base.now c.fit_change.new.base later).nothing_else })
    (λ db e. fails_so c.in-Ok-false.field-0 (IsLawful db c.args.given.now) c.in-Ok-false.field-0-test (c.in-Ok-false.ensures.known db e))

pub returns-in-Ok-false-clause-cause : goal.returns-in-Ok-false-clause-cause
returns-in-Ok-false-clause-cause g c = still_unlawful (g.B.Base.database c.args.base.now) (g.B.Base.faults c.args.base.now) (g.B.Base.faults c.fit_change.new.base) 0 0 c.in-Ok-false.ensures.cause.caused refl

pub returns-in-Err-clause-done : goal.returns-in-Err-clause-done
returns-in-Err-clause-done g c = λ user files.
    let later = c.in-Err.ensures.asked c.args.base.now (g.B.Base.starts c.args.base.now) in
    asked_not user (change c.args.given.now) (span g.B.Base.database g.B.Base.schema g.B.Base.clock g.B.Base.left_since c.args.base.now c.fit_change.new.base) files c.in-Err.fault c.of_base.result c.of_base.ensures
    (record { same = (g.B.Base.asks_keep c.args.base.now c.fit_change.new.base later).0; crash = (g.B.Base.asks c.args.base.now c.fit_change.new.base later).nothing_else })

pub returns-in-Err-clause-cause : goal.returns-in-Err-clause-cause
returns-in-Err-clause-cause g c =
    base_cause (g.B.Base.database c.args.base.now) (g.B.Base.faults c.args.base.now) (g.B.Base.faults c.fit_change.new.base) 0 c.in-Err.fault c.of_base.result c.of_base.ensures c.in-Err.ensures.cause.later c.in-Err.ensures.cause.caused
