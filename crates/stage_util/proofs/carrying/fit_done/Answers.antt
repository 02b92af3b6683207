use Rattle.std.proofs.Common.{refl, sym, ◌∙◌}
use Rattle.stage_util.proofs.Causes.{base_cause, behind_calls, still_unlawful}
use Rattle.stage_util.proofs.Effects.{work_of}
use Rattle.stage_util.proofs.Fits.{fits_so, not_fit}
use Rattle.stage_util.proofs.Results.{asked_not, unfit_not}
use Rattle.stage_util.specs.Working.{span}
use Rattle.stage_util.proofs.carrying.fit_done.Goals as goal

pub work_done-requires : goal.work_done-requires
work_done-requires g c = record {
  fits = λ db e.
      let was = sym c.in-Ok-true.ensures.kept ∙ e in
      fits_so db c.args.user.now c.args.given.now c.args.work.now c.in-Ok-true.field-0 c.requires.is (c.in-Ok-true.ensures.known db (g.B.Base.own c.args.base.now db was)) c.in-Ok-true.field-0-test;
  empty = c.requires.empty;
}

pub returns-in-Ok-true-clause-done : goal.returns-in-Ok-true-clause-done
returns-in-Ok-true-clause-done g c = c.work_done.ensures.done c.args.base.now (c.in-Ok-true.ensures.asked c.args.base.now (g.B.Base.starts c.args.base.now))

pub returns-in-Ok-true-clause-cause : goal.returns-in-Ok-true-clause-cause
returns-in-Ok-true-clause-cause g c =
    behind_calls (g.B.Base.database c.args.base.now) (g.B.Base.database c.fit_tree.new.base) (g.B.Base.faults c.args.base.now) (g.B.Base.faults c.fit_tree.new.base) (g.B.Base.faults c.work_done.new.base)
    (g.H.Shelf.faults c.args.shelf.now) (g.H.Shelf.faults c.args.shelf.now) (g.H.Shelf.faults c.work_done.new.shelf) c.work_done.result
    c.in-Ok-true.ensures.kept c.in-Ok-true.ensures.cause.caused refl c.work_done.ensures.cause

pub returns-in-Ok-false-clause-done : goal.returns-in-Ok-false-clause-done
returns-in-Ok-false-clause-done g c =
    let later = c.in-Ok-false.ensures.asked c.args.base.now (g.B.Base.starts c.args.base.now) in
    unfit_not c.args.user.now (work_of c.args.work.now) (span g.B.Base.database g.B.Base.schema g.B.Base.clock g.B.Base.left_since c.args.base.now c.fit_tree.new.base) (g.H.Shelf.files c.args.shelf.now)
    (record { same = (g.B.Base.asks_keep c.args.base.now c.fit_tree.new.base later).0; crash = (g.B.Base.asks c.args.base.now c.fit_tree.new.base later).nothing_else })
    (λ db e fit. not_fit db c.args.user.now c.args.given.now c.args.work.now c.in-Ok-false.field-0 c.requires.is (c.in-Ok-false.ensures.known db (g.B.Base.own c.args.base.now db e)) c.in-Ok-false.field-0-test fit)

pub returns-in-Ok-false-clause-cause : goal.returns-in-Ok-false-clause-cause
returns-in-Ok-false-clause-cause g c = still_unlawful (g.B.Base.database c.args.base.now) (g.B.Base.faults c.args.base.now) (g.B.Base.faults c.fit_tree.new.base) (g.H.Shelf.faults c.args.shelf.now) (g.H.Shelf.faults c.args.shelf.now) c.in-Ok-false.ensures.cause.caused refl

pub returns-in-Err-clause-done : goal.returns-in-Err-clause-done
returns-in-Err-clause-done g c =
    let later = c.in-Err.ensures.asked c.args.base.now (g.B.Base.starts c.args.base.now) in
    asked_not c.args.user.now (work_of c.args.work.now) (span g.B.Base.database g.B.Base.schema g.B.Base.clock g.B.Base.left_since c.args.base.now c.fit_tree.new.base) (g.H.Shelf.files c.args.shelf.now) c.in-Err.fault c.of_base.result c.of_base.ensures
    (record { same = (g.B.Base.asks_keep c.args.base.now c.fit_tree.new.base later).0; crash = (g.B.Base.asks c.args.base.now c.fit_tree.new.base later).nothing_else })

pub returns-in-Err-clause-cause : goal.returns-in-Err-clause-cause
returns-in-Err-clause-cause g c =
    base_cause (g.B.Base.database c.args.base.now) (g.B.Base.faults c.args.base.now) (g.B.Base.faults c.fit_tree.new.base) (g.H.Shelf.faults c.args.shelf.now) c.in-Err.fault c.of_base.result c.of_base.ensures c.in-Err.ensures.cause.later c.in-Err.ensures.cause.caused
