use Rattle.std.proofs.Common.{sym, ◌∙◌}
use Rattle.calculus.specs.declared.change.DbChange.{DbChange}
use Rattle.stage_util.proofs.Causes.{behind_calls, copy_cause, with_shelf}
use Rattle.stage_util.proofs.Effects.{from_done, from_refused, work_of}
use Rattle.stage_util.proofs.Results.{from_spares, laid_carries, not_copied_carries, refused_as}
use Rattle.stage_util.specs.Working.{span}
use Rattle.stage_util.proofs.copying.copy_from_done.Goals as goal

pub lay-requires : goal.lay-requires
lay-requires g c = λ db e. c.in-Ok.ensures.lawful db (sym c.in-Ok.ensures.kept ∙ e)

pub returns-in-Ok-clause-done : goal.returns-in-Ok-clause-done
returns-in-Ok-clause-done g c = λ b asked.
    let same = (g.B.Base.asks_keep b c.args.base.now asked).0 in
    laid_carries c.args.user.now (work_of c.args.work.now) (span g.B.Base.database g.B.Base.schema g.B.Base.clock g.B.Base.left_since b c.lay.new.base) (g.H.Shelf.files c.args.shelf.now) (g.H.Shelf.files c.copy_from.new.shelf) c.in-Ok.change c.lay.result c.in-Ok.ensures.files tt (λ db e. c.requires.fits db (same ∙ e))
    (λ db fs e f. from_done c.args.user.now c.args.work.now db fs c.requires.copies c.in-Ok.change (c.in-Ok.ensures.known db fs (same ∙ e) f c.requires.copies)) (c.lay.ensures.done b (c.in-Ok.ensures.asked b asked))

pub returns-in-Ok-clause-cause : goal.returns-in-Ok-clause-cause
returns-in-Ok-clause-cause g c =
    behind_calls (g.B.Base.database c.args.base.now) (g.B.Base.database c.copy_from.new.base) (g.B.Base.faults c.args.base.now) (g.B.Base.faults c.copy_from.new.base) (g.B.Base.faults c.lay.new.base)
    (g.H.Shelf.faults c.args.shelf.now) (g.H.Shelf.faults c.copy_from.new.shelf) (g.H.Shelf.faults c.copy_from.new.shelf) c.lay.result
    c.in-Ok.ensures.kept c.in-Ok.ensures.cause.caused (c.in-Ok.ensures.cause.otherwise (λ x. cc x)) (with_shelf (g.B.Base.database c.copy_from.new.base) (g.B.Base.faults c.copy_from.new.base) (g.B.Base.faults c.lay.new.base) (g.H.Shelf.faults c.copy_from.new.shelf) c.lay.result c.lay.ensures.cause)

pub returns-in-Err-clause-done : goal.returns-in-Err-clause-done
returns-in-Err-clause-done g c = λ b asked.
    let same = (g.B.Base.asks_keep b c.args.base.now asked).0 in
    not_copied_carries c.args.user.now c.args.work.now (span g.B.Base.database g.B.Base.schema g.B.Base.clock g.B.Base.left_since b c.not_copied.new.base) (g.H.Shelf.files c.args.shelf.now) (g.H.Shelf.files c.copy_from.new.shelf) c.in-Err.fault c.not_copied.result
    (from_spares c.args.user.now c.args.work.now (span g.B.Base.database g.B.Base.schema g.B.Base.clock g.B.Base.left_since b c.not_copied.new.base) (g.H.Shelf.files c.args.shelf.now) (g.H.Shelf.files c.copy_from.new.shelf) c.in-Err.fault c.in-Err.ensures.files)
    (λ db e. g.B.Base.lawful c.args.base.now db (g.B.Base.own c.args.base.now db (same ∙ e))) (λ db e. c.requires.fits db (same ∙ e))
    (λ db fs e f. refused_as _ _ (from_refused c.args.user.now c.args.work.now db fs c.requires.copies) c.in-Err.fault (c.in-Err.ensures.known db fs (same ∙ e) f c.requires.copies))
    (c.not_copied.ensures.not_copied b (c.in-Err.ensures.asked b asked))

pub returns-in-Err-clause-cause : goal.returns-in-Err-clause-cause
returns-in-Err-clause-cause g c =
    copy_cause {T = DbChange} (span g.B.Base.database g.B.Base.schema g.B.Base.clock g.B.Base.left_since c.args.base.now c.not_copied.new.base) (g.B.Base.database c.args.base.now) (g.B.Base.faults c.args.base.now) (g.B.Base.faults c.copy_from.new.base) (g.B.Base.faults c.not_copied.new.base)
    (g.H.Shelf.faults c.args.shelf.now) (g.H.Shelf.faults c.copy_from.new.shelf) c.in-Err.fault c.not_copied.result c.in-Err.ensures.cause c.not_copied.ensures.faults
    (c.not_copied.ensures.not_copied c.args.base.now (c.in-Err.ensures.asked c.args.base.now (g.B.Base.starts c.args.base.now)))
