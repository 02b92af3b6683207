use Rattle.std.proofs.Common.{refl, ◌∙◌}
use Rattle.stage_util.proofs.Causes.{copy_cause, still_ok, still_short}
use Rattle.stage_util.proofs.Effects.{work_of}
use Rattle.stage_util.proofs.Results.{into_refuses, into_spares, not_copied_carries, short_not, stored_carries}
use Rattle.stage_util.specs.Working.{span}
use Rattle.stage_util.proofs.copying.copy_into_done.Goals as goal

pub returns-in-Err-clause-done : goal.returns-in-Err-clause-done
returns-in-Err-clause-done g c = λ b asked.
    short_not c.args.user.now (work_of c.args.work.now) (span g.B.Base.database g.B.Base.schema g.B.Base.clock g.B.Base.left_since b c.args.base.now) (g.H.Shelf.files c.args.shelf.now) (record { same = (g.B.Base.asks_keep b c.args.base.now asked).0; crash = (g.B.Base.asks b c.args.base.now asked).nothing_else })

pub returns-in-Err-clause-cause : goal.returns-in-Err-clause-cause
returns-in-Err-clause-cause g c = still_short (g.B.Base.database c.args.base.now) (g.B.Base.faults c.args.base.now) (g.B.Base.faults c.args.base.now) (g.H.Shelf.faults c.args.shelf.now) (g.H.Shelf.faults c.args.shelf.now) refl refl

pub returns-in-Ok-copy_into-clause-done : goal.returns-in-Ok-copy_into-clause-done
returns-in-Ok-copy_into-clause-done g c = λ b asked.
    let same = (g.B.Base.asks_keep b c.args.base.now asked).0 in
    stored_carries c.args.user.now c.args.work.now c.requires.copies (span g.B.Base.database g.B.Base.schema g.B.Base.clock g.B.Base.left_since b c.hand_over.new.base) (g.H.Shelf.files c.args.shelf.now) (g.H.Shelf.files c.copy_into.new.shelf) c.in-Ok.answer tt c.in-Ok.ensures.done (λ db e. c.requires.fits db (same ∙ e))
    (λ db fs e f. c.in-Ok-copy_into.ensures.known db fs (same ∙ e) f c.requires.copies) (c.hand_over.ensures.kept b (c.in-Ok-copy_into.ensures.asked b asked))

pub returns-in-Ok-copy_into-clause-cause : goal.returns-in-Ok-copy_into-clause-cause
returns-in-Ok-copy_into-clause-cause g c =
    still_ok (g.B.Base.database c.args.base.now) (g.B.Base.faults c.args.base.now) (g.B.Base.faults c.hand_over.new.base) (g.H.Shelf.faults c.args.shelf.now) (g.H.Shelf.faults c.copy_into.new.shelf) c.in-Ok.answer
    (c.hand_over.ensures.faults ∙ c.in-Ok-copy_into.ensures.cause.caused) (c.in-Ok-copy_into.ensures.cause.otherwise (λ x. cc x))

pub returns-in-Err-copy_into-clause-done : goal.returns-in-Err-copy_into-clause-done
returns-in-Err-copy_into-clause-done g c = λ b asked.
    let same = (g.B.Base.asks_keep b c.args.base.now asked).0 in
    not_copied_carries c.args.user.now c.args.work.now (span g.B.Base.database g.B.Base.schema g.B.Base.clock g.B.Base.left_since b c.not_copied.new.base) (g.H.Shelf.files c.args.shelf.now) (g.H.Shelf.files c.copy_into.new.shelf) c.in-Err-copy_into.fault c.not_copied.result
    (into_spares c.args.user.now c.args.work.now c.requires.copies (span g.B.Base.database g.B.Base.schema g.B.Base.clock g.B.Base.left_since b c.not_copied.new.base) (g.H.Shelf.files c.args.shelf.now) (g.H.Shelf.files c.copy_into.new.shelf) c.in-Err-copy_into.fault
    (λ db fs e f. c.in-Err-copy_into.ensures.known db fs (same ∙ e) f c.requires.copies) (λ fs f. c.in-Err-copy_into.ensures.spares fs f c.requires.copies))
    (λ db e. g.B.Base.lawful c.args.base.now db (g.B.Base.own c.args.base.now db (same ∙ e))) (λ db e. c.requires.fits db (same ∙ e))
    (λ db fs e f. into_refuses c.args.user.now c.args.work.now c.requires.copies db fs (g.H.Shelf.files c.copy_into.new.shelf) c.in-Err-copy_into.fault (c.in-Err-copy_into.ensures.known db fs (same ∙ e) f c.requires.copies))
    (c.not_copied.ensures.not_copied b (c.in-Err-copy_into.ensures.asked b asked))

pub returns-in-Err-copy_into-clause-cause : goal.returns-in-Err-copy_into-clause-cause
returns-in-Err-copy_into-clause-cause g c =
    copy_cause {T = Unit {0}} (span g.B.Base.database g.B.Base.schema g.B.Base.clock g.B.Base.left_since c.args.base.now c.not_copied.new.base) (g.B.Base.database c.args.base.now) (g.B.Base.faults c.args.base.now) (g.B.Base.faults c.copy_into.new.base) (g.B.Base.faults c.not_copied.new.base)
    (g.H.Shelf.faults c.args.shelf.now) (g.H.Shelf.faults c.copy_into.new.shelf) c.in-Err-copy_into.fault c.not_copied.result c.in-Err-copy_into.ensures.cause c.not_copied.ensures.faults
    (c.not_copied.ensures.not_copied c.args.base.now (c.in-Err-copy_into.ensures.asked c.args.base.now (g.B.Base.starts c.args.base.now)))
