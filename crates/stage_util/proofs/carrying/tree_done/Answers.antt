use Rattle.std.proofs.Common.{refl, sym, subst}
use Rattle.calculus.specs.declared.request.Checked.{Checked}
use Rattle.network_meaning.specs.Sorts.{Cargo.tree}
use Rattle.stage_util.proofs.Causes.{still_unlawful}
use Rattle.stage_util.proofs.Results.{unfit_not}
use Rattle.stage_util.specs.Working.{Carries, FitsFor, span}
use Rattle.stage_util.proofs.carrying.tree_done.Goals as goal

pub returns-in-Utility-clause-done : goal.returns-in-Utility-clause-done
returns-in-Utility-clause-done g c =
    subst (λ (t : Checked). Carries c.args.user.now (tree t) (span g.B.Base.database g.B.Base.schema g.B.Base.clock g.B.Base.left_since c.args.base.now c.fit_done.new.base) (g.H.Shelf.files c.args.shelf.now) (g.H.Shelf.files c.fit_done.new.shelf) c.fit_done.result) (sym c.in-Utility.is) c.fit_done.ensures.done

pub returns-in-Answer-clause-done : goal.returns-in-Answer-clause-done
returns-in-Answer-clause-done g c =
    let asked = g.B.Base.starts c.args.base.now in
    unfit_not c.args.user.now (tree c.args.given.now) (span g.B.Base.database g.B.Base.schema g.B.Base.clock g.B.Base.left_since c.args.base.now c.args.base.now) (g.H.Shelf.files c.args.shelf.now)
    (record { same = refl; crash = (g.B.Base.asks c.args.base.now c.args.base.now asked).nothing_else }) (λ db e fit. subst (λ (t : Checked). FitsFor c.args.user.now (tree t) db) c.in-Answer.is fit)

pub returns-in-Update-clause-done : goal.returns-in-Update-clause-done
returns-in-Update-clause-done g c =
    let asked = g.B.Base.starts c.args.base.now in
    unfit_not c.args.user.now (tree c.args.given.now) (span g.B.Base.database g.B.Base.schema g.B.Base.clock g.B.Base.left_since c.args.base.now c.args.base.now) (g.H.Shelf.files c.args.shelf.now)
    (record { same = refl; crash = (g.B.Base.asks c.args.base.now c.args.base.now asked).nothing_else }) (λ db e fit. subst (λ (t : Checked). FitsFor c.args.user.now (tree t) db) c.in-Update.is fit)

pub returns-in-Answer-clause-cause : goal.returns-in-Answer-clause-cause
returns-in-Answer-clause-cause g c = still_unlawful (g.B.Base.database c.args.base.now) (g.B.Base.faults c.args.base.now) (g.B.Base.faults c.args.base.now) (g.H.Shelf.faults c.args.shelf.now) (g.H.Shelf.faults c.args.shelf.now) refl refl

pub returns-in-Update-clause-cause : goal.returns-in-Update-clause-cause
returns-in-Update-clause-cause g c = still_unlawful (g.B.Base.database c.args.base.now) (g.B.Base.faults c.args.base.now) (g.B.Base.faults c.args.base.now) (g.H.Shelf.faults c.args.shelf.now) (g.H.Shelf.faults c.args.shelf.now) refl refl
