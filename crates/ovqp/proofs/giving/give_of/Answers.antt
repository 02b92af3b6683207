use Rattle.std.proofs.Common.{[], ◌∷◌, subst}
use Rattle.std.specs.Prelude.{OnOk, IfErr}
use Rattle.calculus.specs.Term.{no_aggs}
use Rattle.ovqp.specs.ProductCauses.{IsCause}
use Rattle.ovqp.specs.Walk.{Gives}
use Rattle.ovqp.proofs.Assigning.{none_tabled}
use Rattle.ovqp.proofs.giving.give_of.Goals as goal

pub returns-clause-given : goal.returns-clause-given
returns-clause-given c = λ q asks gives.
    subst (λ at. OnOk c.give-put.result (Gives no_aggs q (at ∷ []) c.args.given.now.items c.give-put.new.given.items)) c.in_ok-at.ensures
    (subst (λ aggs. OnOk c.give-put.result (Gives aggs q (c.in_ok-at.at ∷ []) c.args.given.now.items c.give-put.new.given.items)) none_tabled (c.give-put.ensures.given q asks gives))

pub returns-clause-cause : goal.returns-clause-cause
returns-clause-cause c = λ q asks gives.
    subst (λ at. IfErr c.give-put.result (IsCause no_aggs q (at ∷ []))) c.in_ok-at.ensures
    (subst (λ aggs. IfErr c.give-put.result (IsCause aggs q (c.in_ok-at.at ∷ []))) none_tabled (c.give-put.ensures.cause q asks gives))
