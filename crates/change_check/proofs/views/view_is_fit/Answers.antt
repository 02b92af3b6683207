use Rattle.std.proofs.Common.{◌≡◌, subst, Bool}
use Rattle.std.specs.Prelude.{IfOk}
use Rattle.change_check.proofs.ViewParts.{view_parts}
use Rattle.change_check.proofs.views.view_is_fit.Goals as goal

pub returns-clause-known : goal.returns-clause-known
returns-clause-known g c = λ db h.
    subst (λ (b : Bool). IfOk c.view_has_parts.result (λ fit. fit ≡ b)) (view_parts db c.args.info.now c.args.query.now) (c.view_has_parts.ensures.known db h)
