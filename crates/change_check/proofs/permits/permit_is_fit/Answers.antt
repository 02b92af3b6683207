use Rattle.std.proofs.Common.{◌≡◌, subst, Bool}
use Rattle.std.specs.Prelude.{IfOk}
use Rattle.change_check.proofs.Numbered.{permit_parts}
use Rattle.change_check.proofs.permits.permit_is_fit.Goals as goal

pub returns-clause-known : goal.returns-clause-known
returns-clause-known g c = λ db h.
    subst (λ (b : Bool). IfOk c.permit_has_parts.result (λ fit. fit ≡ b)) (permit_parts db c.args.rel.now c.args.permit.now) (c.permit_has_parts.ensures.known db h)
