use Rattle.std.proofs.Common.{◌≡◌, sym, ap, ◌∙◌, subst, Bool, None, Some, is_some}
use Rattle.std.specs.Prelude.{IfOk}
use Rattle.quel_meaning.specs.Scope.{ranged}
use Rattle.quel_refusals.proofs.Aggregated.{found_is, known_plain}
use Rattle.quel_refusals.proofs.allowed_aggregates.ranges_plainly.Goals as goal

pub returns-in-Some-clause-known : goal.returns-in-Some-clause-known
returns-in-Some-clause-known g c = λ s h r there.
    let named : ranged s c.args.var.now ≡ Some c.in-Some.info = found_is s c.args.ranges.now c.args.var.now _ _ r (c.in_ok-info.ensures.known s.db h) c.in-Some.is in
    subst (λ (b : Bool). IfOk c.is_plain-plain.result (λ plain. plain ≡ b)) (known_plain s c.args.var.now c.in-Some.info named)
    (c.is_plain-plain.ensures.known s.db (c.in_ok-info.ensures.stays _ h))

pub returns-in-None-clause-known : goal.returns-in-None-clause-known
returns-in-None-clause-known g c = λ s h r there.
    let named : ranged s c.args.var.now ≡ None = found_is s c.args.ranges.now c.args.var.now _ _ r (c.in_ok-info.ensures.known s.db h) c.in-None.is in
    absurd (cc (sym (ap is_some named) ∙ there))
