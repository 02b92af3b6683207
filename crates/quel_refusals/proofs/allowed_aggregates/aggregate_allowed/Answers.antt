use Rattle.std.proofs.Common.{◌≡◌, subst, Bool, IfOk}
use Rattle.quel_refusals.proofs.Aggregated.{stands_by, stands_not}
use Rattle.quel_refusals.proofs.allowed_aggregates.aggregate_allowed.Goals as goal

pub returns-then-holds_another-clause-known : goal.returns-then-holds_another-clause-known
returns-then-holds_another-clause-known g c = λ s h r each. stands_not s c.args.g.now c.holds_another.result c.holds_another.ensures c.if-holds_another.true

pub returns-clause-known : goal.returns-clause-known
returns-clause-known g c = λ s h r each.
    subst (λ (b : Bool). IfOk c.is_over_one.result (λ stands. stands ≡ b)) (stands_by s c.args.g.now c.holds_another.result c.holds_another.ensures c.if-holds_another.false)
    (c.is_over_one.ensures.known s h r each)
