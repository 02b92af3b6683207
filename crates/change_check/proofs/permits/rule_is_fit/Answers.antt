use Rattle.std.proofs.Common.{◌≡◌, subst, Bool}
use Rattle.std.specs.Prelude.{IfOk}
use Rattle.change_check.proofs.Numbered.{rule_parts}
use Rattle.change_check.proofs.permits.rule_is_fit.Goals as goal

pub returns-clause-known : goal.returns-clause-known
returns-clause-known g c = λ db h.
    subst (λ (b : Bool). IfOk c.rule_has_parts.result (λ fit. fit ≡ b)) (rule_parts db c.args.rel.now c.args.rule.now) (c.rule_has_parts.ensures.known db h)
