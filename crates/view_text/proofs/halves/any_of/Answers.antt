use Rattle.std.proofs.Common.{sym, ◌∙◌, arith}
use Rattle.calculus.specs.declared.query.QQual.{True}
use Rattle.calculus.specs.Tree.{either, negated}
use Rattle.view_text.proofs.HalvesForms.{left_joined, none_joined}
use Rattle.view_text.proofs.halves.any_of.Goals as goal

pub returns-in-Some : goal.returns-in-Some
returns-in-Some c =
    sym (left_joined (λ p q. either p q) (negated True) c.join_all.new.quals.items c.pop.new.self.items c.in-Some.any c.in-Ok.ensures.few c.in-Some.ensures.items)
    ∙ c.in-Ok.ensures.joined (negated True)

pub returns-in-Ok : goal.returns-in-Ok
returns-in-Ok c =
    rw (sym (sym (none_joined (λ p q. either p q) (negated True) c.join_all.new.quals.items (omega (arith, c.in-None.ensures.cases.0))) ∙ c.in-Ok.ensures.joined (negated True))) c.never.ensures
