use Rattle.std.proofs.Common.{sym, ◌∙◌, arith}
use Rattle.calculus.specs.declared.query.QQual.{True}
use Rattle.calculus.specs.Tree.{both}
use Rattle.view_text.proofs.HalvesForms.{left_joined, none_joined}
use Rattle.view_text.proofs.halves.all_of.Goals as goal

pub returns-in-Some : goal.returns-in-Some
returns-in-Some c =
    sym (left_joined (λ p q. both p q) True c.join_all.new.quals.items c.pop.new.self.items c.in-Some.all c.in-Ok.ensures.few c.in-Some.ensures.items) ∙ c.in-Ok.ensures.joined True

pub returns-in-Ok : goal.returns-in-Ok
returns-in-Ok c = sym (none_joined (λ p q. both p q) True c.join_all.new.quals.items (omega (arith, c.in-None.ensures.cases.0))) ∙ c.in-Ok.ensures.joined True
