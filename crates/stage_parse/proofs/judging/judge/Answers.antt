use Rattle.std.proofs.Common.{◌≡◌}
use Rattle.calculus.specs.declared.statement.Statement.TheVariants.{Range}
use Rattle.stage_parse.proofs.Meanings.{declared_means, if_ok_to, keeps_any}
use Rattle.stage_parse.proofs.judging.judge.Goals as goal

pub returns-in-Some-clause-known : goal.returns-in-Some-clause-known
returns-in-Some-clause-known g c = λ db h.
    let is : c.args.s.now ≡ Range c.in-Some.var.now c.in-Some.rel.now = cc (c.in-Some.ensures.some) in
    if_ok_to c.declared.result (declared_means db c.args.user.now c.args.ranges.now c.declared.new.ranges c.args.s.now c.args.line c.in-Some.var.now c.in-Some.rel.now is) (c.declared.ensures.known db (g.B.Base.own c.args.base.now db h))

pub returns-in-None-clause-ranges : goal.returns-in-None-clause-ranges
returns-in-None-clause-ranges g c = keeps_any c.args.ranges.now c.asked_for.result
