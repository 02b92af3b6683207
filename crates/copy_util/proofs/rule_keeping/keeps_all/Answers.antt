use Rattle.std.proofs.Common.{sym, ◌∙◌}
use Rattle.copy_util.proofs.RuleKeeping.{one_broken, one_more_kept}
use Rattle.copy_util.proofs.rule_keeping.keeps_all.Goals as goal

pub returns-then-not-branch : goal.returns-then-not-branch
returns-then-not-branch c =
    one_broken c.args.at.now c.args.rules.now c.loop-rule.rule-index c.rule-item.result c.loop-rule-test.true c.rule-item.is (sym c.in_ok-holds.ensures ∙ c.if-not-branch.true)

pub loop-rule-preserved : goal.loop-rule-preserved
loop-rule-preserved c =
    one_more_kept c.args.at.now c.args.rules.now c.loop-rule.rule-index c.rule-item.result c.loop-rule-test.true c.rule-item.is (sym c.in_ok-holds.ensures ∙ c.if-not-branch.false)
    c.loop-rule.invariant
