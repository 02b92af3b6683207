use Rattle.std.proofs.Common.{IsTrue, take}
use Rattle.std.specs.List.{list_all}
use Rattle.copy_util.proofs.RuleKeeping.{is_kept}
use Rattle.copy_util.proofs.rule_keeping.keeps_all.Given as goal

abbrev pub invariant-loop-rule : goal.invariant-loop-rule
invariant-loop-rule l = IsTrue (list_all (is_kept l.at) (take l.rule-index l.rules))
