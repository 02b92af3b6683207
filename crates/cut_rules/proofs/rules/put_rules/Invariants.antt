use Rattle.std.proofs.Common.{◌≡◌, ◌++◌, map, take}
use Rattle.cut_rules.proofs.rules.put_rules.Given as goal

abbrev pub invariant-loop-rule : goal.invariant-loop-rule
invariant-loop-rule l = l.quals.items ≡ l.initial.quals.items ++ map (λ r. r.qual) (take l.rule-index l.rules)
