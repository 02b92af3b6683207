use Rattle.std.proofs.Common.{◌≡◌, map, take}
use Rattle.quel_refusals.proofs.numbered.rule_numbers.Given as goal

abbrev pub invariant-loop-rule : goal.invariant-loop-rule
invariant-loop-rule l = l.numbers.items ≡ map (λ r. r.number) (take l.rule-index l.rules)
