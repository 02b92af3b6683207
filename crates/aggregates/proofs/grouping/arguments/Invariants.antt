use Rattle.std.proofs.Common.{◌≡◌, drop, map}
use Rattle.calculus.specs.Targets.{all_there}
use Rattle.scalar_eval.proofs.Groups.{values_before}
use Rattle.aggregates.proofs.grouping.arguments.Given as goal

abbrev pub invariant-loop-member : goal.invariant-loop-member
invariant-loop-member l = values_before l.values.items (all_there (map (λ m. m.1) (drop l.member-index l.members))) ≡ all_there (map (λ m. m.1) l.members)
