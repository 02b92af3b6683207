use Rattle.std.proofs.Common.{◌≡◌, map, take}
use Rattle.ovqp.proofs.kinds.target_kinds.Given as goal

abbrev pub invariant-loop-target : goal.invariant-loop-target
invariant-loop-target l = l.kinds.items ≡ map (λ t. t.kind) (take l.target-index l.targets)
