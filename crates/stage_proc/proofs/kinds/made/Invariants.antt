use Rattle.std.proofs.Common.{◌≡◌, Some, map, take}
use Rattle.calculus.specs.Replacement.{made_attr}
use Rattle.stage_proc.proofs.kinds.made.Given as goal

abbrev pub invariant-loop-target : goal.invariant-loop-target
invariant-loop-target l = l.wanted.items ≡ map (λ t. Some (made_attr t).kind) (take l.target-index l.targets)
