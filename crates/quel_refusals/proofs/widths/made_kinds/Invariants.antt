use Rattle.std.proofs.Common.{◌≡◌, map, take}
use Rattle.calculus.specs.Replacement.{made_attr}
use Rattle.quel_refusals.proofs.widths.made_kinds.Given as goal

abbrev pub invariant-loop-target : goal.invariant-loop-target
invariant-loop-target l = l.kinds.items ≡ map (λ t. (made_attr t).kind) (take l.target-index l.targets)
