use Rattle.std.proofs.Common.{◌≡◌, ◌-◌, ◌^◌, min, map, take}
use Rattle.calculus.specs.Sizes.{term_size}
use Rattle.view_sizes.specs.Measured.{held}
use Rattle.view_sizes.proofs.measures.target_sizes.Given as goal

abbrev pub invariant-loop-target : goal.invariant-loop-target
invariant-loop-target l = l.sizes.items ≡ map (λ t. min (term_size (map held l.vars) t.term) (2 ^ 64 - 1)) (take l.target-index l.targets)
