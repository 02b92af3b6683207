use Rattle.std.proofs.Common.{◌≡◌, map, take}
use Rattle.utility_trees.specs.Serving.{column_target}
use Rattle.utility_trees.proofs.helped.column_targets.Given as goal

abbrev pub invariant-loop-place : goal.invariant-loop-place
invariant-loop-place l = l.targets.items ≡ map (λ c. column_target c.0 c.1.now c.2) (take l.place-index l.columns)
