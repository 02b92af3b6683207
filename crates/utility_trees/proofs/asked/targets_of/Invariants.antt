use Rattle.std.proofs.Common.{◌≡◌, ◌≤◌, length, take}
use Rattle.quel_meaning.specs.WrittenQuery.{attr_targets}
use Rattle.utility_trees.proofs.asked.targets_of.Given as goal

abbrev pub invariant-loop-place : goal.invariant-loop-place
invariant-loop-place l = length l.attrs ≤ 256 → l.targets.items ≡ attr_targets 0 (take l.place l.attrs)
