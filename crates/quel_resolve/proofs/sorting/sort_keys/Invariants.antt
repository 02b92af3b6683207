use Rattle.std.proofs.Common.{◌≡◌, ◌≤◌, length, map, take}
use Rattle.quel_meaning.specs.Resolved.{sort_key}
use Rattle.quel_resolve.proofs.sorting.sort_keys.Given as goal

abbrev pub invariant-loop-title : goal.invariant-loop-title
invariant-loop-title l = length l.targets ≤ 256 → l.keys.items ≡ map (sort_key l.targets) (take l.title-index l.sort)
