use Rattle.std.proofs.Common.{◌≡◌, ◌≤◌, Some, length, map, take}
use Rattle.quel_meaning.specs.Scope.{place_found}
use Rattle.utility_trees.proofs.places.places_of.Given as goal

abbrev pub invariant-loop-name : goal.invariant-loop-name
invariant-loop-name l = length l.info.attrs ≤ 256 → l.places.items ≡ map (place_found (Some l.info)) (take l.name-index l.names)
