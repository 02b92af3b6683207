use Rattle.std.proofs.Common.{◌≡◌, ◌≤◌, Some, length, map, take}
use Rattle.quel_meaning.specs.Scope.{place_found}
use Rattle.quel_resolve.proofs.updates.places_of.Given as goal

abbrev pub invariant-loop-target : goal.invariant-loop-target
invariant-loop-target l = length l.info.attrs ≤ 256 → l.places.items ≡ map (λ t. place_found (Some l.info) t.name) (take l.target-index l.targets)
