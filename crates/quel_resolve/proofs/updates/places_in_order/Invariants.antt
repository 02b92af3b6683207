use Rattle.std.proofs.Common.{◌≡◌, ◌≤◌, length, map, take}
use Rattle.std.specs.List.{enumerate_from}
use Rattle.quel_resolve.proofs.updates.places_in_order.Given as goal

abbrev pub invariant-loop-place : goal.invariant-loop-place
invariant-loop-place l = length l.targets ≤ 256 → l.places.items ≡ map (λ p. p.0) (enumerate_from 0 (take l.place l.targets))
