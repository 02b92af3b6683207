use Rattle.std.proofs.Common.{◌≡◌, map, take}
use Rattle.quel_refusals.proofs.repeated.push_titles.Given as goal

abbrev pub invariant-loop-target : goal.invariant-loop-target
invariant-loop-target l = map (λ n. n.now) l.names.items ≡ map (λ t. t.name) (take l.target-index l.targets)
