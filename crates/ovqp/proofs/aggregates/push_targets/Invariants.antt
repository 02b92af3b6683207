use Rattle.std.proofs.Common.{◌≡◌, ◌++◌, flat_map, map, take}
use Rattle.calculus.specs.QueryParts.{term_aggregates}
use Rattle.ovqp.proofs.aggregates.push_targets.Given as goal

abbrev pub invariant-loop-target : goal.invariant-loop-target
invariant-loop-target l = map (λ g. g.now) l.found.items ≡ map (λ g. g.now) l.initial.found.items ++ flat_map (λ t. term_aggregates t.term) (take l.target-index l.targets)
