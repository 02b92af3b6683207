use Rattle.std.proofs.Common.{◌≡◌, flat_map, map, take}
use Rattle.quel_check.specs.Known.{front}
use Rattle.quel_meaning.specs.WrittenParts.{aggregate_vars}
use Rattle.quel_check.proofs.inner.push_inners.Given as goal

abbrev pub invariant-loop-aggregate : goal.invariant-loop-aggregate
invariant-loop-aggregate l = l.found.items ≡ flat_map (λ g. front (aggregate_vars g)) (map (λ g. g.now) (take l.aggregate-index l.aggregates))
