use Rattle.std.proofs.Common.{◌≡◌, map, take}
use Rattle.aggregates.specs.Sums.{alone}
use Rattle.aggregates.proofs.different.each_alone.Given as goal

abbrev pub invariant-loop-value : goal.invariant-loop-value
invariant-loop-value l = l.rows.items ≡ map alone (take l.value-index l.values)
