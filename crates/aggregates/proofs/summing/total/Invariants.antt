use Rattle.std.proofs.Common.{◌≡◌, ◌+ℤ◌, drop}
use Rattle.calculus.specs.Aggregate.{total}
use Rattle.aggregates.specs.Sums.{IsSumOf}
use Rattle.aggregates.proofs.summing.total.Given as goal

abbrev pub invariant-loop-value : goal.invariant-loop-value
invariant-loop-value l = record {
  total : l.sum +ℤ total (drop l.value-index l.values) ≡ total l.values;
  within : IsSumOf l.value-index l.sum;
}
