use Rattle.std.proofs.Common.{◌≡◌, ◌++◌, take}
use Rattle.aggregates.proofs.different.put_values.Given as goal

abbrev pub invariant-loop-value : goal.invariant-loop-value
invariant-loop-value l = record {
  all : l.value-items ≡ l.row;
  put : l.values.items ≡ l.initial.values.items ++ take l.value-index l.value-items;
}
