use Rattle.std.proofs.Common.{◌≡◌, take}
use Rattle.std.specs.List.{flat_map}
use Rattle.aggregates.proofs.different.values_in.Given as goal

abbrev pub invariant-loop-row : goal.invariant-loop-row
invariant-loop-row l = record {
  all : l.row-items ≡ l.set;
  put : l.values.items ≡ flat_map (λ row. row) (take l.row-index l.row-items);
}
