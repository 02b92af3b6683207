use Rattle.std.proofs.Common.{◌≡◌, ◌++◌, take}
use Rattle.monitor.specs.Cells.{rule_cells}
use Rattle.monitor.proofs.tables.push_dashes.Given as goal

abbrev pub invariant-loop-column : goal.invariant-loop-column
invariant-loop-column l = l.out.items ≡ l.fn.out.items ++ rule_cells (take l.column-index l.columns)
