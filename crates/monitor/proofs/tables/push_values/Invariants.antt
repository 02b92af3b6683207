use Rattle.std.proofs.Common.{◌≡◌, ◌++◌, drop}
use Rattle.monitor.specs.Cells.{row_cells}
use Rattle.monitor.proofs.tables.push_values.Given as goal

abbrev pub invariant-loop-column : goal.invariant-loop-column
invariant-loop-column l = l.out.items ++ row_cells (drop l.column-index l.columns) l.rest ≡ l.fn.out.items ++ row_cells l.columns l.values
