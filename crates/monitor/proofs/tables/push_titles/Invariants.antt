use Rattle.std.proofs.Common.{◌≡◌, ◌++◌, take}
use Rattle.monitor.specs.Cells.{title_cells}
use Rattle.monitor.proofs.tables.push_titles.Given as goal

abbrev pub invariant-loop-column : goal.invariant-loop-column
invariant-loop-column l = l.out.items ≡ l.fn.out.items ++ title_cells (take l.column-index l.columns)
