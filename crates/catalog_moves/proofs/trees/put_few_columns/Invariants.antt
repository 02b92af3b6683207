use Rattle.std.proofs.Common.{take, map}
use Rattle.stored_database.specs.Columns.{column_bytes}
use Rattle.stored_database.specs.Printed.{columns_from}
use Rattle.catalog_moves.specs.Moves.{Came}
use Rattle.catalog_moves.proofs.trees.put_few_columns.Given as goal

abbrev pub invariant-loop-i : goal.invariant-loop-i
invariant-loop-i l = Came l.fn.rows.items l.rows.items (map column_bytes (columns_from l.file 0 (take l.i l.attrs)))
