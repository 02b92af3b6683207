use Rattle.std.proofs.Common.{◌≡◌, ◌++◌, take, drop}
use Rattle.page_cells.specs.RowBytes.{widths, row_bytes}
use Rattle.page_cells.proofs.row.row_bytes.Given as goal

abbrev pub invariant-values : goal.invariant-values
invariant-values l = record {
  count : l.at ≡ widths (take l.i l.domains);
  bytes : l.out ≡ row_bytes (take l.i l.values) (take l.i l.domains) ++ drop l.at l.fn.out;
}
