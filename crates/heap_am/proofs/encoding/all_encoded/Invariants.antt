use Rattle.std.proofs.Common.{◌≡◌, map, take}
use Rattle.page_cells.specs.RowBytes.{row_bytes}
use Rattle.heap_am.proofs.encoding.all_encoded.Given as goal

abbrev pub invariant-rows : goal.invariant-rows
invariant-rows l = l.all.items ≡ map (λ row. row_bytes row l.domains) (take l.row-index l.rows)
