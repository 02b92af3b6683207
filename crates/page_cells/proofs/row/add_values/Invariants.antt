use Rattle.std.proofs.Common.{◌≡◌, ◌++◌, drop}
use Rattle.std.specs.Option.{option_map}
use Rattle.page_cells.specs.RowBytes.{row_in}
use Rattle.page_cells.proofs.row.add_values.Given as goal

abbrev pub invariant-values : goal.invariant-values
invariant-values l = row_in l.fn.bytes l.domains ≡ option_map (λ vs. l.values.items ++ vs) (row_in l.rest (drop l.domain-index l.domains))
