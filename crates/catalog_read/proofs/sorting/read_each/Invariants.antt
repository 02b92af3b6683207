use Rattle.std.proofs.Common.{◌≡◌, drop, map}
use Rattle.page_chain.specs.Lists.{each}
use Rattle.catalog_read.proofs.Each.{in_front}
use Rattle.catalog_read.proofs.sorting.read_each.Given as goal

abbrev pub invariant-loop-row : goal.invariant-loop-row
invariant-loop-row g l = in_front (map g.T.CatalogueRow.said l.read.items) (each g.T.CatalogueRow.said_by (drop l.row-index l.rows)) ≡ each g.T.CatalogueRow.said_by l.rows
