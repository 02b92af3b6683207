use Rattle.std.proofs.Common.{◌≡◌, drop, map, filter}
use Rattle.page_chain.specs.Lists.{each}
use Rattle.catalog_read.specs.Read.{catalogue_shown}
use Rattle.catalog_read.proofs.Each.{in_front}
use Rattle.catalog_read.proofs.items_of_rows.all_made.Given as goal

abbrev pub invariant-loop-item : goal.invariant-loop-item
invariant-loop-item g l =
    in_front (map g.T.Made.shown l.made.items) (each (g.T.Made.make (catalogue_shown l.rows)) (filter g.T.Made.picks (drop l.item-index l.items))) ≡ each (g.T.Made.make (catalogue_shown l.rows)) (filter g.T.Made.picks l.items)
