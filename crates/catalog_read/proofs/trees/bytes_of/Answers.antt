use Rattle.std.proofs.Common.{map, subst, sym}
use Rattle.std.specs.List.Sorted.{IsStrictlySortedBy}
use Rattle.stored_database.specs.Parts.{part_cmp}
use Rattle.catalog_rows.specs.Shown.{part_in}
use Rattle.catalog_read.specs.Read.{catalogue_shown}
use Rattle.catalog_read.proofs.trees.bytes_of.Goals as goal

pub belonging-requires : goal.belonging-requires
unfolding catalogue_shown
belonging-requires c = subst (λ l. IsStrictlySortedBy part_cmp (map part_in l)) (sym c.items.ensures) c.requires.parts_ascend
