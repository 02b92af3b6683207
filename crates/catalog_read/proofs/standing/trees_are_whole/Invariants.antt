use Rattle.std.proofs.Common.{◌≡◌, length, map}
use Rattle.std.specs.List.Sorted.{IsStrictlySortedBy}
use Rattle.stored_database.specs.Parts.{part_cmp}
use Rattle.stored_database.specs.Trees.{parts_are_whole}
use Rattle.catalog_rows.specs.Shown.{part_in}
use Rattle.catalog_read.proofs.standing.trees_are_whole.Given as goal

abbrev pub invariant-trees : goal.invariant-trees
invariant-trees l = record {
  sorted : IsStrictlySortedBy part_cmp (map part_in l.rest);
  same : parts_are_whole (map part_in l.rest) ≡ parts_are_whole (map part_in l.parts);
}

abbrev pub decreases-trees : goal.decreases-trees
decreases-trees l = length l.rest
