use Rattle.std.proofs.Common.{◌≡◌, ◌+◌, ◌*◌, ◌<◌, ◌++◌, map, length}
use Rattle.std.specs.Prelude.{All}
use Rattle.page_chain.specs.Lying.{IsShort}
use Rattle.stored_database.specs.Parts.{part_bytes}
use Rattle.stored_database.specs.Trees.{cut, parts_from}
use Rattle.catalog_rows.proofs.trees.add_parts.Given as goal

abbrev pub invariant-parts : goal.invariant-parts
invariant-parts l = record {
  rows : l.rows.items ++ map part_bytes (parts_from l.file l.sort l.number l.place (cut l.rest)) ≡ map part_bytes (parts_from l.file l.sort l.number 0 (cut l.bytes));
  short : All (λ row. IsShort row) l.rows.items;
  left : 0 < length l.rest → 900 * l.place + length l.rest ≡ length l.bytes;
}

abbrev pub decreases-parts : goal.decreases-parts
decreases-parts l = length l.rest
