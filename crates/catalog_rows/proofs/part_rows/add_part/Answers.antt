use Rattle.std.proofs.Common.{[], ◌∷◌}
use Rattle.byteorder.specs.Endian.{little_bytes}
use Rattle.stored_database.specs.Names.{bytes32}
use Rattle.stored_database.specs.Parts.{part_bytes}
use Rattle.catalog_rows.proofs.Behind.{behind_each_other}
use Rattle.catalog_rows.proofs.part_rows.add_part.Goals as goal

pub returns : goal.returns
unfolding part_bytes
returns c =
    behind_each_other c.args.row.now.items _ _ _ _ _ (bytes32 c.args.file) (c.args.sort ∷ []) (bytes32 c.args.number) (little_bytes 2 c.args.place) c.args.bytes.now
    c.in_ok-add_number.ensures c.in_ok-push.ensures.items c.in_ok-add_number-2.ensures c.in_ok-add_place.ensures c.in_ok-extend_from_slice.ensures.items
