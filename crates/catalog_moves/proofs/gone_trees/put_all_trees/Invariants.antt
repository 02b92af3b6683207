use Rattle.std.proofs.Common.{◌≡◌, take}
use Rattle.std.specs.List.{flat_map}
use Rattle.plain_base.specs.Shown.{database_of}
use Rattle.catalog_moves.specs.Files.{places_of}
use Rattle.catalog_moves.specs.Gone.{gone_parts}
use Rattle.catalog_moves.specs.Moves.{CameParts}
use Rattle.catalog_moves.proofs.gone_trees.put_all_trees.Given as goal

abbrev pub invariant-loop-place : goal.invariant-loop-place
invariant-loop-place l = record {
  same : database_of l.plain ≡ database_of l.fn.plain;
  came : CameParts l.fn.rows.items l.rows.items (flat_map (gone_parts l.sort l.rels (database_of l.fn.plain)) (take l.place-index (places_of l.files)));
}
