use Rattle.std.proofs.Common.{◌≡◌, take}
use Rattle.std.specs.List.{flat_map}
use Rattle.plain_base.specs.Shown.{database_of}
use Rattle.catalog_moves.specs.Bases.{rows_on}
use Rattle.catalog_moves.specs.Moves.{Came}
use Rattle.catalog_moves.proofs.going.put_indexes.Given as goal

abbrev pub invariant-loop-place : goal.invariant-loop-place
invariant-loop-place l = record {
  same : database_of l.plain ≡ database_of l.fn.plain;
  came : Came l.fn.rows.items l.rows.items (flat_map (rows_on l.base (database_of l.fn.plain)) (take l.place-index l.places));
}
