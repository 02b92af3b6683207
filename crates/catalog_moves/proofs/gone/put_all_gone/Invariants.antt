use Rattle.std.proofs.Common.{◌≡◌, take, map}
use Rattle.std.specs.List.{flat_map}
use Rattle.plain_base.specs.Shown.{database_of}
use Rattle.stored_database.specs.Columns.{column_bytes}
use Rattle.stored_database.specs.Entries.{entry_bytes}
use Rattle.catalog_moves.specs.Files.{files_of, places_of}
use Rattle.catalog_moves.specs.Gone.{gone_entries, gone_columns}
use Rattle.catalog_moves.specs.Moves.{Came}
use Rattle.catalog_moves.proofs.gone.put_all_gone.Given as goal

abbrev pub invariant-loop-place : goal.invariant-loop-place
invariant-loop-place l = record {
  same : database_of l.plain ≡ database_of l.fn.plain;
  entries : Came l.fn.rows.entries.items l.rows.entries.items (flat_map (λ p. map entry_bytes (gone_entries l.sort l.rels (files_of l.files) (database_of l.fn.plain) p)) (take l.place-index (places_of l.files)));
  columns : Came l.fn.rows.columns.items l.rows.columns.items (flat_map (λ p. map column_bytes (gone_columns l.sort l.rels (files_of l.files) (database_of l.fn.plain) p)) (take l.place-index (places_of l.files)));
  parts : l.rows.parts.items ≡ l.fn.rows.parts.items;
}
