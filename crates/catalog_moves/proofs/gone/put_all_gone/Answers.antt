use Rattle.std.proofs.Common.{refl, ◌∙◌, map}
use Rattle.calculus.specs.Database.{Db}
use Rattle.plain_base.specs.Shown.{database_of}
use Rattle.stored_database.specs.Columns.{column_bytes}
use Rattle.stored_database.specs.Entries.{entry_bytes}
use Rattle.catalog_moves.specs.declared.files.FilePlace.{FilePlace}
use Rattle.catalog_moves.specs.Files.{files_of, places_of}
use Rattle.catalog_moves.specs.Gone.{gone_entries, gone_columns}
use Rattle.catalog_moves.proofs.Coming.{came_none, more_of}
use Rattle.std.specs.List.{flat_map}
use Rattle.catalog_moves.specs.Moves.{Came}
use Rattle.catalog_moves.proofs.Whole.{whole_of}
use Rattle.catalog_moves.proofs.gone.put_all_gone.Goals as goal

pub loop-place-init : goal.loop-place-init
loop-place-init c = record {
  same = refl;
  entries = came_none c.args.rows.now.entries.items c.args.rows.now.entries.items refl;
  columns = came_none c.args.rows.now.columns.items c.args.rows.now.columns.items refl;
  parts = refl;
}

pub loop-place-preserved : goal.loop-place-preserved
loop-place-preserved c = record {
  same = c.put_gone.ensures.same ∙ c.loop-place.invariant.same;
  entries =
      more_of (λ (db : Db) (p : FilePlace). map entry_bytes (gone_entries c.args.sort c.args.rels.now (files_of c.args.files.now) db p)) (places_of c.args.files.now) c.deref-place-items.result.now c.deref-place-items.ensures.value
      c.loop-place.place-index c.place-item.result c.loop-place-test.true c.place-item.is c.args.rows.now.entries.items c.loop-place.rows.entries.items c.put_gone.new.rows.entries.items
      (database_of c.args.plain.now) (database_of c.loop-place.plain) c.loop-place.invariant.same c.loop-place.invariant.entries c.in_ok-put_gone.ensures.entries;
  columns =
      more_of (λ (db : Db) (p : FilePlace). map column_bytes (gone_columns c.args.sort c.args.rels.now (files_of c.args.files.now) db p)) (places_of c.args.files.now) c.deref-place-items.result.now c.deref-place-items.ensures.value
      c.loop-place.place-index c.place-item.result c.loop-place-test.true c.place-item.is c.args.rows.now.columns.items c.loop-place.rows.columns.items c.put_gone.new.rows.columns.items
      (database_of c.args.plain.now) (database_of c.loop-place.plain) c.loop-place.invariant.same c.loop-place.invariant.columns c.in_ok-put_gone.ensures.columns;
  parts = c.put_gone.ensures.parts ∙ c.loop-place.invariant.parts;
}

pub put_gone-requires : goal.put_gone-requires
put_gone-requires c = c.requires

pub returns-clause-same : goal.returns-clause-same
returns-clause-same c = c.loop-place.invariant.same

pub returns-clause-entries : goal.returns-clause-entries
returns-clause-entries c =
    whole_of (λ ps. Came c.args.rows.now.entries.items c.loop-place.rows.entries.items (flat_map (λ (p : FilePlace). map entry_bytes (gone_entries c.args.sort c.args.rels.now (files_of c.args.files.now) (database_of c.args.plain.now) p)) ps))
    (places_of c.args.files.now) c.deref-place-items.result.now c.deref-place-items.ensures.value c.loop-place.place-index c.loop-place-test.false c.loop-place.invariant.entries

pub returns-clause-columns : goal.returns-clause-columns
returns-clause-columns c =
    whole_of (λ ps. Came c.args.rows.now.columns.items c.loop-place.rows.columns.items (flat_map (λ (p : FilePlace). map column_bytes (gone_columns c.args.sort c.args.rels.now (files_of c.args.files.now) (database_of c.args.plain.now) p)) ps))
    (places_of c.args.files.now) c.deref-place-items.result.now c.deref-place-items.ensures.value c.loop-place.place-index c.loop-place-test.false c.loop-place.invariant.columns

pub returns-clause-parts : goal.returns-clause-parts
returns-clause-parts c = c.loop-place.invariant.parts
