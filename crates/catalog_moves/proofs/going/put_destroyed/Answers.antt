use Rattle.std.proofs.Common.{◌∙◌, sym, subst, List, ℕ, map}
use Rattle.std.specs.List.{AllByRecursion, flat_map}
use Rattle.calculus.specs.Database.{Db}
use Rattle.page_chain.specs.Lying.{IsShort}
use Rattle.plain_base.specs.Shown.{database_of}
use Rattle.stored_database.specs.Columns.{column_bytes}
use Rattle.stored_database.specs.Entries.{entry_bytes}
use Rattle.catalog_moves.specs.declared.files.FilePlace.{FilePlace}
use Rattle.catalog_moves.specs.declared.gone.Sort.TheVariants as sort
use Rattle.catalog_moves.specs.Files.{places_of, files_of}
use Rattle.catalog_moves.specs.Gone.{gone_entries, gone_columns}
use Rattle.catalog_moves.specs.Moves.{Came}
use Rattle.catalog_moves.proofs.Coming.{came_then, came_fit}
use Rattle.catalog_moves.proofs.FromNone.{both_ok}
use Rattle.catalog_moves.proofs.GoneEntries.{entries_gone, columns_gone}
use Rattle.catalog_moves.proofs.GoneParts.{on_ok}
use Rattle.catalog_moves.proofs.going.put_destroyed.Goals as goal

pub returns-clause-entries : goal.returns-clause-entries
returns-clause-entries c bases =
    let db = database_of c.args.plain.now in
    let second = c.in_ok-put_all_gone.ensures.same in
    let third = c.in_ok-put_all_gone-2.ensures.same ∙ second in
    let old = c.args.rows.now.entries.items in
    let one = c.put_all_gone.new.rows.entries.items in
    let two = c.put_all_gone-2.new.rows.entries.items in
    let three = c.put_all_gone-3.new.rows.entries.items in
    on_ok c.put_all_gone-3.result
    (λ h. subst (Came old three) (entries_gone db c.requires.base c.args.files.now bases c.args.rels.now)
    (came_then old one three _ _ c.in_ok-put_all_gone.ensures.entries
    (came_then one two three _ _
    (subst (λ (db : Db). Came one two (flat_map (λ (p : FilePlace). map entry_bytes (gone_entries sort.View c.args.rels.now (files_of c.args.files.now) db p)) (places_of c.args.files.now))) second c.in_ok-put_all_gone-2.ensures.entries)
    (subst (λ (db : Db). Came two three (flat_map (λ (p : FilePlace). map entry_bytes (gone_entries sort.Index c.args.rels.now (files_of c.args.files.now) db p)) (places_of c.args.files.now))) third h))))
    c.put_all_gone-3.ensures.entries

pub returns-clause-columns : goal.returns-clause-columns
returns-clause-columns c bases =
    let db = database_of c.args.plain.now in
    let second = c.in_ok-put_all_gone.ensures.same in
    let third = c.in_ok-put_all_gone-2.ensures.same ∙ second in
    let old = c.args.rows.now.columns.items in
    let one = c.put_all_gone.new.rows.columns.items in
    let two = c.put_all_gone-2.new.rows.columns.items in
    let three = c.put_all_gone-3.new.rows.columns.items in
    on_ok c.put_all_gone-3.result
    (λ h. subst (Came old three) (columns_gone db c.requires.base c.args.files.now bases c.args.rels.now)
    (came_then old one three _ _ c.in_ok-put_all_gone.ensures.columns
    (came_then one two three _ _
    (subst (λ (db : Db). Came one two (flat_map (λ (p : FilePlace). map column_bytes (gone_columns sort.View c.args.rels.now (files_of c.args.files.now) db p)) (places_of c.args.files.now))) second c.in_ok-put_all_gone-2.ensures.columns)
    (subst (λ (db : Db). Came two three (flat_map (λ (p : FilePlace). map column_bytes (gone_columns sort.Index c.args.rels.now (files_of c.args.files.now) db p)) (places_of c.args.files.now))) third h))))
    c.put_all_gone-3.ensures.columns

pub put_all_gone-requires : goal.put_all_gone-requires
put_all_gone-requires c = record { listed = c.requires.listed }

pub put_all_gone-requires-2 : goal.put_all_gone-requires-2
put_all_gone-requires-2 c = record { listed = c.requires.listed }

pub put_all_gone-requires-3 : goal.put_all_gone-requires-3
put_all_gone-requires-3 c = record { listed = c.requires.listed }

pub returns-clause-same : goal.returns-clause-same
returns-clause-same c = c.put_all_gone-3.ensures.same ∙ c.in_ok-put_all_gone-2.ensures.same ∙ c.in_ok-put_all_gone.ensures.same

pub returns-clause-parts : goal.returns-clause-parts
returns-clause-parts c = c.put_all_gone-3.ensures.parts ∙ c.in_ok-put_all_gone-2.ensures.parts ∙ c.in_ok-put_all_gone.ensures.parts

pub returns-clause-short : goal.returns-clause-short
returns-clause-short c fit =
    both_ok c.put_all_gone-3.result
    (λ entries columns. record {
      entries = came_fit _ _ _ (came_fit _ _ _ (came_fit _ _ _ fit.entries c.in_ok-put_all_gone.ensures.entries) c.in_ok-put_all_gone-2.ensures.entries) entries;
      columns = came_fit _ _ _ (came_fit _ _ _ (came_fit _ _ _ fit.columns c.in_ok-put_all_gone.ensures.columns) c.in_ok-put_all_gone-2.ensures.columns) columns;
      parts = subst (λ (rows : List (List ℕ)). AllByRecursion (λ row. IsShort row) rows) (sym (c.put_all_gone-3.ensures.parts ∙ c.in_ok-put_all_gone-2.ensures.parts ∙ c.in_ok-put_all_gone.ensures.parts)) fit.parts;
    })
    c.put_all_gone-3.ensures.entries c.put_all_gone-3.ensures.columns
