use Rattle.std.proofs.Common.{refl, OnOk, sym, ap, ◌∙◌, subst, [], ◌∷◌, map, filter}
use Rattle.std.specs.Prelude.{is_some}
use Rattle.std.specs.List.{flat_map}
use Rattle.std.proofs.lemmas.Simd.{map-map}
use Rattle.calculus.specs.Database.{Index}
use Rattle.calculus.specs.Keys.{same_key}
use Rattle.plain_base.specs.Shown.{database_of}
use Rattle.stored_database.specs.Entries.{entry_bytes}
use Rattle.stored_database.specs.Printed.{index_entry}
use Rattle.catalog_moves.specs.Bases.{rows_on}
use Rattle.catalog_moves.specs.Files.{files_of}
use Rattle.catalog_moves.specs.Moves.{Came, AreRows, entry_with}
use Rattle.catalog_moves.proofs.Coming.{only_entries, came_then}
use Rattle.catalog_moves.proofs.FromNone.{came_from}
use Rattle.catalog_moves.proofs.GoneParts.{on_ok}
use Rattle.catalog_moves.proofs.OnBase.{on_base_rows}
use Rattle.catalog_moves.proofs.going.put_unmodified.Goals as goal

pub returns-clause-rows : goal.returns-clause-rows
returns-clause-rows c none r at bases =
    let db = database_of c.args.plain.now in
    let file = (files_of c.args.files.now).file c.args.rel.now in
    let mid = c.put_relation.new.rows in
    let new = c.put_indexes.new.rows in
    let one : AreRows (record { entries = entry_with file 0 1 ((files_of c.args.files.now).used c.args.rel.now) r.info ∷ []; columns = []; parts = [] }) mid =
    subst (λ cat. AreRows cat mid)
    (λ i. record { entries = entry_with (c.place-lies.ensures.file i) 0 1 (c.place-lies.ensures.used i) r.info ∷ []; columns = []; parts = [] }) (c.in_ok-put_relation.ensures.rows none r at) in
    let all : OnOk c.put_indexes.result (Came mid.entries.items new.items (map entry_bytes (map (index_entry (files_of c.args.files.now)) (filter (λ (x : Index). same_key x.base c.args.rel.now) db.indexes)))) =
    subst (λ rows. OnOk c.put_indexes.result (Came mid.entries.items new.items rows))
    ((λ i. flat_map (rows_on (c.place-lies.ensures.file i) (c.in_ok-put_relation.ensures.same i)) (c.deref.ensures.value i))
    ∙ on_base_rows db c.requires c.args.files.now bases c.args.rel.now (ap is_some at)
    ∙ sym (map-map entry_bytes (index_entry (files_of c.args.files.now)) (filter (λ (x : Index). same_key x.base c.args.rel.now) db.indexes))) c.put_indexes.ensures.came in
    on_ok c.put_indexes.result
    (λ came. only_entries (record { entries = new; columns = mid.columns; parts = mid.parts }) _ [] refl one.columns one.parts (came_then [] mid.entries.items new.items _ _ (came_from _ mid one) came)) all
