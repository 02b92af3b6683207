use Rattle.std.proofs.Common.{refl, sym, ◌∙◌, subst, map}
use Rattle.std.specs.Prelude.{OnOk}
use Rattle.std.specs.List.{flat_map}
use Rattle.plain_base.specs.Shown.{database_of}
use Rattle.stored_database.specs.Columns.{column_bytes}
use Rattle.stored_database.specs.Entries.{entry_bytes}
use Rattle.stored_database.specs.Printed.{columns_from}
use Rattle.catalog_moves.specs.Files.{files_of}
use Rattle.catalog_moves.specs.Gone.{primary_of, used_of}
use Rattle.catalog_moves.specs.Moves.{Came, entry_with}
use Rattle.catalog_moves.proofs.Coming.{came_none}
use Rattle.catalog_moves.proofs.Whole.{known_goes, unknown_goes, nothing_goes}
use Rattle.catalog_moves.proofs.gone.put_gone.Goals as goal

pub returns-in-Some-clause-parts : goal.returns-in-Some-clause-parts
returns-in-Some-clause-parts c = c.put_sort.ensures.parts

pub returns-in-Some-clause-entries : goal.returns-in-Some-clause-entries
returns-in-Some-clause-entries c =
    subst (λ is. OnOk c.put_sort.result (Came c.args.rows.now.entries.items c.put_sort.new.rows.entries.items (map entry_bytes (map (λ i. entry_with c.args.place.now.file c.args.place.now.base (primary_of c.args.sort) (used_of c.args.sort c.args.place.now.used) i) is))))
    (sym (known_goes c.args.sort c.args.rels.now (files_of c.args.files.now) (database_of c.args.plain.now) c.args.place.now c.in-Some.info (sym c.goes.ensures ∙ c.if-not-goes.false) (sym c.in_ok-info.ensures.known ∙ c.in-Some.is))) c.put_sort.ensures.entries

pub returns-in-None-clause-entries : goal.returns-in-None-clause-entries
returns-in-None-clause-entries c =
    subst (λ is. Came c.args.rows.now.entries.items c.args.rows.now.entries.items (map entry_bytes (map (λ i. entry_with c.args.place.now.file c.args.place.now.base (primary_of c.args.sort) (used_of c.args.sort c.args.place.now.used) i) is)))
    (sym (unknown_goes c.args.sort c.args.rels.now (files_of c.args.files.now) (database_of c.args.plain.now) c.args.place.now (sym c.goes.ensures ∙ c.if-not-goes.false) (sym c.in_ok-info.ensures.known ∙ c.in-None.is))) (came_none _ _ refl)

pub returns-then-not-goes-clause-entries : goal.returns-then-not-goes-clause-entries
returns-then-not-goes-clause-entries c =
    subst (λ is. Came c.args.rows.now.entries.items c.args.rows.now.entries.items (map entry_bytes (map (λ i. entry_with c.args.place.now.file c.args.place.now.base (primary_of c.args.sort) (used_of c.args.sort c.args.place.now.used) i) is))) (sym (nothing_goes c.args.sort c.args.rels.now (files_of c.args.files.now) (database_of c.args.plain.now) c.args.place.now (sym c.goes.ensures ∙ c.if-not-goes.true))) (came_none _ _ refl)

pub returns-in-Some-clause-columns : goal.returns-in-Some-clause-columns
returns-in-Some-clause-columns c =
    subst (λ is. OnOk c.put_sort.result (Came c.args.rows.now.columns.items c.put_sort.new.rows.columns.items (map column_bytes (flat_map (λ i. columns_from c.args.place.now.file 0 i.attrs) is))))
    (sym (known_goes c.args.sort c.args.rels.now (files_of c.args.files.now) (database_of c.args.plain.now) c.args.place.now c.in-Some.info (sym c.goes.ensures ∙ c.if-not-goes.false) (sym c.in_ok-info.ensures.known ∙ c.in-Some.is))) c.put_sort.ensures.columns

pub returns-in-None-clause-columns : goal.returns-in-None-clause-columns
returns-in-None-clause-columns c =
    subst (λ is. Came c.args.rows.now.columns.items c.args.rows.now.columns.items (map column_bytes (flat_map (λ i. columns_from c.args.place.now.file 0 i.attrs) is)))
    (sym (unknown_goes c.args.sort c.args.rels.now (files_of c.args.files.now) (database_of c.args.plain.now) c.args.place.now (sym c.goes.ensures ∙ c.if-not-goes.false) (sym c.in_ok-info.ensures.known ∙ c.in-None.is))) (came_none _ _ refl)

pub returns-then-not-goes-clause-columns : goal.returns-then-not-goes-clause-columns
returns-then-not-goes-clause-columns c =
    subst (λ is. Came c.args.rows.now.columns.items c.args.rows.now.columns.items (map column_bytes (flat_map (λ i. columns_from c.args.place.now.file 0 i.attrs) is))) (sym (nothing_goes c.args.sort c.args.rels.now (files_of c.args.files.now) (database_of c.args.plain.now) c.args.place.now (sym c.goes.ensures ∙ c.if-not-goes.true))) (came_none _ _ refl)

pub goes-requires : goal.goes-requires
goes-requires c = c.requires

pub returns-in-Some-clause-same : goal.returns-in-Some-clause-same
returns-in-Some-clause-same c = c.in_ok-info.ensures.same

pub returns-in-None-clause-same : goal.returns-in-None-clause-same
returns-in-None-clause-same c = c.in_ok-info.ensures.same

pub returns-in-None-clause-parts : goal.returns-in-None-clause-parts
returns-in-None-clause-parts c = refl

pub returns-then-not-goes-clause-same : goal.returns-then-not-goes-clause-same
returns-then-not-goes-clause-same c = refl

pub returns-then-not-goes-clause-parts : goal.returns-then-not-goes-clause-parts
returns-then-not-goes-clause-parts c = refl
