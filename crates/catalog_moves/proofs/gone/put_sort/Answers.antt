use Rattle.std.proofs.Common.{refl, sym, ap, ◌∙◌, subst, cond, [], ◌∷◌, map, Bool, List}
use Rattle.std.specs.Prelude.{OnOk}
use Rattle.std.specs.List.{flat_map}
use Rattle.std.proofs.lemmas.List.{append-nil}
use Rattle.calculus.specs.declared.schema.Attr.{Attr}
use Rattle.calculus.specs.declared.schema.RelInfo.{RelInfo}
use Rattle.stored_database.specs.Columns.{column_bytes}
use Rattle.stored_database.specs.Entries.{entry_bytes}
use Rattle.stored_database.specs.Printed.{columns_from}
use Rattle.catalog_moves.specs.Gone.{primary_of, used_of}
use Rattle.catalog_moves.specs.Moves.{Came, entry_with}
use Rattle.catalog_moves.proofs.Coming.{came_none}
use Rattle.catalog_moves.proofs.FromNone.{ok_too}
use Rattle.catalog_moves.proofs.gone.put_sort.Goals as goal

pub returns-clause-entries : goal.returns-clause-entries
returns-clause-entries c =
    let info = c.args.info.now in
    let p = c.args.place.now in
    let fits = sym c.is_sort.ensures ∙ c.if-not-is_sort.false in
    ok_too c.put_columns.result
    (subst (Came c.args.rows.now.entries.items c.put_entry.new.rows.items)
    (λ i. map entry_bytes (map (λ (x : RelInfo). entry_with p.file p.base (c.pages_in-primary.ensures.primary i) (c.pages_in-primary.ensures.used i) x) (cond (sym fits i) (info ∷ []) []))) c.in_ok-put_entry.ensures)

pub returns-clause-columns : goal.returns-clause-columns
returns-clause-columns c =
    let info = c.args.info.now in
    let file = c.args.place.now.file in
    let fits = sym c.is_sort.ensures ∙ c.if-not-is_sort.false in
    subst (λ rows. OnOk c.put_columns.result (Came c.args.rows.now.columns.items c.put_columns.new.rows.items rows))
    (ap (λ (attrs : List Attr). map column_bytes (columns_from file 0 attrs)) c.items.ensures
    ∙ ap (map column_bytes) (sym (append-nil (columns_from file 0 info.attrs)))
    ∙ ap (λ (b : Bool). map column_bytes (flat_map (λ (x : RelInfo). columns_from file 0 x.attrs) (cond b (info ∷ []) []))) (sym fits)) c.put_columns.ensures

pub returns-clause-parts : goal.returns-clause-parts
returns-clause-parts c = refl

pub returns-then-not-is_sort-clause-entries : goal.returns-then-not-is_sort-clause-entries
returns-then-not-is_sort-clause-entries c =
    let p = c.args.place.now in
    subst (λ (b : Bool). Came c.args.rows.now.entries.items c.args.rows.now.entries.items (map entry_bytes (map (λ (x : RelInfo). entry_with p.file p.base (primary_of c.args.sort) (used_of c.args.sort p.used) x) (cond b (c.args.info.now ∷ []) []))))
    (sym (sym c.is_sort.ensures ∙ c.if-not-is_sort.true)) (came_none _ _ refl)

pub returns-then-not-is_sort-clause-columns : goal.returns-then-not-is_sort-clause-columns
returns-then-not-is_sort-clause-columns c =
    subst (λ (b : Bool). Came c.args.rows.now.columns.items c.args.rows.now.columns.items (map column_bytes (flat_map (λ (x : RelInfo). columns_from c.args.place.now.file 0 x.attrs) (cond b (c.args.info.now ∷ []) []))))
    (sym (sym c.is_sort.ensures ∙ c.if-not-is_sort.true)) (came_none _ _ refl)

pub returns-then-not-is_sort-clause-parts : goal.returns-then-not-is_sort-clause-parts
returns-then-not-is_sort-clause-parts c = refl
