use Rattle.std.proofs.Common.{◌∙◌, ap, map, subst, sym, Some}
use Rattle.std.specs.List.Sorted.{IsStrictlySortedBy}
use Rattle.page_chain.specs.Lists.{when}
use Rattle.stored_database.specs.Columns.{column_cmp}
use Rattle.catalog_rows.specs.Shown.{column_in}
use Rattle.catalog_rows.specs.declared.columns.ColumnRow.{ColumnRow}
use Rattle.catalog_read.specs.Read.{catalogue_shown}
use Rattle.catalog_read.proofs.Places.{attrs_found}
use Rattle.catalog_read.proofs.attributes.attributes.Goals as goal

pub belonging-columns-requires : goal.belonging-columns-requires
unfolding catalogue_shown
belonging-columns-requires c = subst (λ l. IsStrictlySortedBy column_cmp (map column_in l)) (sym c.items.ensures) c.requires.columns_ascend

pub returns-then-not-are_in_place : goal.returns-then-not-are_in_place
returns-then-not-are_in_place c =
    ap (λ b. when b (map (λ (c : ColumnRow). c.attr) c.belonging-columns.result.now)) (sym c.if-not-are_in_place.true)
    ∙ attrs_found c.args.rows.now c.args.file c.items.result.now c.belonging-columns.result.now c.are_in_place.result c.items.ensures c.belonging-columns.ensures c.are_in_place.ensures

pub returns-in-Ok : goal.returns-in-Ok
returns-in-Ok c =
    ap Some (c.in-Ok.ensures)
    ∙ ap (λ b. when b (map (λ (c : ColumnRow). c.attr) c.belonging-columns.result.now)) (sym c.if-not-are_in_place.false)
    ∙ attrs_found c.args.rows.now c.args.file c.items.result.now c.belonging-columns.result.now c.are_in_place.result c.items.ensures c.belonging-columns.ensures c.are_in_place.ensures
