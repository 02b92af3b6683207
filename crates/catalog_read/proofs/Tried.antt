-- What stands, put together of what was tried.
use Rattle.std.proofs.Common.{◌≡◌, sym, ap, ap₂, ◌∙◌, ◌&&◌, not, Bool, true, false, List, map}
use Rattle.std.specs.List.{list_all}
use Rattle.std.proofs.lemmas.List.Folds.{list_all-map}
use Rattle.calculus.specs.Structures.{is_index}
use Rattle.stored_database.specs.Columns.{Column}
use Rattle.stored_database.specs.Spelled.{columns_stand, parts_stand, part_stands, entry_is}
use Rattle.stored_database.specs.Trees.{parts_are_whole}
use Rattle.catalog_rows.specs.Shown.{column_in, part_in}
use Rattle.catalog_rows.specs.declared.columns.ColumnRow.{ColumnRow}
use Rattle.catalog_rows.specs.declared.part_rows.PartRow.{PartRow}
use Rattle.catalog_read.specs.Read.{catalogue_shown}
use Rattle.catalog_read.specs.declared.rows.CatalogueRows.{CatalogueRows}

-- each attribute is of what is there
abbrev pub columns_tried : CatalogueRows → List ColumnRow → Bool
columns_tried rows cs = list_all (λ (c : ColumnRow). entry_is (λ s. not (is_index s)) (catalogue_shown rows) c.file) cs

-- each part is of what is there
abbrev pub parts_tried : CatalogueRows → List PartRow → Bool
parts_tried rows ps = list_all (λ (p : PartRow). part_stands (catalogue_shown rows) (part_in p)) ps

-- what stands is what was tried
pub tried : (rows : CatalogueRows) → (columns_tried rows rows.columns && (parts_tried rows rows.parts && parts_are_whole (map part_in rows.parts))) ≡ (columns_stand (catalogue_shown rows) && parts_stand (catalogue_shown rows))
unfolding columns_stand parts_stand catalogue_shown
tried rows =
    ap₂ (λ a b. a && (b && parts_are_whole (map part_in rows.parts)))
    (sym (list_all-map (λ (c : Column). entry_is (λ s. not (is_index s)) (catalogue_shown rows) c.file) column_in rows.columns))
    (sym (list_all-map (part_stands (catalogue_shown rows)) part_in rows.parts))

-- an attribute is of nothing that is there
pub columns_fail : (rows : CatalogueRows) (cs : List ColumnRow) → cs ≡ rows.columns → false ≡ columns_tried rows cs → false ≡ (columns_stand (catalogue_shown rows) && parts_stand (catalogue_shown rows))
columns_fail rows cs is h = ap (λ a. a && (parts_tried rows rows.parts && parts_are_whole (map part_in rows.parts))) (h ∙ ap (columns_tried rows) is) ∙ tried rows

-- a part is of nothing that is there
pub parts_fail : (rows : CatalogueRows) (cs : List ColumnRow) (ps : List PartRow) → cs ≡ rows.columns → ps ≡ rows.parts → true ≡ columns_tried rows cs → false ≡ parts_tried rows ps
    → false ≡ (columns_stand (catalogue_shown rows) && parts_stand (catalogue_shown rows))
parts_fail rows cs ps is are h k =
    ap₂ (λ a b. a && (b && parts_are_whole (map part_in rows.parts))) (h ∙ ap (columns_tried rows) is) (k ∙ ap (parts_tried rows) are) ∙ tried rows

-- what is left is whether trees are whole
pub trees_decide : (rows : CatalogueRows) (cs : List ColumnRow) (ps qs : List PartRow) (w : Bool) → cs ≡ rows.columns → ps ≡ rows.parts → qs ≡ rows.parts → true ≡ columns_tried rows cs → true ≡ parts_tried rows ps
    → w ≡ parts_are_whole (map part_in qs) → w ≡ (columns_stand (catalogue_shown rows) && parts_stand (catalogue_shown rows))
trees_decide rows cs ps qs w is are these h k e =
    e ∙ ap (λ l. parts_are_whole (map part_in l)) these
    ∙ ap₂ (λ a b. a && (b && parts_are_whole (map part_in rows.parts))) (h ∙ ap (columns_tried rows) is) (k ∙ ap (parts_tried rows) are) ∙ tried rows
