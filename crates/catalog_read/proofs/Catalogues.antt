-- The catalogue that three lists of rows make.
use Rattle.std.proofs.Common.{◌≡◌, refl, sym, ap, ◌∙◌, ℕ, List, map, Option, Some, None, Result, option_map}
use Rattle.std.specs.Prelude.{IfOk}
use Rattle.std.proofs.lemmas.Result.{IfOk-weaker}
use Rattle.page_chain.specs.Lists.{◌>>=◌}
use Rattle.stored_database.specs.Catalogue.{Catalogue}
use Rattle.stored_database.specs.Columns.{Column, column_of, column_cmp}
use Rattle.stored_database.specs.Entries.{Entry, entry_of, entry_cmp}
use Rattle.stored_database.specs.Parts.{Part, part_of, part_cmp}
use Rattle.catalog_rows.specs.Shown.{entry_in, column_in, part_in}
use Rattle.catalog_rows.specs.declared.entries.EntryRow.{EntryRow}
use Rattle.catalog_rows.specs.declared.columns.ColumnRow.{ColumnRow}
use Rattle.catalog_rows.specs.declared.part_rows.PartRow.{PartRow}
use Rattle.catalog_read.specs.Read.{catalogue_of}
use Rattle.catalog_read.specs.Rows.{both_there, each_once, AreBoth}
use Rattle.catalog_read.proofs.Both.{mapped_both}

-- the catalogue of these three lists
abbrev pub catalogue_with : List Entry × (List Column × List Part) → Catalogue
catalogue_with t = record { entries = t.0; columns = t.1.0; parts = t.1.1 }

three : (x : Option (List Entry)) (y : Option (List Column)) (z : Option (List Part))
    → (x >>= (λ e. y >>= (λ c. z >>= (λ p. Some (catalogue_with (e, (c, p))))))) ≡ option_map catalogue_with (both_there x (both_there y z))
three None y z = refl
three (Some e) None z = refl
three (Some e) (Some c) None = refl
three (Some e) (Some c) (Some p) = refl

abbrev Three : Type 0
Three = List EntryRow × (List ColumnRow × List PartRow)

-- what three lists of rows say
abbrev pub said : Three → List Entry × (List Column × List Part)
said t = (map entry_in t.0, (map column_in t.1.0, map part_in t.1.1))

-- the rows that were read make the catalogue
pub read_whole : {E : Type 0} (es cs ps : List (List ℕ)) (first : Result (Option (List EntryRow)) E) (second : Result (Option (List ColumnRow)) E) (third : Result (Option (List PartRow)) E)
    (behind : Result (Option (List ColumnRow × List PartRow)) E) (found : Option Three)
    → IfOk first (λ o. option_map (map entry_in) o ≡ each_once entry_of entry_cmp es)
    → IfOk second (λ o. option_map (map column_in) o ≡ each_once column_of column_cmp cs)
    → IfOk third (λ o. option_map (map part_in) o ≡ each_once part_of part_cmp ps)
    → IfOk behind (AreBoth second third) → AreBoth first behind found
    → option_map (λ t. catalogue_with (said t)) found ≡ catalogue_of es cs ps
unfolding catalogue_of
read_whole es cs ps first second third behind found e c p later are =
    let both = both_there (each_once column_of column_cmp cs) (each_once part_of part_cmp ps) in
    let two : IfOk behind (λ o. option_map (λ t. (map column_in t.0, map part_in t.1)) o ≡ both) = IfOk-weaker behind _ _
    (λ o is. mapped_both (map column_in) (map part_in) (each_once column_of column_cmp cs) (each_once part_of part_cmp ps) second third o is c p) later in
    mapped (found)
    ∙ ap (option_map catalogue_with) (mapped_both (map entry_in) (λ t. (map column_in t.0, map part_in t.1)) (each_once entry_of entry_cmp es) both first behind found are e two)
    ∙ sym (three (each_once entry_of entry_cmp es) (each_once column_of column_cmp cs) (each_once part_of part_cmp ps))
  where
    mapped : (o : Option Three) → option_map (λ t. catalogue_with (said t)) o ≡ option_map catalogue_with (option_map said o)
    mapped None = refl
    mapped (Some t) = refl
