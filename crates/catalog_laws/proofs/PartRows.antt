-- The rows that stand under a key of a part.
use Rattle.std.proofs.Common.{◌≡◌, refl, sym, ap, ◌∙◌, Bool, true, List, Option, Some, None}
use Rattle.std.specs.Prelude.{option_map}
use Rattle.calculus.specs.declared.query.RelKey.{RelKey}
use Rattle.calculus.specs.Rows.{Row}
use Rattle.calculus.specs.Database.{Db, Relation, View, relation_at, view_at}
use Rattle.calculus.specs.Catalogue.{catalogue_at}
use Rattle.calculus.specs.Stored.{Range, Kept, Viewed, range_at, kept_rows, rows_at}
use Rattle.schema_laws.proofs.Alike.{catalogue_alike}
use Rattle.plan_laws.proofs.Tests.{key_found}
use Rattle.catalog_laws.specs.Loaded.{loaded_part, HasTheRows}
use Rattle.catalog_laws.proofs.Part.{part, part_known, alike, relation_part}

-- the rows of this relation, else of the catalogue under the key
abbrev rows_in : Option Relation → Option View → Option Relation → List Row
rows_in r v c = kept_rows (elim r as (λ r. Option Range) [
  | Some relation ↦ Some (Kept relation)
  | None ↦ elim v as (λ v. Option Range) [ Some view ↦ Some (Viewed view) | None ↦ option_map Kept c ]
])

rows_part : (has : RelKey → Bool) (db : Db) (key : RelKey) → rows_at (loaded_part has db) key ≡ rows_in (option_map (part has) (relation_at db key)) (view_at db key) (catalogue_at db key)
unfolding range_at loaded_part
rows_part has db key = λ i. rows_in (relation_part has db key i) (view_at db key) (alike (λ d. catalogue_at d key) (λ d. catalogue_alike d key) has db i)

rows_whole : (db : Db) (key : RelKey) → rows_at db key ≡ rows_in (relation_at db key) (view_at db key) (catalogue_at db key)
unfolding range_at
rows_whole db key = refl

pub rows_known : (has : RelKey → Bool) (db : Db) (key : RelKey) → has key ≡ true → rows_at (loaded_part has db) key ≡ rows_at db key
rows_known has db key e = rows_part has db key ∙ ap (λ r. rows_in r (view_at db key) (catalogue_at db key)) (go (relation_at db key) refl) ∙ sym (rows_whole db key)
  where
    go : (o : Option Relation) → relation_at db key ≡ o → option_map (part has) o ≡ o
    go None f = refl
    go (Some r) f = ap Some (part_known has r (ap has (key_found key db.relations r f) ∙ e))

pub rows_of_others : (has : RelKey → Bool) (db : Db) (key : RelKey) → None ≡ relation_at db key → rows_at (loaded_part has db) key ≡ rows_at db key
rows_of_others has db key e =
    rows_part has db key
    ∙ ap (λ r. rows_in (option_map (part has) r) (view_at db key) (catalogue_at db key)) (sym e)
    ∙ ap (λ r. rows_in r (view_at db key) (catalogue_at db key)) e
    ∙ sym (rows_whole db key)

pub has_the_rows : HasTheRows
has_the_rows = record { known = rows_known; others = rows_of_others }
