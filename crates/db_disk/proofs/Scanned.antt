-- Rows that a scan gives fit.
use Rattle.std.proofs.Common.{◌≡◌, refl, sym, subst, ◌∙◌, true, Option, Some, None, Result, Ok, Err, IfOk}
use Rattle.std.specs.Option.{ForSome}
use Rattle.std.proofs.lemmas.Option.{none-some, same_Some}
use Rattle.calculus.specs.declared.probe.Place.{Place}
use Rattle.calculus.specs.declared.probe.Probe.{Probe}
use Rattle.calculus.specs.declared.query.RelKey.{RelKey}
use Rattle.calculus.specs.Database.{Db, is_relation}
use Rattle.calculus.specs.IsDatabase.{IsDatabase, row_fits}
use Rattle.calculus.specs.Rows.{Row}
use Rattle.calculus.specs.Schema.{schema_of}
use Rattle.calculus.specs.Stored.{attrs_at}
use Rattle.base_trait.specs.Scans.{Gives}
use Rattle.base_trait.specs.declared.fault.BaseFault.{BaseFault}
use Rattle.plain_base.specs.Places.{rows_from}
use Rattle.plain_base.specs.Shown.{database_of}
use Rattle.plain_base.proofs.Fitting.{scan_fits as given_fits}
use Rattle.schema_laws.proofs.Alike.{attrs_alike, is_relation_alike}
use Rattle.catalog.specs.declared.catalog.Catalog.{Catalog}
use Rattle.db_disk.specs.Known.{schema_known}
use Rattle.db_disk.specs.Shown.{rows_left}

-- a row that is given of a base relation fits its attributes
database_fits : (db : Db) → IsDatabase db → (key : RelKey) (probe : Probe) (before now : Place) (result : Result (Option Row) BaseFault) → is_relation db key ≡ true
    → Gives probe (rows_from db key) before now result → IfOk result (λ row. ForSome row (λ r. row_fits (attrs_at db key) r ≡ true))
database_fits db is key probe before now (Err fault) there gives = tt
database_fits db is key probe before now (Ok answer) there gives = given_fits db db db key probe before now answer refl is gives refl there

-- of a database that is known
pub known_fits : (known : Option Db) (db : Db) (key : RelKey) (probe : Probe) (before now : Place) (result : Result (Option Row) BaseFault) → IsDatabase db → known ≡ Some db
    → Gives probe (rows_left known key) before now result → is_relation db key ≡ true → IfOk result (λ row. ForSome row (λ r. row_fits (attrs_at db key) r ≡ true))
known_fits known db key probe before now result is_one is gives there =
    database_fits db is_one key probe before now result there (subst (λ (o : Option Db). Gives probe (rows_left o key) before now result) is gives)

-- and of one in memory, by its schema
row_fits_given : (c : Catalog) (key : RelKey) (probe : Probe) (before now : Place) (result : Result (Option Row) BaseFault) → is_relation (schema_of (database_of c.plain)) key ≡ true
    → Gives probe (rows_from (database_of c.plain) key) before now result → IfOk result (λ row. ForSome row (λ r. row_fits (attrs_at (schema_of (database_of c.plain)) key) r ≡ true))
row_fits_given c key probe before now result there gives =
    let db = database_of c.plain in
    subst (λ attrs. IfOk result (λ row. ForSome row (λ r. row_fits attrs r ≡ true))) (sym (attrs_alike db key))
    (database_fits db c.plain.is key probe before now result (sym (is_relation_alike db key) ∙ there) gives)

-- a row that a scan gives of a base relation fits its attributes, by the schema that is known
pub scan_fits : (catalog : Option Catalog) (s : Db) (key : RelKey) (probe : Probe) (before now : Place) (result : Result (Option Row) BaseFault) → schema_known catalog ≡ Some s
    → ((c : Catalog) → catalog ≡ Some c → Gives probe (rows_from (database_of c.plain) key) before now result) → is_relation s key ≡ true
    → IfOk result (λ row. ForSome row (λ r. row_fits (attrs_at s key) r ≡ true))
scan_fits None s key probe before now result is gives there = absurd (none-some s is)
scan_fits (Some c) s key probe before now result is gives there =
    let e : schema_of (database_of c.plain) ≡ s = same_Some (schema_of (database_of c.plain)) s is in
    subst (λ s. IfOk result (λ row. ForSome row (λ r. row_fits (attrs_at s key) r ≡ true))) e
    (row_fits_given c key probe before now result (subst (λ s. is_relation s key ≡ true) (sym e) there) (gives c refl))
