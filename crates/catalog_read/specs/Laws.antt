-- What a catalogue says without its relations' rows.
use Rattle.std.specs.Prelude.{◌≡◌, ℕ, List, Some}
use Rattle.calculus.specs.Database.{Db}
use Rattle.calculus.specs.Schema.{schema_of}
use Rattle.page_chain.specs.Pages.{Pages}
use Rattle.stored_database.specs.Catalogue.{Catalogue}
use Rattle.stored_database.specs.Spelled.{spelled}
use Rattle.catalog_read.specs.Parts.{Parts, whole}
use Rattle.catalog_read.specs.Read.{parts_of}

-- The parts that a catalogue spells make this database without rows.
pub record Spells (dba : List ℕ) (cat : Catalogue) (db : Db) : Type 0 where
  pub parts : Parts
  pub are : parts_of cat ≡ Some parts
  pub make : whole dba parts ≡ Some (schema_of db)

-- A catalogue that spells a database has the parts of its schema.
abbrev pub SpellsItsSchema : Type 0
SpellsItsSchema = (dba : List ℕ) (files : ℕ → Pages) (cat : Catalogue) (db : Db) → spelled dba files cat ≡ Some db → Spells dba cat db
