-- What a catalogue says where no row of a relation was read.
use Rattle.std.specs.Prelude.{◌≡◌, ℕ, ◌<◌, List, Some}
use Rattle.calculus.specs.Database.{Db}
use Rattle.calculus.specs.IsDatabase.{IsDatabase}
use Rattle.calculus.specs.Schema.{schema_of}
use Rattle.disk_model.specs.Disk.{Image}
use Rattle.disk_model.specs.declared.disk.Addr.{Addr}
use Rattle.page_chain.specs.Pages.{Pages, pages_of}
use Rattle.stored_database.specs.Catalogue.{Catalogue, IsCatalogue}
use Rattle.stored_database.specs.Spelled.{spelled}
use Rattle.catalog_read.specs.Parts.{Parts, whole}
use Rattle.catalog_read.specs.Read.{parts_of}

-- An image that is the same but for files of relations, and on which the catalogue spells this database.
pub record SpellsWithout (dba : List ℕ) (cat : Catalogue) (db : Db) (m : Image) : Type 0 where
  pub image : Image
  pub low : (b : Addr) → b.file < 16 → image b ≡ m b
  pub spells : spelled dba (pages_of image) cat ≡ Some db

-- The parts of a catalogue that make a database are spelled by it on pages made for that, whatever lies on those of its relations.
abbrev pub PartsAreSpelled : Type 0
PartsAreSpelled = (dba : List ℕ) (cat : Catalogue) (parts : Parts) (db : Db) (m : Image) → IsCatalogue cat → parts_of cat ≡ Some parts → whole dba parts ≡ Some db → IsDatabase db
    → SpellsWithout dba cat db m

-- Two databases that a catalogue spells on whatever pages have one schema.
abbrev pub AreSpelledOnce : Type 0
AreSpelledOnce = (dba : List ℕ) (cat : Catalogue) (one other : Db) (files there : ℕ → Pages) → spelled dba files cat ≡ Some one → spelled dba there cat ≡ Some other → schema_of one ≡ schema_of other
