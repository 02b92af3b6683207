-- What of a change is applied already.
use Rattle.std.specs.Prelude.{◌≡◌, ℕ, Option, Some}
use Rattle.calculus.specs.declared.query.RelKey.{RelKey}
use Rattle.calculus.specs.declared.change.DbChange.{DbChange}
use Rattle.calculus.specs.declared.change.DbChange.TheVariants as change
use Rattle.calculus.specs.Change.{IsLawful, laid}
use Rattle.calculus.specs.Database.{Db}
use Rattle.calculus.specs.IsDatabase.{IsDatabase}
use Rattle.calculus.specs.Schema.{schema_of}
use Rattle.disk_model.specs.Disk.{Image}
use Rattle.disk_model.specs.declared.disk.Addr.{Addr}
use Rattle.page_chain.specs.Pages.{pages_of}
use Rattle.plain_base.specs.Shown.{database_of}
use Rattle.stored_database.specs.Catalogue.{Catalogue, IsCatalogue}
use Rattle.stored_database.specs.Printed.{Files, HasFiles}
use Rattle.stored_database.specs.After.{AreChanges, changed}
use Rattle.stored_database.specs.Moves.{going, coming}
use Rattle.catalog_moves.specs.Files.{files_after, is_in, places_of}
use Rattle.catalog_moves.specs.Moves.{HavePlaces}
use Rattle.catalog_laws.specs.Placed.{IsFree, Suits, MakesPages}
use Rattle.catalog_laws.specs.Loaded.{known_after}
use Rattle.catalog.specs.Places.{places_after}
use Rattle.catalog.specs.declared.catalog.Catalog.{Catalog}

-- Of a relation whose rows change the pages are the same.
unfoldable pub SeesTheSame : DbChange → Files → Image → Image → Type 0
SeesTheSame (change.Rows rel remove add) f over m = pages_of over (f.file rel) ≡ pages_of m (f.file rel)
SeesTheSame (change.Create info rows) f over m = Unit {0}
SeesTheSame (change.Destroy rels) f over m = Unit {0}
SeesTheSame (change.Modify rel to keys) f over m = Unit {0}
SeesTheSame (change.Index base name keys) f over m = Unit {0}
SeesTheSame (change.View info query) f over m = Unit {0}
SeesTheSame (change.Permit rel permit) f over m = Unit {0}
SeesTheSame (change.Rule rel rule) f over m = Unit {0}
SeesTheSame (change.DropPermits rel numbers) f over m = Unit {0}
SeesTheSame (change.DropRules rel numbers) f over m = Unit {0}

-- A database that has these files on pages that are the same where the change reads them, differs from what is known in rows of relations alone, and may take the change.
pub record MayTake (part db : Db) (f : Files) (made : DbChange) (m : Image) : Type 0 where
  pub is : IsDatabase db
  pub over : Image
  pub has : HasFiles db (pages_of over) f
  pub sees : SeesTheSame made f over m
  pub schema : schema_of part ≡ schema_of db
  pub lawful : IsLawful db made

-- There is none such.
abbrev pub NoneMayTake : Db → Files → DbChange → Image → Addr → Type 0
NoneMayTake part f made m a = (db : Db) → MayTake part db f made m → ⊥

-- The pages are still known, and those of relations are as the change asks of the database.
pub record HasMade (made : DbChange) (db : Db) (f : Files) (file used : ℕ) (before : Image) (known : Option Image) : Type 0 where
  pub image : Image
  pub still_known : known ≡ Some image
  pub suits : Suits made f file used
  pub makes : MakesPages made db file used before image

-- the rows of a catalogue that go and those that come, where what is made has this file and so many pages
abbrev pub going_of : DbChange → Files → ℕ → ℕ → Db → Catalogue
going_of made f file used db = going f (files_after made file used f) db made

abbrev pub coming_of : DbChange → Files → ℕ → ℕ → Db → Catalogue
coming_of made f file used db = coming f (files_after made file used f) db made

-- the change puts no page of a relation
unfoldable pub PutsNoRows : DbChange → Type 0
PutsNoRows (change.Rows rel remove add) = ⊥
PutsNoRows (change.Create info rows) = ⊥
PutsNoRows (change.Destroy rels) = Unit {0}
PutsNoRows (change.Modify rel to keys) = Unit {0}
PutsNoRows (change.Index base name keys) = Unit {0}
PutsNoRows (change.View info query) = Unit {0}
PutsNoRows (change.Permit rel permit) = Unit {0}
PutsNoRows (change.Rule rel rule) = Unit {0}
PutsNoRows (change.DropPermits rel numbers) = Unit {0}
PutsNoRows (change.DropRules rel numbers) = Unit {0}

-- Where what a change makes or changes lies by the catalogue alone: what is there keeps its file and its pages, and what is made has a file that nothing has, a relation one page of it.
unfoldable pub IsPlaced : DbChange → Files → ℕ → ℕ → Type 0
IsPlaced (change.Rows rel remove add) f file used = (file ≡ f.file rel) × (used ≡ f.used rel)
IsPlaced (change.Create info rows) f file used = IsFree f file × (used ≡ 1)
IsPlaced (change.Destroy rels) f file used = Unit {0}
IsPlaced (change.Modify rel to keys) f file used = (file ≡ f.file rel) × (used ≡ f.used rel)
IsPlaced (change.Index base name keys) f file used = IsFree f file
IsPlaced (change.View info query) f file used = IsFree f file
IsPlaced (change.Permit rel permit) f file used = Unit {0}
IsPlaced (change.Rule rel rule) f file used = Unit {0}
IsPlaced (change.DropPermits rel numbers) f file used = Unit {0}
IsPlaced (change.DropRules rel numbers) f file used = Unit {0}

-- Where the parts that come have places, the rows are a change of this catalogue that leaves one.
pub record IsPrepared (made : DbChange) (f : Files) (file used : ℕ) (db : Db) (cat : Catalogue) : Type 0 where
  pub changes : HavePlaces (coming_of made f file used db) → AreChanges (going_of made f file used db) (coming_of made f file used db) cat
  pub stands : HavePlaces (coming_of made f file used db) → IsCatalogue (changed (going_of made f file used db) (coming_of made f file used db) cat)

-- A change is applied in memory.
pub record IsKept (before now : Catalog) (made : DbChange) (file used : ℕ) : Type 0 where
  pub plain : database_of now.plain ≡ laid (database_of before.plain) made
  pub loaded : (key : RelKey) → is_in now.loaded key ≡ known_after made (is_in before.loaded) key
  pub places : places_of now.files ≡ places_after made file used (places_of before.files)
