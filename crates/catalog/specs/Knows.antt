-- What a catalogue in memory knows of the database on pages.
use Rattle.std.specs.Prelude.{◌≡◌, true, ℕ, List, Option, Some}
use Rattle.calculus.specs.declared.change.DbChange.{DbChange}
use Rattle.calculus.specs.Change.{IsLawful, laid}
use Rattle.calculus.specs.Database.{Db}
use Rattle.calculus.specs.IsDatabase.{IsDatabase}
use Rattle.disk_model.specs.Disk.{Image}
use Rattle.disk_model.specs.declared.disk.Addr.{Addr}
use Rattle.page_chain.specs.Pages.{pages_of}
use Rattle.plain_base.specs.Shown.{database_of}
use Rattle.stored_database.specs.Catalogue.{catalogue_in}
use Rattle.stored_database.specs.Printed.{HasFiles, printed}
use Rattle.stored_database.specs.Denoting.{denoted}
use Rattle.catalog_read.specs.Parts.{index_owners_agree}
use Rattle.catalog_laws.specs.Loaded.{loaded_part}
use Rattle.catalog_moves.specs.Bases.{IndexBases}
use Rattle.catalog_moves.specs.Files.{files_of, is_in}
use Rattle.catalog_pages.specs.Ends.{AreEnds}
use Rattle.catalog.specs.Damage.{ShowsNone}
use Rattle.catalog.specs.declared.catalog.Catalog.{Catalog}

-- The pages hold the catalogue of this database by the files that are known, and the rows of its relations; in memory are its schema and the rows of the relations that were read; each index has the owner of its relation; and the table of files has places for what is there and for nothing else, and says the relation below each index.
pub record Knows (c : Catalog) (m : Image) (db : Db) : Type 0 where
  pub plain : database_of c.plain ≡ loaded_part (is_in c.loaded) db
  pub catalogue : catalogue_in (pages_of m) ≡ Some (printed db (files_of c.files))
  pub has : HasFiles db (pages_of m) (files_of c.files)
  pub ends : AreEnds m c.ends
  pub owners : index_owners_agree db ≡ true
  pub bases : IndexBases c.files db

-- The pages denote no database of this administrator in which each index has the owner of its relation.
abbrev pub NoDatabase : List ℕ → Image → Addr → Type 0
NoDatabase dba m a = (db : Db) → denoted m ≡ Some db → db.dba ≡ dba → index_owners_agree db ≡ true → ⊥

-- The same, and this page shows it.
abbrev pub NoDatabaseAt : List ℕ → Image → Addr → Type 0
NoDatabaseAt dba m a = NoDatabase dba m a × ShowsNone m a

-- What is known in memory isn't that of a database on these pages.
abbrev pub KnowsNone : Catalog → Image → Addr → Type 0
KnowsNone c m a = (db : Db) → IsDatabase db → Knows c m db → ⊥

-- Nor is it that of one of which this change is lawful.
abbrev pub KnowsNoneFor : Catalog → DbChange → Image → Addr → Type 0
KnowsNoneFor c made m a = (db : Db) → IsDatabase db → Knows c m db → IsLawful db made → ⊥

-- The pages of file 0 are the same.
abbrev pub SameHead : Image → Image → Type 0
SameHead m n = (b : Addr) → b.file ≡ 0 → n b ≡ m b

-- The pages are still known, and the catalogue knows the database after a change on them; those of file 0 are as before.
pub record KnowsAfter (c : Catalog) (before : Image) (known : Option Image) (db : Db) (made : DbChange) : Type 0 where
  pub image : Image
  pub still_known : known ≡ Some image
  pub knows : Knows c image (laid db made)
  pub head : SameHead before image
