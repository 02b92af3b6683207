-- What is known in memory lies on pages, whether these denote a database or not.
use Rattle.std.specs.Prelude.{◌≡◌, true, ◌<◌, Option, Some}
use Rattle.calculus.specs.declared.query.RelKey.{RelKey}
use Rattle.calculus.specs.Database.{Db, is_relation}
use Rattle.disk_model.specs.Disk.{Image}
use Rattle.disk_model.specs.declared.disk.Addr.{Addr}
use Rattle.page_chain.specs.Pages.{pages_of}
use Rattle.plain_base.specs.Shown.{database_of}
use Rattle.catalog_read.specs.Parts.{index_owners_agree}
use Rattle.stored_database.specs.Denoting.{denoted}
use Rattle.catalog_moves.specs.Files.{files_of, is_in}
use Rattle.catalog.specs.Knows.{Knows, SameHead}
use Rattle.catalog.specs.declared.catalog.Catalog.{Catalog}

-- The pages hold the catalogue of what is known in memory, and the rows of the relations that were read: with other pages in the files of those that weren't, on which no row lies, they hold the database in memory.
pub record LiesOn (c : Catalog) (m : Image) : Type 0 where
  pub over : Image
  pub first : (b : Addr) → b.file < 16 → over b ≡ m b
  pub read : (key : RelKey) → is_relation (database_of c.plain) key ≡ true → is_in c.loaded key ≡ true
      → pages_of over ((files_of c.files).file key) ≡ pages_of m ((files_of c.files).file key)
  pub knows : Knows c over (database_of c.plain)

-- The pages are still known, and what is known in memory lies on them; those of file 0 are as before.
pub record LiesAfter (c : Catalog) (before : Image) (known : Option Image) : Type 0 where
  pub image : Image
  pub still_known : known ≡ Some image
  pub lies : LiesOn c image
  pub head : SameHead before image

-- Where that database is told by the pages, and is of the same administrator, it is known.
abbrev pub LyingIsKnowing : Type 0
LyingIsKnowing = (c : Catalog) (m : Image) (db : Db) → LiesOn c m → denoted m ≡ Some db → index_owners_agree db ≡ true → (database_of c.plain).dba ≡ db.dba → Knows c m db
