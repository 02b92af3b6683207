-- What is read of the catalogues of a disk.
use Rattle.std.specs.Prelude.{◌≡◌, true, false, ℕ, List, Option, Some, None}
use Rattle.calculus.specs.declared.query.RelKey.{RelKey}
use Rattle.calculus.specs.Database.{Db}
use Rattle.calculus.specs.IsDatabase.{IsDatabase}
use Rattle.calculus.specs.Schema.{schema_of}
use Rattle.disk_model.specs.Disk.{Image}
use Rattle.disk_model.specs.declared.disk.Addr.{Addr}
use Rattle.page_chain.specs.Found.{Found}
use Rattle.page_chain.specs.Pages.{Pages, pages_of}
use Rattle.plain_base.specs.Shown.{database_of}
use Rattle.catalog_read.specs.Read.{parts_of}
use Rattle.catalog_read.specs.Parts.{Parts, index_owners_agree, whole}
use Rattle.stored_database.specs.Catalogue.{Catalogue, catalogue_in, most_pages}
use Rattle.stored_database.specs.Printed.{HasFiles, files_in, printed}
use Rattle.stored_database.specs.Spelled.{spelled}
use Rattle.stored_database.specs.Denoting.{denoted}
use Rattle.catalog_moves.specs.Bases.{IndexBases}
use Rattle.catalog_moves.specs.Files.{files_of, is_in}
use Rattle.catalog_pages.specs.declared.writing.Ends.{Ends}
use Rattle.catalog.specs.declared.catalog.Catalog.{Catalog}
use Rattle.catalog.specs.declared.loading.Chains.{Chains}
use Rattle.catalog.specs.Damage.{BreaksOff}
use Rattle.catalog.specs.Knows.{Knows}

-- The rows of the three chains, and where they end.
pub record AreFound (m : Image) (c : Chains) : Type 0 where
  pub entries : Found most_pages (pages_of m 5) c.entries.rows c.entries.last
  pub columns : Found most_pages (pages_of m 6) c.columns.rows c.columns.last
  pub parts : Found most_pages (pages_of m 7) c.parts.rows c.parts.last

-- the pages hold no catalogue, and a chain of one breaks off at this page
abbrev pub NoCatalogueIn : Image → Addr → Type 0
NoCatalogueIn m a = (catalogue_in (pages_of m) ≡ None) × BreaksOff m a

-- the catalogue spells no database of this administrator in which each index has the owner of its relation
abbrev pub SpellsNone : List ℕ → Catalogue → Type 0
SpellsNone dba cat = (files : ℕ → Pages) (db : Db) → spelled dba files cat ≡ Some db → IsDatabase db → index_owners_agree db ≡ true → ⊥

-- The catalogue spells parts, the database without rows is the one that they make, and each of its indexes has the owner of its relation.
pub record IsOfParts (dba : List ℕ) (cat : Catalogue) (db : Db) : Type 0 where
  pub parts : Parts
  pub are : parts_of cat ≡ Some parts
  pub make : whole dba parts ≡ Some db
  pub owners : index_owners_agree db ≡ true

-- What is known in memory is the schema of each database that the catalogue spells, its files, and where the chains end; the table of files is that of a database that has these entries; no rows were read; and it is what the catalogue's parts make.
pub record IsMadeOf (dba : List ℕ) (cat : Catalogue) (ends : Ends) (c : Catalog) : Type 0 where
  pub schema : (files : ℕ → Pages) (db : Db) → spelled dba files cat ≡ Some db → database_of c.plain ≡ schema_of db
  pub files : files_of c.files ≡ files_in cat
  pub none : (key : RelKey) → is_in c.loaded key ≡ false
  pub of_parts : IsOfParts dba cat (database_of c.plain)
  pub ends_there : c.ends ≡ ends
  pub bases : (db : Db) (files : ℕ → Pages) → IsDatabase db → HasFiles db files (files_of c.files) → cat.entries ≡ (printed db (files_of c.files)).entries → IndexBases c.files db

-- The pages denote this database of this administrator, in which each index has the owner of its relation.
pub record HoldsFor (dba : List ℕ) (m : Image) (db : Db) : Type 0 where
  pub stands : denoted m ≡ Some db
  pub dba_is : db.dba ≡ dba
  pub owners : index_owners_agree db ≡ true

-- it is there, and knows the database on these pages
abbrev pub IfKnown : Image → Db → Option Catalog → Type 0
IfKnown m db None = ⊥
IfKnown m db (Some c) = Knows c m db
