-- What is read of a relation's file.
use Rattle.std.specs.Prelude.{◌≡◌, ℕ, ◌<◌, ◌≤◌, ◌||◌, [], List, Some}
use Rattle.calculus.specs.declared.change.DbChange.TheVariants.{Rows}
use Rattle.calculus.specs.declared.query.RelKey.{RelKey}
use Rattle.calculus.specs.declared.schema.RelInfo.{RelInfo}
use Rattle.calculus.specs.Change.{IsLawful, laid}
use Rattle.calculus.specs.Database.{Db, Relation, relation_at}
use Rattle.calculus.specs.Keys.{same_key}
use Rattle.calculus.specs.Rows.{Row}
use Rattle.calculus.specs.declared.schema.RelFile.{RelFile}
use Rattle.page_cells.specs.RowBytes.{widths}
use Rattle.page_chain.specs.Lists.{each}
use Rattle.plain_base.specs.Shown.{database_of}
use Rattle.stored_database.specs.Printed.{Files}
use Rattle.stored_database.specs.Spelled.{domain_of}
use Rattle.catalog_moves.specs.Files.{is_in}
use Rattle.catalog.specs.declared.catalog.Catalog.{Catalog}

-- The file with this number and so many pages on one chain, of this structure and these keys, whose domains are those of these attributes.
pub record IsFileWith (info : RelInfo) (file used : ℕ) (its : RelFile) : Type 0 where
  pub number : its.file ≡ file
  pub pages : its.used ≡ used
  pub domains : each domain_of info.attrs ≡ Some its.domains
  pub spec : its.spec ≡ info.spec
  pub keys : its.keys ≡ info.keys
  pub primary : its.primary ≡ 1
  pub directory : its.directory ≡ 0

-- The file of a relation that stands under a key.
pub record IsFileOf (db : Db) (f : Files) (key : RelKey) (its : RelFile) : Type 0 where
  pub number : its.file ≡ f.file key
  pub pages : its.used ≡ f.used key
  pub domains : (r : Relation) → Some r ≡ relation_at db key → each domain_of r.info.attrs ≡ Some its.domains
  pub first : 16 ≤ its.file
  pub some : 0 < its.used
  pub wide : 0 < widths its.domains
  pub narrow : widths its.domains ≤ 1012

-- Nothing of what is known in memory changed.
pub record IsSame (before now : Catalog) : Type 0 where
  pub plain : database_of now.plain ≡ database_of before.plain
  pub loaded : (other : RelKey) → is_in now.loaded other ≡ is_in before.loaded other
  pub files : now.files ≡ before.files
  pub ends_stay : now.ends ≡ before.ends

-- Rows of a relation came into memory, as a lawful change.
pub record IsTaken (before now : Catalog) (key : RelKey) (rows : List Row) : Type 0 where
  pub lawful : IsLawful (database_of before.plain) (Rows key [] rows)
  pub plain : database_of now.plain ≡ laid (database_of before.plain) (Rows key [] rows)
  pub loaded : (other : RelKey) → is_in now.loaded other ≡ (same_key key other || is_in before.loaded other)
  pub files : now.files ≡ before.files
  pub ends_stay : now.ends ≡ before.ends
