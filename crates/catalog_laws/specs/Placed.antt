-- Where what a change makes or changes lies on pages.
use Rattle.std.specs.Prelude.{◌≡◌, ℕ, ◌<◌, ◌==◌, ◌&&◌, nat_le, true, false, List, Some}
use Rattle.std.specs.List.{AllByRecursion}
use Rattle.am_traits.specs.Pages.{SameElsewhere}
use Rattle.calculus.specs.declared.query.RelKey.{RelKey}
use Rattle.calculus.specs.declared.change.DbChange.{DbChange}
use Rattle.calculus.specs.declared.change.DbChange.TheVariants as change
use Rattle.calculus.specs.declared.schema.Attr.{Attr}
use Rattle.calculus.specs.declared.value.Domain.{Domain}
use Rattle.calculus.specs.Change.{laid, IsLawful}
use Rattle.calculus.specs.Database.{Db}
use Rattle.calculus.specs.IsDatabase.{IsDatabase}
use Rattle.calculus.specs.Keys.{same_key}
use Rattle.calculus.specs.Replacement.{with_rows, without_rows}
use Rattle.calculus.specs.Rows.{Row, set_of}
use Rattle.disk_model.specs.Disk.{Image}
use Rattle.disk_model.specs.declared.disk.Addr.{Addr}
use Rattle.page_chain.specs.Lists.{each}
use Rattle.page_chain.specs.Pages.{pages_of}
use Rattle.page_chain.specs.Rows.{set_on, reader}
use Rattle.stored_database.specs.Names.{is_number32}
use Rattle.stored_database.specs.Printed.{Files, HasFiles, is_file}
use Rattle.stored_database.specs.Spelled.{domain_of}
use Rattle.catalog_moves.specs.Files.{files_after}

-- a number of pages: one at least, in four bytes
abbrev pub is_used : ℕ → Type 0
is_used used = (nat_le 1 used && is_number32 used) ≡ true

-- The number is one of a file, and nothing has that file.
pub record IsFree (f : Files) (file : ℕ) : Type 0 where
  pub number : is_file file ≡ true
  pub free : (key : RelKey) → (f.file key == file) ≡ false

-- The file and the number of pages suit a change: a relation keeps its file, and with another structure its pages, too; what is made has a file that nothing has.
unfoldable pub Suits : DbChange → Files → ℕ → ℕ → Type 0
Suits (change.Rows rel remove add) f file used = (file ≡ f.file rel) × is_used used
Suits (change.Create info rows) f file used = IsFree f file × is_used used
Suits (change.Destroy rels) f file used = Unit {0}
Suits (change.Modify rel to keys) f file used = (file ≡ f.file rel) × (used ≡ f.used rel)
Suits (change.Index base name keys) f file used = IsFree f file
Suits (change.View info query) f file used = IsFree f file
Suits (change.Permit rel permit) f file used = Unit {0}
Suits (change.Rule rel rule) f file used = Unit {0}
Suits (change.DropPermits rel numbers) f file used = Unit {0}
Suits (change.DropRules rel numbers) f file used = Unit {0}

-- On the pages of this file, so many, are these rows of these attributes, and the pages of other files are the same.
pub record IsMade (file used : ℕ) (attrs : List Attr) (rows : List Row) (before later : Image) : Type 0 where
  pub domains : List Domain
  pub read : each domain_of attrs ≡ Some domains
  pub are : set_on (reader domains) used (pages_of later file) ≡ Some rows
  pub elsewhere : SameElsewhere file before later

-- The pages of relations are made as a change asks: of a relation whose rows change, or that is made; else they are the same.
unfoldable pub MakesPages : DbChange → Db → ℕ → ℕ → Image → Image → Type 0
MakesPages (change.Rows rel remove add) db file used before later =
    AllByRecursion (λ r. same_key r.info.key rel ≡ true → IsMade file used r.info.attrs (with_rows add (without_rows remove r.rows)) before later) db.relations
MakesPages (change.Create info rows) db file used before later = IsMade file used info.attrs (set_of rows) before later
MakesPages (change.Destroy rels) db file used before later = later ≡ before
MakesPages (change.Modify rel to keys) db file used before later = later ≡ before
MakesPages (change.Index base name keys) db file used before later = later ≡ before
MakesPages (change.View info query) db file used before later = later ≡ before
MakesPages (change.Permit rel permit) db file used before later = later ≡ before
MakesPages (change.Rule rel rule) db file used before later = later ≡ before
MakesPages (change.DropPermits rel numbers) db file used before later = later ≡ before
MakesPages (change.DropRules rel numbers) db file used before later = later ≡ before

-- Then the database afterwards has its files on those pages.
abbrev pub FilesStand : DbChange → Type 0
FilesStand made = (db : Db) (f : Files) (file used : ℕ) (before later : Image) → IsDatabase db → IsLawful db made → HasFiles db (pages_of before) f → Suits made f file used
    → MakesPages made db file used before later → HasFiles (laid db made) (pages_of later) (files_after made file used f)

-- And the pages of the first files, in which no relation lies, stay.
abbrev pub FirstFilesStay : DbChange → Type 0
FirstFilesStay made = (db : Db) (f : Files) (file used : ℕ) (before later : Image) → IsLawful db made → HasFiles db (pages_of before) f → Suits made f file used
    → MakesPages made db file used before later → (b : Addr) → b.file < 16 → later b ≡ before b
