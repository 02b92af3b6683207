-- What the pages of the catalogues spell, whatever lies on those of relations.
use Rattle.std.specs.Prelude.{◌≡◌, ℕ, Option, Some}
use Rattle.calculus.specs.declared.change.DbChange.{DbChange}
use Rattle.calculus.specs.declared.query.RelKey.{RelKey}
use Rattle.calculus.specs.Change.{laid}
use Rattle.disk_model.specs.Disk.{Image}
use Rattle.disk_model.specs.declared.disk.Addr.{Addr}
use Rattle.page_chain.specs.Pages.{pages_of}
use Rattle.plain_base.specs.Shown.{database_of}
use Rattle.stored_database.specs.Catalogue.{catalogue_in}
use Rattle.stored_database.specs.Printed.{printed}
use Rattle.catalog_moves.specs.Bases.{IndexBases}
use Rattle.catalog_moves.specs.Files.{files_of, is_in, places_of, with_file}
use Rattle.catalog_pages.specs.Ends.{AreEnds, SameBesides}
use Rattle.catalog_laws.specs.Loaded.{known_after}
use Rattle.catalog.specs.Laid.{IsPlaced}
use Rattle.catalog.specs.Places.{places_after}
use Rattle.catalog.specs.declared.catalog.Catalog.{Catalog}

-- The pages of the catalogues spell what is known: they hold the catalogue of the database in memory by the files that are known, their chains end where it is known, and the table of files is one of that database.
pub record Spells (c : Catalog) (m : Image) : Type 0 where
  pub catalogue : catalogue_in (pages_of m) ≡ Some (printed (database_of c.plain) (files_of c.files))
  pub ends : AreEnds m c.ends
  pub bases : IndexBases c.files (database_of c.plain)

-- The pages are still known, and the catalogues spell what is known; pages of other files are as before.
pub record SpellsAfter (c : Catalog) (before : Image) (known : Option Image) : Type 0 where
  pub image : Image
  pub still_known : known ≡ Some image
  pub spells : Spells c image
  pub others : SameBesides before image

-- The catalogues don't spell what is known.
abbrev pub SpellsNone : Catalog → Image → Addr → Type 0
SpellsNone c m a = Spells c m → ⊥

-- A change was applied in memory: what it leaves keeps its file and its pages, and what it makes lies in a file that nothing had.
pub record IsWritten (before now : Catalog) (made : DbChange) : Type 0 where
  pub file : ℕ
  pub used : ℕ
  pub placed : IsPlaced made (files_of before.files) file used
  pub plain : database_of now.plain ≡ laid (database_of before.plain) made
  pub loaded : (key : RelKey) → is_in now.loaded key ≡ known_after made (is_in before.loaded) key
  pub places : places_of now.files ≡ places_after made file used (places_of before.files)

-- What stands under a key has this file with so many pages, and all else that is known stays.
pub record IsSet (before now : Catalog) (key : RelKey) (file used : ℕ) : Type 0 where
  pub plain : database_of now.plain ≡ database_of before.plain
  pub loaded : (other : RelKey) → is_in now.loaded other ≡ is_in before.loaded other
  pub files : files_of now.files ≡ with_file key file used (files_of before.files)
