-- How many pages are read of a database on pages.
use Rattle.std.specs.Prelude.{◌≡◌, ◌+◌, ◌||◌, not, ℕ, Bool, List, length, Some}
use Rattle.calculus.specs.declared.query.RelKey.{RelKey}
use Rattle.calculus.specs.Database.{is_relation}
use Rattle.disk_model.specs.Disk.{Image}
use Rattle.page_chain.specs.Chains.{chain}
use Rattle.page_chain.specs.Pages.{pages_of}
use Rattle.plain_base.specs.Shown.{database_of}
use Rattle.stored_database.specs.Catalogue.{most_pages}
use Rattle.catalog_moves.specs.Files.{is_in}
use Rattle.catalog.specs.declared.catalog.Catalog.{Catalog}

-- The chains of the three catalogues are there, with so many pages in all.
pub record HasChains (m : Image) (all : ℕ) : Type 0 where
  pub entries : List ℕ
  pub columns : List ℕ
  pub parts : List ℕ
  pub has_entries : chain most_pages (pages_of m 5) ≡ Some entries
  pub has_columns : chain most_pages (pages_of m 6) ≡ Some columns
  pub has_parts : chain most_pages (pages_of m 7) ≡ Some parts
  pub in_all : length entries + (length columns + length parts) ≡ all

-- the rows of what stands under a key are in memory: they were read, or no base relation stands there
abbrev pub rows_known : Catalog → RelKey → Bool
rows_known c key = is_in c.loaded key || not (is_relation (database_of c.plain) key)
