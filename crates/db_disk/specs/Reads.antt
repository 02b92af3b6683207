-- How many pages are read of a disk.
use Rattle.std.specs.Prelude.{◌≡◌, ◌≢◌, ◌⊎◌, ◌+◌, ℕ, Bool, false, IsTrue, is_some, if◌then◌else◌, Option, Some, None}
use Rattle.calculus.specs.declared.probe.Place.{Place}
use Rattle.calculus.specs.declared.query.RelKey.{RelKey}
use Rattle.disk_model.specs.Disk.{Image}
use Rattle.disk_model.specs.declared.disk.Disk.{Ghosts}
use Rattle.batch_file.specs.Layout.{gate}
use Rattle.batch_file.specs.Redone.{kept}
use Rattle.stored_database.specs.Printed.{Files}
use Rattle.catalog_moves.specs.Files.{files_of}
use Rattle.catalog.specs.Reads.{HasChains, rows_known}
use Rattle.catalog.specs.declared.catalog.Catalog.{Catalog}
use Rattle.db_disk.specs.Shown.{disk_in, schema_in}
use Rattle.db_disk.specs.declared.base.DbDisk.{DbDisk}

-- The gate is shut, and the gate, the header, the birth byte and the catalogues have so many pages in all.
pub record OpensBy (seen : Image) (all : ℕ) : Type 0 where
  pub shut : gate seen ≢ 1
  pub catalogues : ℕ
  pub chains : HasChains (kept seen) catalogues
  pub in_all : all ≡ catalogues + 3

-- no relation has a file
abbrev pub no_files : Files
no_files = record { file = λ key. 0; used = λ key. 0 }

-- the files that are known
abbrev pub files_in : Option Catalog → Files
files_in None = no_files
files_in (Some c) = files_of c.files

-- the rows of what stands under a key are in memory
abbrev pub rows_in : Option Catalog → RelKey → Bool
rows_in None key = false
rows_in (Some c) key = rows_known c key

module _ {D : Type 0} {g : Ghosts D} where
  -- the files that are known, and how many pages each has
  abbrev pub files_known : DbDisk D g → Files
  files_known d = files_in d.catalog

  -- how many pages the file of what stands under a key has
  abbrev pub pages_known : DbDisk D g → RelKey → ℕ
  pages_known d key = (files_known d).used key

  -- the rows of what stands under a key are in memory, whatever is known of the disk's content
  abbrev pub rows_in_memory : DbDisk D g → RelKey → Bool
  rows_in_memory d key = rows_in d.catalog key

  -- a call that needs the catalogues reads at most so many pages for them: none where they are in memory, else, where the disk's content is known, those of an opening
  abbrev pub OpensWith : DbDisk D g → ℕ → Type 0
  OpensWith d n = IsTrue (is_some (schema_in d)) ⊎ (IsTrue g.is_known × OpensBy (g.seen (disk_in d)) n)

  -- how many pages a scan of what stands under a key still reads, from any place on: those of its file, or none where its rows are in memory
  abbrev pub pages_unread : DbDisk D g → RelKey → Place → ℕ
  pages_unread d key at = if rows_in_memory d key then 0 else pages_known d key
