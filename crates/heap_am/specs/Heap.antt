-- The rows of a heap, the pages of which are read by counting; and when a page isn't as it must be.
use Rattle.std.specs.Prelude.{◌≡◌, ℕ, suc, ◌-◌, ◌==◌, ◌&&◌, nat_lt, Bool, true, false, List, Option, Some, None, is_some, if◌then◌else◌}
use Rattle.calculus.specs.declared.probe.Place.{Place}
use Rattle.calculus.specs.Rows.{Row}
use Rattle.base_trait.specs.declared.fault.BaseFault.{BaseFault}
use Rattle.base_trait.specs.declared.fault.BaseFault.TheVariants.{Disk, Damaged, OutOfMemory}
use Rattle.disk_model.specs.Disk.{Image, is_at}
use Rattle.disk_model.specs.declared.disk.Addr.{Addr}
use Rattle.am_traits.specs.Placed.{Placed}
use Rattle.calculus.specs.declared.schema.RelFile.{RelFile}
use Rattle.page_cells.specs.Page.{Slot}
use Rattle.page_chain.specs.Lists.{each}
use Rattle.page_chain.specs.Lying.{lying_on}
use Rattle.page_chain.specs.Pages.{pages_of, page_at, next_of}
use Rattle.page_chain.specs.Rows.{placed_on, read_with, reader}

-- the number of the page right behind, 0 where this is the last of so many
abbrev pub behind : ℕ → ℕ → ℕ
behind used page = if nat_lt (suc page) used then suc page else 0

-- it is this number
abbrev pub is_number : ℕ → Option ℕ → Bool
is_number n None = false
is_number n (Some m) = m == n

-- the page goes on to the one right behind it, or to none where it is the last of so many
abbrev pub goes_on : ℕ → ℕ → Option (List ℕ) → Bool
goes_on used page p = is_number (behind used page) (next_of used page p)

-- what stands in the slot, if anything, is a row that can be read
abbrev pub is_readable : (List ℕ → Option Row) → Slot → Bool
is_readable read None = true
is_readable read (Some bytes) = is_some (read bytes)

-- each row on the page is one that can be read
abbrev pub has_rows : (List ℕ → Option Row) → ℕ → Option (List ℕ) → Bool
has_rows read page p = is_some (each (read_with read) (lying_on page p))

-- the page is one of a heap of so many pages: below them, it goes on as it must, and its rows can be read
unfoldable pub stands : (List ℕ → Option Row) → ℕ → ℕ → Option (List ℕ) → Bool
stands read used page p = nat_lt page used && (goes_on used page p && has_rows read page p)

-- the rows on the pages of a heap, each with its place
unfoldable pub heap_rows : RelFile → Image → Option Placed
heap_rows file m = placed_on (reader file.domains) file.used (pages_of m file.file)

-- The page at this address, of this file, isn't one of a heap, and the pages of the file aren't those of one.
pub record HeapFault (file : RelFile) (m : Image) (a : Addr) : Type 0 where
  pub of_file : a.file ≡ file.file
  pub off : stands (reader file.domains) file.used a.page (m a) ≡ false
  pub none : heap_rows file m ≡ None

-- the page is the one at this address
abbrev pub is_last : Option Addr → Addr → Bool
is_last None a = false
is_last (Some b) a = is_at b a

-- how many pages are read from a place on, each once, where the store gave this page last
abbrev pub pages_ahead : RelFile → Option Addr → Place → ℕ
pages_ahead file last at = (file.used - at.page) - (if is_last last (page_at file.file at.page) then 1 else 0)

-- this fault comes of a page of a heap with these bytes: of damage where a page that has them is at fault, and want of memory
abbrev pub IsOfPage : RelFile → ℕ → List ℕ → BaseFault → Type 0
IsOfPage file number page Disk = ⊥
IsOfPage file number page (Damaged f p) = (m : Image) → m (page_at file.file number) ≡ Some page → HeapFault file m (record { file = f; page = p })
IsOfPage file number page OutOfMemory = Unit {0}

-- this fault comes of a row on a page of a heap: of damage there where these bytes are those of no row, and want of memory
abbrev pub IsOfRow : RelFile → ℕ → List ℕ → BaseFault → Type 0
IsOfRow file number bytes Disk = ⊥
IsOfRow file number bytes (Damaged f p) = (f ≡ file.file) × (p ≡ number) × (reader file.domains bytes ≡ None)
IsOfRow file number bytes OutOfMemory = Unit {0}

-- The file is the same, but made anew as a heap: its first page is the one primary page, and it has no directory.
pub record IsMade (before now : RelFile) : Type 0 where
  pub file : now.file ≡ before.file
  pub spec : now.spec ≡ before.spec
  pub keys : now.keys ≡ before.keys
  pub domains : now.domains ≡ before.domains
  pub primary : now.primary ≡ 1
  pub directory : now.directory ≡ 0
