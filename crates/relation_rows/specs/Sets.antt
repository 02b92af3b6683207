-- The rows on the pages of a file, and the set of them.
use Rattle.std.specs.Prelude.{◌≡◌, ℕ, true, IsTrue, List, All, Option, Some}
use Rattle.calculus.specs.declared.value.Domain.{Domain}
use Rattle.calculus.specs.Rows.{Row, has}
use Rattle.disk_model.specs.Disk.{Image}
use Rattle.disk_model.specs.declared.disk.Addr.{Addr}
use Rattle.am_traits.specs.Placed.{Placed, rows_of, rows_differ}
use Rattle.calculus.specs.declared.schema.RelFile.{RelFile}
use Rattle.page_chain.specs.Pages.{pages_of}
use Rattle.page_chain.specs.Rows.{reader, set_on}
use Rattle.heap_am.specs.Heap.{heap_rows}

-- The pages are known, and on those of this file, so many, are these rows.
pub record HasSet (domains : List Domain) (file used : ℕ) (rows : List Row) (known : Option Image) : Type 0 where
  pub image : Image
  pub still_known : known ≡ Some image
  pub are : set_on (reader domains) used (pages_of image file) ≡ Some rows

-- The pages of the file hold no set in which these rows are, each listed once.
abbrev pub HasNoneOf : RelFile → List Row → Image → Addr → Type 0
HasNoneOf file remove m a = (rows : List Row) → set_on (reader file.domains) file.used (pages_of m file.file) ≡ Some rows
    → rows_differ remove ≡ true → All (λ row. IsTrue (has rows row)) remove → ⊥

-- The pages are those of a heap, and these are its rows, in the order of their places.
pub record IsRead (file : RelFile) (m : Image) (found : List Row) : Type 0 where
  pub placed : Placed
  pub on_pages : heap_rows file m ≡ Some placed
  pub rows : found ≡ rows_of placed
