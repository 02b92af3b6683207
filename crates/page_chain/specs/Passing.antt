-- A pass over the pages of a chain in which rows go and others come.
use Rattle.std.specs.Prelude.{◌≡◌, ℕ, ◌+◌, true, false, List, length, Option, Some, option_map}
use Rattle.disk_model.specs.Disk.{Image}
use Rattle.disk_model.specs.declared.disk.Addr.{Addr}
use Rattle.am_traits.specs.Pages.{SameElsewhere}
use Rattle.page_chain.specs.Chains.{IsChain, is_on, starts}
use Rattle.page_chain.specs.Lying.{Lying, Came, all_differ, bytes_of, lying, lying_on, place_of, staying}
use Rattle.page_chain.specs.Pages.{page_at, pages_of, next_of}
use Rattle.page_chain.specs.Renewed.{AllLie, WentFrom}

-- The page at this address is that page of the file, and isn't one of a chain that ends at page `last`.
pub record OffChain (file page bound last : ℕ) (m : Image) (a : Addr) : Type 0 where
  pub of_file : a.file ≡ file
  pub of_page : a.page ≡ page
  pub off : is_on bound last page (m a) ≡ false

-- So many rows went, and these came; every other row has the place that it had.
pub record Changed (going coming : List (List ℕ)) (gone : ℕ) (before now : Lying) : Type 0 where
  pub came : Came (staying going before) coming now
  pub went : gone + length (staying going before) ≡ length before

-- On one page of a file so many rows went, and these came. The chain goes on from it to the same page, and every other page is the same.
pub record PageRenewed (file bound page : ℕ) (going coming : List (List ℕ)) (gone next : ℕ) (before : Image) (known : Option Image) : Type 0 where
  pub image : Image
  pub still_known : known ≡ Some image
  pub elsewhere : (b : Addr) → (b ≡ page_at file page → ⊥) → image b ≡ before b
  pub goes_on : next_of bound page (before (page_at file page)) ≡ Some next
  pub goes_on_still : next_of bound page (image (page_at file page)) ≡ Some next
  pub changed : Changed going coming gone (lying_on page (before (page_at file page))) (lying_on page (image (page_at file page)))

-- From each chain of a file on which the rows that are to go are once, they went, so many, and these came to it; where so many went, no two rows of the chain being the same, all that were to go were on it. The chain is the same, and so are the pages of all other files.
pub record Passed (file bound : ℕ) (going coming : List (List ℕ)) (gone : ℕ) (before : Image) (known : Option Image) : Type 0 where
  pub image : Image
  pub still_known : known ≡ Some image
  pub elsewhere : SameElsewhere file before image
  pub links : (k : ℕ) → next_of bound k (image (page_at file k)) ≡ next_of bound k (before (page_at file k))
  pub number : (numbers : List ℕ) → starts numbers ≡ true → IsChain bound (pages_of before file) numbers → AllLie (pages_of before file) numbers going
      → gone ≡ length going
  pub all : (numbers : List ℕ) → starts numbers ≡ true → IsChain bound (pages_of before file) numbers → gone ≡ length going → all_differ (bytes_of (lying (pages_of before file) numbers)) ≡ true → all_differ going ≡ true
      → AllLie (pages_of before file) numbers going
  pub came : (numbers : List ℕ) → starts numbers ≡ true → IsChain bound (pages_of before file) numbers → AllLie (pages_of before file) numbers going
      → Came (staying going (lying (pages_of before file) numbers)) coming (lying (pages_of image file) numbers)

-- Such a row went from a line of one page of a file, or there is none such. The chain goes on from the page as before, and every other page is the same.
pub record PageTook (file bound page : ℕ) (row : List ℕ) (line : Option ℕ) (next : ℕ) (before : Image) (known : Option Image) : Type 0 where
  pub image : Image
  pub still_known : known ≡ Some image
  pub elsewhere : (b : Addr) → (b ≡ page_at file page → ⊥) → image b ≡ before b
  pub goes_on : next_of bound page (before (page_at file page)) ≡ Some next
  pub goes_on_still : next_of bound page (image (page_at file page)) ≡ Some next
  pub took : WentFrom (option_map (place_of page) line) row (lying_on page (before (page_at file page))) (lying_on page (image (page_at file page)))
