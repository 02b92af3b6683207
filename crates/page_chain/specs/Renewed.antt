-- What stands on a chain from which rows went, and to which others came.
use Rattle.std.specs.Prelude.{◌≡◌, ℕ, ◌<◌, ◌≤◌, true, false, List, [], ◌∷◌, ◌++◌, Option, Some, None}
use Rattle.std.specs.List.{list_all}
use Rattle.std.specs.List.Sorted.{IsPermutation}
use Rattle.calculus.specs.declared.probe.Place.{Place}
use Rattle.disk_model.specs.Disk.{Image}
use Rattle.page_chain.specs.Chains.{IsChain}
use Rattle.page_chain.specs.Grown.{numbers_to}
use Rattle.page_chain.specs.Lying.{Lying, lying, bytes_of, staying, all_differ, is_among, Came}
use Rattle.page_chain.specs.Pages.{Pages, pages_of}

-- No two rows of the chain are the same, and those that are to go are among them, each listed once.
pub record AllLie (pages : Pages) (numbers : List ℕ) (going : List (List ℕ)) : Type 0 where
  pub rows_differ : all_differ (bytes_of (lying pages numbers)) ≡ true
  pub listed_once : all_differ going ≡ true
  pub are_there : list_all (is_among (bytes_of (lying pages numbers))) going ≡ true

-- The chain of a file, which ended at page `last`, ends at page `now`; these rows went from it and those came, and every other row has the place that it had.
pub record IsRenewed (file bound : ℕ) (earlier : List ℕ) (last now : ℕ) (going coming : List (List ℕ)) (before : Image) (known : Option Image) : Type 0 where
  pub image : Image
  pub still_known : known ≡ Some image
  pub chain : (more : ℕ) → bound ≤ more → now < more → IsChain more (pages_of image file) (earlier ++ numbers_to last now)
  pub came : Came (staying going (lying (pages_of before file) (earlier ++ last ∷ []))) coming (lying (pages_of image file) (earlier ++ numbers_to last now))

-- the row went from this place, and every other row has the place that it had; or there is no such row, and all are as before
abbrev pub WentFrom : Option Place → List ℕ → Lying → Lying → Type 0
WentFrom None row before now = (is_among (bytes_of before) row ≡ false) × (now ≡ before)
WentFrom (Some at) row before now = IsPermutation before ((at, row) ∷ now)

-- The chain of a file is as it was, but that such a row went from it.
pub record TookOne (file bound : ℕ) (numbers : List ℕ) (row : List ℕ) (place : Option Place) (before : Image) (known : Option Image) : Type 0 where
  pub image : Image
  pub still_known : known ≡ Some image
  pub chain : IsChain bound (pages_of image file) numbers
  pub took : WentFrom place row (lying (pages_of before file) numbers) (lying (pages_of image file) numbers)
