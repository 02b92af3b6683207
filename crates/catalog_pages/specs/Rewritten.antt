-- What stands on the chain of one file when rows of it went and others came.
use Rattle.std.specs.Prelude.{◌≡◌, ℕ, true, List, [], ◌∷◌, ◌++◌, Option, Some}
use Rattle.am_traits.specs.Pages.{SameElsewhere}
use Rattle.disk_model.specs.Disk.{Image}
use Rattle.page_chain.specs.Chains.{IsChain, starts}
use Rattle.page_chain.specs.Grown.{numbers_to}
use Rattle.page_chain.specs.Lying.{lying, staying, Came}
use Rattle.page_chain.specs.Pages.{pages_of}
use Rattle.page_chain.specs.Renewed.{AllLie}
use Rattle.stored_database.specs.Catalogue.{most_pages}

-- The chain ends at page `now`; these rows went from it and those came, and every other row has the place that it had.
pub record OnChain (file : ℕ) (earlier : List ℕ) (last now : ℕ) (going coming : List (List ℕ)) (before image : Image) : Type 0 where
  pub chain : IsChain most_pages (pages_of image file) (earlier ++ numbers_to last now)
  pub came : Came (staying going (lying (pages_of before file) (earlier ++ last ∷ []))) coming (lying (pages_of image file) (earlier ++ numbers_to last now))

-- The pages are still known, and those of other files are the same; so it is on the chain of this file that ended at page `last`, where the rows that were to go are on it.
pub record IsRewritten (file last now : ℕ) (going coming : List (List ℕ)) (before : Image) (known : Option Image) : Type 0 where
  pub image : Image
  pub still_known : known ≡ Some image
  pub elsewhere : SameElsewhere file before image
  pub on_chain : (earlier : List ℕ) → starts (earlier ++ last ∷ []) ≡ true → IsChain most_pages (pages_of before file) (earlier ++ last ∷ [])
      → AllLie (pages_of before file) (earlier ++ last ∷ []) going → OnChain file earlier last now going coming before image
