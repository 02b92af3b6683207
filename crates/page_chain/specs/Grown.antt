-- What stands on a chain that grew, and in a file that was made anew.
use Rattle.std.specs.Prelude.{◌≡◌, ℕ, suc, ◌-◌, ◌<◌, ◌≤◌, List, [], ◌∷◌, ◌++◌, Option, Some}
use Rattle.std.specs.List.Sorted.{IsPermutation}
use Rattle.calculus.specs.declared.probe.Place.{Place}
use Rattle.disk_model.specs.Disk.{Image}
use Rattle.disk_model.specs.declared.disk.Addr.{Addr}
use Rattle.page_chain.specs.Chains.{IsChain, numbers_from}
use Rattle.page_chain.specs.Lying.{lying, bytes_of, Came}
use Rattle.page_chain.specs.Pages.{pages_of}

-- the numbers from one to another
abbrev pub numbers_to : ℕ → ℕ → List ℕ
numbers_to first last = numbers_from (suc last - first) first

-- The chain of a file, which ended at page `last`, ends at page `now`, by each bound that both are below, and has these rows besides.
pub record IsGrown (file bound : ℕ) (earlier : List ℕ) (last now : ℕ) (rows : List (List ℕ)) (before : Image) (known : Option Image) : Type 0 where
  pub image : Image
  pub still_known : known ≡ Some image
  pub chain : (more : ℕ) → bound ≤ more → now < more → IsChain more (pages_of image file) (earlier ++ numbers_to last now)
  pub came : Came (lying (pages_of before file) (earlier ++ last ∷ [])) rows (lying (pages_of image file) (earlier ++ numbers_to last now))

-- It has this row besides, at this place.
pub record IsOneMore (file : ℕ) (earlier : List ℕ) (last : ℕ) (place : Place) (row : List ℕ) (before : Image) (known : Option Image) : Type 0 where
  pub image : Image
  pub still_known : known ≡ Some image
  pub all : IsPermutation (lying (pages_of image file) (earlier ++ numbers_to last place.page)) ((place, row) ∷ lying (pages_of before file) (earlier ++ last ∷ []))

-- The file has so many pages, from page 0 on, one behind the other on a chain, and on them these rows in this order.
pub record IsBuilt (file used : ℕ) (rows : List (List ℕ)) (known : Option Image) : Type 0 where
  pub image : Image
  pub still_known : known ≡ Some image
  pub chain : IsChain used (pages_of image file) (numbers_from used 0)
  pub bytes : bytes_of (lying (pages_of image file) (numbers_from used 0)) ≡ rows

-- no page is at fault
abbrev pub IsNever : Image → Addr → Type 0
IsNever m a = ⊥
