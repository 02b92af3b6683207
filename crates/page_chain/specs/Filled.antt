-- Rows laid on pages one behind the other, from a page of a file on.
use Rattle.std.specs.Prelude.{◌≡◌, ℕ, ◌+◌, ◌<◌, ◌≤◌, List, [], ◌∷◌, ◌++◌, map, Option, Some}
use Rattle.std.specs.List.Sorted.{IsPermutation}
use Rattle.calculus.specs.declared.probe.Place.{Place}
use Rattle.disk_model.specs.Disk.{Image}
use Rattle.am_traits.specs.Pages.{SameElsewhere, with_page}
use Rattle.page_cells.specs.Page.{IsPage, next_page, slots}
use Rattle.page_chain.specs.Chains.{IsChain}
use Rattle.page_chain.specs.Grown.{numbers_to}
use Rattle.page_chain.specs.Lying.{Lying, lying, lying_in, bytes_of, Came}
use Rattle.page_chain.specs.Pages.{page_at, pages_of}

-- each line of the page has a row, and they are these
abbrev pub HasOnly : List ℕ → List (List ℕ) → Type 0
HasOnly p rows = slots p ≡ map Some rows

-- These rows came on a page; behind those that were there, where no line was empty.
pub record IsFilled (before : List ℕ) (rows : List (List ℕ)) (now : List ℕ) : Type 0 where
  pub came : (n : ℕ) → Came (lying_in n 0 (slots before)) rows (lying_in n 0 (slots now))
  pub behind : (old : List (List ℕ)) → HasOnly before old → HasOnly now (old ++ rows)

-- The pages of a file from `first` to `now` are a chain, on which these rows came to those of page `first`; behind them, where that page had no empty line. The pages before them, and those of other files, are the same.
pub record IsLaid (file first now : ℕ) (new : Lying) (before after : Image) : Type 0 where
  pub forth : first ≤ now
  pub elsewhere : SameElsewhere file before after
  pub earlier : (n : ℕ) → n < first → after (page_at file n) ≡ before (page_at file n)
  pub chain : (more : ℕ) → now < more → IsChain more (pages_of after file) (numbers_to first now)
  pub came : IsPermutation (lying (pages_of after file) (numbers_to first now)) (lying (pages_of before file) (first ∷ []) ++ new)
  pub behind : (p : List ℕ) (old : List (List ℕ)) → before (page_at file first) ≡ Some p → HasOnly p old
      → bytes_of (lying (pages_of after file) (numbers_to first now)) ≡ old ++ bytes_of new

-- With the page in hand at its place, some of the rows are laid; the others are left.
pub record InHand (file first at : ℕ) (page : List ℕ) (left rows : List (List ℕ)) (before : Image) (known : Option Image) : Type 0 where
  pub image : Image
  pub still_known : known ≡ Some image
  pub new : Lying
  pub all : bytes_of new ++ left ≡ rows
  pub laid : IsLaid file first at new before (with_page (page_at file at) page image)

-- The pages are still known, and these rows are laid.
pub record KnownLaid (file first now : ℕ) (rows : List (List ℕ)) (before : Image) (known : Option Image) : Type 0 where
  pub image : Image
  pub still_known : known ≡ Some image
  pub new : Lying
  pub bytes : bytes_of new ≡ rows
  pub laid : IsLaid file first now new before image

-- The pages are still known, and the page at this place has these slots and goes on to the next.
pub record IsLinked (file at : ℕ) (page : List ℕ) (before : Image) (known : Option Image) : Type 0 where
  pub linked : List ℕ
  pub is_page : IsPage linked
  pub same_slots : slots linked ≡ slots page
  pub goes_on : next_page linked ≡ at + 1
  pub still_known : known ≡ Some (with_page (page_at file at) linked before)

-- The pages are still known, and this row is laid at this place.
pub record OneLaid (file last : ℕ) (place : Place) (row : List ℕ) (before : Image) (known : Option Image) : Type 0 where
  pub image : Image
  pub still_known : known ≡ Some image
  pub laid : IsLaid file last place.page ((place, row) ∷ []) before image
