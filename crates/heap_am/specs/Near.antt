-- Pages of a file on which rows that go are looked for first, and what was done on them.
use Rattle.std.specs.Prelude.{◌≡◌, ℕ, suc, ◌+◌, ◌<◌, ◌≤◌, List, [], ◌∷◌, length, Option, Some}
use Rattle.std.specs.List.{AllByRecursion}
use Rattle.disk_model.specs.Disk.{Image}
use Rattle.am_traits.specs.Pages.{SameElsewhere}
use Rattle.page_chain.specs.Lying.{Came, lying, staying}
use Rattle.page_chain.specs.Pages.{page_at, pages_of, next_of}

-- these numbers rise, from one on, and are below another
abbrev pub IsRising : ℕ → ℕ → List ℕ → Type 0
IsRising from bound [] = Unit {0}
IsRising from bound (n ∷ ns) = (from ≤ n) × (n < bound) × IsRising (suc n) bound ns

-- On these pages of a file the rows that are to go went, and these came. Each page goes on to the same one, and every other page is the same.
pub record IsDoneOn (file bound : ℕ) (numbers : List ℕ) (going coming : List (List ℕ)) (before : Image) (known : Option Image) : Type 0 where
  pub image : Image
  pub still_known : known ≡ Some image
  pub elsewhere : SameElsewhere file before image
  pub links : (k : ℕ) → next_of bound k (image (page_at file k)) ≡ next_of bound k (before (page_at file k))
  pub others : (k : ℕ) → AllByRecursion (λ n. n ≡ k → ⊥) numbers → image (page_at file k) ≡ before (page_at file k)
  pub came : Came (staying going (lying (pages_of before file) numbers)) coming (lying (pages_of image file) numbers)

-- On some pages below the bound lie as many rows that are to go as are listed; they went, and these came there.
pub record IsDoneNear (file bound : ℕ) (going coming : List (List ℕ)) (before : Image) (known : Option Image) : Type 0 where
  pub numbers : List ℕ
  pub rising : IsRising 0 bound numbers
  pub all : length going + length (staying going (lying (pages_of before file) numbers)) ≡ length (lying (pages_of before file) numbers)
  pub done : IsDoneOn file bound numbers going coming before known
