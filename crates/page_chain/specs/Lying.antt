-- The rows that lie on pages, as bytes, each with its place.
use Rattle.std.specs.Prelude.{◌≡◌, ℕ, suc, ◌<◌, ◌≤◌, bytes_eq, not, Bool, List, [], ◌∷◌, ◌++◌, map, filter, length, Option, Some, None}
use Rattle.std.specs.List.{flat_map, list_any}
use Rattle.std.specs.List.Sorted.{IsPermutation}
use Rattle.calculus.specs.declared.probe.Place.{Place}
use Rattle.calculus.specs.Lists.{differ_by}
use Rattle.page_cells.specs.Page.{Slot, slots}
use Rattle.page_chain.specs.Pages.{Pages}

-- rows as bytes, each with its place
abbrev pub Lying : Type 0
Lying = List (Place × List ℕ)

-- the place of a line of a page
abbrev pub place_of : ℕ → ℕ → Place
place_of page line = record { page = page; line = line }

-- the rows in slots of a page, of which the first has this line
abbrev pub lying_in : ℕ → ℕ → List Slot → Lying
lying_in page line [] = []
lying_in page line (None ∷ slots) = lying_in page (suc line) slots
lying_in page line (Some row ∷ slots) = (place_of page line, row) ∷ lying_in page (suc line) slots

-- the rows that stand on a page of this number
unfoldable pub lying_on : ℕ → Option (List ℕ) → Lying
lying_on page None = []
lying_on page (Some p) = lying_in page 0 (slots p)

-- the rows that stand on pages of a file
unfoldable pub lying : Pages → List ℕ → Lying
lying pages numbers = flat_map (λ n. lying_on n (pages n)) numbers

-- the bytes of rows alone
abbrev pub bytes_of : Lying → List (List ℕ)
bytes_of rows = map (λ r. r.1) rows

-- a row of so many bytes has room on a page
pub record IsShort (row : List ℕ) : Type 0 where
  pub some : 0 < length row
  pub most : length row ≤ 1012

-- the row is one of these
abbrev pub is_among : List (List ℕ) → List ℕ → Bool
is_among rows row = list_any (bytes_eq row) rows

-- the rows that stay where these go
abbrev pub staying : List (List ℕ) → Lying → Lying
staying going rows = filter (λ r. not (is_among going r.1)) rows

-- These rows came to the others, each of which has the place that it had.
pub record Came (before : Lying) (coming : List (List ℕ)) (now : Lying) : Type 0 where
  pub new : Lying
  pub bytes : bytes_of new ≡ coming
  pub all : IsPermutation now (before ++ new)

-- no two of these rows are the same
abbrev pub all_differ : List (List ℕ) → Bool
all_differ = differ_by bytes_eq
