-- Rows with their places.
use Rattle.std.specs.Prelude.{◌≡◌, ℕ, ◌+◌, ◌==◌, ◌&&◌, ◌||◌, nat_lt, nat_le, not, Bool, false, List, ◌∷◌, ◌++◌, map, filter, find, Option, Some, None, option_map, Result, Ok, Err}
use Rattle.std.specs.List.Sorted.{IsPermutation}
use Rattle.std.specs.Ordering.{eq_by_cmp}
use Rattle.calculus.specs.Lists.{differ_by}
use Rattle.calculus.specs.Rows.{Row, has}
use Rattle.calculus.specs.Value.{row_cmp}
use Rattle.calculus.specs.declared.probe.Place.{Place}
use Rattle.disk_model.specs.Disk.{Image}
use Rattle.base_trait.specs.declared.fault.BaseFault.{BaseFault}
use Rattle.calculus.specs.declared.schema.RelFile.{RelFile}

-- rows, each with its place
abbrev pub Placed : Type 0
Placed = List (Place × Row)

-- the rows alone
abbrev pub rows_of : Placed → List Row
rows_of placed = map (λ p. p.1) placed

-- no two of these rows are the same
abbrev pub rows_differ : List Row → Bool
rows_differ = differ_by (eq_by_cmp row_cmp)

-- the same place
abbrev pub is_place : Place → Place → Bool
is_place a b = a.page == b.page && a.line == b.line

-- the row with this place
abbrev pub row_with : Placed → Place → Option Row
row_with placed at = option_map (λ p. p.1) (find (λ p. is_place p.0 at) placed)

-- the place is this one or lies behind it
abbrev pub is_from : Place → Place → Bool
is_from at place = nat_lt at.page place.page || (at.page == place.page && nat_le at.line place.line)

-- the rows from a place on
abbrev pub rows_from : Placed → Place → List Row
rows_from placed at = rows_of (filter (λ p. is_from at p.0) placed)

-- a row that was given stands in the line before this place
abbrev pub StoodBefore : Placed → Place → Option Row → Type 0
StoodBefore placed now None = Unit {0}
StoodBefore placed now (Some row) = (line : ℕ) × (now.line ≡ line + 1) × (row_with placed (record { page = now.page; line = line }) ≡ Some row)

-- what a call of a scan says of the row that it gives
abbrev pub GivesBefore : Placed → Place → Result (Option Row) BaseFault → Type 0
GivesBefore placed now (Ok answer) = StoodBefore placed now answer
GivesBefore placed now (Err fault) = Unit {0}

-- The file is the same but for the number of its pages.
pub record SameButUsed (before now : RelFile) : Type 0 where
  pub file : now.file ≡ before.file
  pub spec : now.spec ≡ before.spec
  pub keys : now.keys ≡ before.keys
  pub domains : now.domains ≡ before.domains
  pub primary : now.primary ≡ before.primary
  pub directory : now.directory ≡ before.directory

-- The pages are still known, and the rows on them are now these.
pub record NowHolds (placed : Image → Option Placed) (known : Option Image) (P : Placed → Type 0) : Type 0 where
  pub image : Image
  pub rows : Placed
  pub still_known : known ≡ Some image
  pub are : placed image ≡ Some rows
  pub so : P rows

-- this row came at this place, and every other row has the place that it had
abbrev pub Added : Placed → Place → Row → Placed → Type 0
Added before at row now = IsPermutation now ((at, row) ∷ before)

-- none of the rows was this one, and all are as before; or it went from this place, and every other row has the place that it had
abbrev pub Removed : Placed → Option Place → Row → Placed → Type 0
Removed before None row now = (has (rows_of before) row ≡ false) × (now ≡ before)
Removed before (Some at) row now = IsPermutation before ((at, row) ∷ now)

-- These rows went and those came, and every other row has the place that it had.
pub record Replaced (before : Placed) (going coming : List Row) (now : Placed) : Type 0 where
  pub new : Placed
  pub came : IsPermutation coming (rows_of new)
  pub all : IsPermutation now (filter (λ p. not (has going p.1)) before ++ new)
