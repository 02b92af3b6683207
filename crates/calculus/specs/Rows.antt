-- Sets of rows, as strictly ascending lists of rows.
use Rattle.std.specs.Prelude.{◌≡◌, ℕ, ◌-◌, ◌≤◌, Bool, List, [], ◌∷◌, length, slice_index_or}
use Rattle.std.specs.List.{insert, list_any}
use Rattle.std.specs.List.Sorted.{IsStrictlySortedBy}
use Rattle.std.specs.Ordering.{eq_by_cmp}
use Rattle.std.specs.declared.cmp.Ordering.TheVariants.{Less, Equal, Greater}
use Rattle.calculus.specs.Value.{row_cmp}
use Rattle.calculus.specs.declared.value.Value.{Value}

-- a row is the list of its values
abbrev pub Row : Type 0
Row = List Value

-- each row is smaller than every row behind it
abbrev pub Ascends : List Row → Type 0
Ascends = IsStrictlySortedBy row_cmp

-- the row is one of these rows
abbrev pub has : List Row → Row → Bool
has rows row = list_any (eq_by_cmp row_cmp row) rows

-- the row put in its place among ascending rows; a row that is there already is not put again
abbrev pub put : Row → List Row → List Row
put row [] = row ∷ []
put row (first ∷ rest) =
    elim (row_cmp row first) [ Less ↦ row ∷ first ∷ rest | Equal ↦ first ∷ rest | Greater ↦ first ∷ put row rest ]

-- the set of these rows
abbrev pub set_of : List Row → List Row
set_of [] = []
set_of (row ∷ rows) = put row (set_of rows)

-- the row is greater than the last one
abbrev pub IsBehind : List Row → Row → Type 0
IsBehind rows row = (none : Row) → row_cmp (slice_index_or rows (length rows - 1) none) row ≡ Less

-- the row belongs at this place
abbrev pub IsPlaceOf : List Row → Row → ℕ → Type 0
IsPlaceOf rows row place = (place ≤ length rows) × (put row rows ≡ insert rows place row)
