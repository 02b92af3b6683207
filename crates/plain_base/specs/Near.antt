-- Rows that are looked for near a place.
use Rattle.std.specs.Prelude.{◌≡◌, ℕ, ◌<◌, List, length, slice_index_or}
use Rattle.std.specs.declared.cmp.Ordering.TheVariants.{Less}
use Rattle.calculus.specs.Rows.{Row}
use Rattle.calculus.specs.Value.{row_cmp}

-- at this place stands a row that is less than the row
abbrev pub IsLessAt : List Row → Row → ℕ → Type 0
IsLessAt rows row place = (place < length rows) × ((d : Row) → row_cmp (slice_index_or rows place d) row ≡ Less)
