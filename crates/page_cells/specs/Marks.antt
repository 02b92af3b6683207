-- Flags for the bytes of a page, as its lines are gone through.
use Rattle.std.specs.Prelude.{◌≡◌, ℕ, ◌+◌, ◌<◌, ◌≤◌, Bool, true, false, List, slice_index_or}
use Rattle.page_cells.specs.Page.{low, offset, size, IsInRow}

-- the rows of the first n lines lie where rows may lie, no byte belongs to two of them, and a byte is flagged where
-- it belongs to one
pub record Marks (p : List ℕ) (n : ℕ) (flags : List Bool) : Type 0 where
  pub within : (k : ℕ) → k < n → 0 < size p k → (low p ≤ offset p k) × (offset p k + size p k ≤ 1024)
  pub apart : (j k i : ℕ) → j < n → k < n → IsInRow p j i → IsInRow p k i → j ≡ k
  pub flagged : (k i : ℕ) → k < n → IsInRow p k i → slice_index_or flags i false ≡ true
  pub only : (i : ℕ) → slice_index_or flags i false ≡ true → (k : ℕ) × (k < n) × IsInRow p k i
