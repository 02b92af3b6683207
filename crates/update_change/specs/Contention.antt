-- Old rows with different new rows.
use Rattle.std.specs.Prelude.{◌≡◌, List, [], ◌∷◌, take, filter, Option, Some, None, IsTrue, IsFalse}
use Rattle.std.specs.List.{Contains}
use Rattle.std.specs.declared.cmp.Ordering.TheVariants.{Less}
use Rattle.calculus.specs.declared.change.Pair.{Pair}
use Rattle.calculus.specs.Rows.{Row, set_of}
use Rattle.calculus.specs.Replacement.{new_rows, has_old, some_differ, contended}
use Rattle.calculus.specs.Value.{row_cmp}
use Rattle.update_change.specs.declared.contention.Contention.{Contention}

-- the pair that replaces the one row by the other
abbrev pub replacing : Row → Row → Pair
replacing old new = record { old = Some old; new = Some new }

-- the new rows that the pairs give this old row
abbrev pub new_rows_of : List Pair → Row → List Row
new_rows_of ps old = new_rows (filter (has_old old) ps)

-- the least old row with different new rows, and the two least of these, ascending
pub record IsLeastContention (ps : List Pair) (old first second : Row) : Type 0 where
  pub first_is_there : Contains ps (replacing old first)
  pub second_is_there : Contains ps (replacing old second)
  pub they_differ : row_cmp first second ≡ Less
  pub least_new : take 2 (set_of (new_rows_of ps old)) ≡ first ∷ second ∷ []
  pub least_old : (other : Row) → row_cmp other old ≡ Less → IsFalse (some_differ (new_rows_of ps other))

-- what was found where there is a contention, and where there is none
abbrev pub IsFound : List Pair → Option Contention → Type 0
IsFound ps None = IsFalse (contended ps)
IsFound ps (Some c) = IsTrue (contended ps) × IsLeastContention ps c.old c.first c.second
