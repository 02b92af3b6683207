-- The rows that go and those that come.
use Rattle.std.specs.Prelude.{◌≡◌, ◌+◌, List, length}
use Rattle.calculus.specs.declared.change.Pair.{Pair}
use Rattle.calculus.specs.declared.change.Change.{Change}
use Rattle.calculus.specs.Rows.{Row}
use Rattle.calculus.specs.Replacement.{after, without_rows}

-- the change that the pairs make of these rows, and how many rows it leaves
pub record IsChange (rows : List Row) (ps : List Pair) (change : Change) : Type 0 where
  pub go : change.remove ≡ without_rows (after rows ps) rows
  pub come : change.add ≡ without_rows rows (after rows ps)
  pub left : length rows + length change.add ≡ length (after rows ps) + length change.remove
