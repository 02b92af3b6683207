-- Which statements declare variables, and which change rows.
use Rattle.std.specs.Prelude.{Bool, true, false}
use Rattle.calculus.specs.declared.statement.Statement.{Statement}
use Rattle.calculus.specs.declared.statement.Statement.TheVariants as statement

-- a declaration of a variable
abbrev pub is_range : Statement → Bool
is_range (statement.Range var rel) = true
is_range _ = false

-- a statement that appends, replaces or deletes
abbrev pub changes_rows : Statement → Bool
changes_rows (statement.Append rel items qual) = true
changes_rows (statement.Replace var items qual) = true
changes_rows (statement.Delete var qual) = true
changes_rows _ = false
