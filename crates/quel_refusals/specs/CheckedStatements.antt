-- Which statements are checked here, and the updates that they are.
use Rattle.std.specs.Prelude.{◌≡◌, ℕ, List, Bool, true, false, Option, Some, None}
use Rattle.calculus.specs.declared.query.Query.{Query}
use Rattle.calculus.specs.declared.request.Update.{Update}
use Rattle.calculus.specs.declared.schema.RelInfo.{RelInfo}
use Rattle.calculus.specs.declared.statement.Statement.{Statement}
use Rattle.calculus.specs.declared.statement.Statement.TheVariants as statement
use Rattle.quel_meaning.specs.Scope.{Scope, ranged}
use Rattle.quel_meaning.specs.StatementUpdate.{append_of, replace_of, delete_of}

-- the statement declares a variable, retrieves, appends, replaces, deletes, creates, defines a view, a permit or a rule, or takes permits or rules away
abbrev pub is_checked : Statement → Bool
is_checked (statement.Range var rel) = true
is_checked (statement.Retrieve into items qual sort) = true
is_checked (statement.Append rel items qual) = true
is_checked (statement.Replace var items qual) = true
is_checked (statement.Delete var qual) = true
is_checked (statement.Create rel attrs) = true
is_checked (statement.DropPermits rel numbers) = true
is_checked (statement.DropRules rel numbers) = true
is_checked (statement.View name items qual) = true
is_checked (statement.Permit ops var attrs user qual) = true
is_checked (statement.Rule var qual) = true
is_checked _ = false

-- the update that a statement with this query is; none where it appends, replaces and deletes nothing
abbrev pub update_of : Scope → Statement → Query → Option Update
update_of s (statement.Append rel items qual) q = Some (append_of s rel q)
update_of s (statement.Replace var items qual) q = Some (replace_of s var q)
update_of s (statement.Delete var qual) q = Some (delete_of s var q)
update_of s _ q = None

-- the variable ranges over something, of which this is known
abbrev pub IsOver : Scope → List ℕ → Option RelInfo → Type 0
IsOver s var None = true ≡ false
IsOver s var (Some info) = ranged s var ≡ Some info

-- where the statement defines a permit or a rule, its variable ranges over something, of which this is known
abbrev pub IsOn : Scope → Statement → Option RelInfo → Type 0
IsOn s (statement.Permit ops var attrs user qual) on = IsOver s var on
IsOn s (statement.Rule var qual) on = IsOver s var on
IsOn s _ on = Unit {0}
