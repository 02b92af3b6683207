-- What a statement changes, and which statements have trees.
use Rattle.std.specs.Prelude.{◌≡◌, ◌≤◌, ℕ, Bool, true, false, List, length, Option, None, is_some}
use Rattle.calculus.specs.declared.query.Query.{Query}
use Rattle.calculus.specs.declared.schema.RelInfo.{RelInfo}
use Rattle.calculus.specs.declared.statement.Statement.{Statement}
use Rattle.calculus.specs.declared.statement.Statement.TheVariants as statement
use Rattle.calculus.specs.QueryParts.{targets_of}
use Rattle.calculus.specs.Stored.{attrs_in}
use Rattle.quel_meaning.specs.Scope.{Scope, named, ranged}

-- what is known of what a statement changes: of the relation that gains rows, or whose permits or rules go, or of what the variable ranges over whose rows are replaced or deleted, or that gets a permit or a rule
abbrev pub changed : Scope → Statement → Option RelInfo
changed s (statement.Append rel items qual) = named s rel
changed s (statement.Replace var items qual) = ranged s var
changed s (statement.Delete var qual) = ranged s var
changed s (statement.DropPermits rel numbers) = named s rel
changed s (statement.DropRules rel numbers) = named s rel
changed s (statement.Permit ops var attrs user qual) = ranged s var
changed s (statement.Rule var qual) = ranged s var
changed s _ = None

-- a statement that changes this defines permits or rules or takes them away, and what it changes is there
abbrev pub restricts : Statement → Option RelInfo → Bool
restricts (statement.DropPermits rel numbers) target = is_some target
restricts (statement.DropRules rel numbers) target = is_some target
restricts (statement.Permit ops var attrs user qual) target = is_some target
restricts (statement.Rule var qual) target = is_some target
restricts _ target = false

-- a statement that changes this is one of those that have trees: `retrieve`, `create`, a view, and those that append, replace, delete or restrict where what they change is there
abbrev pub is_built : Statement → Option RelInfo → Bool
is_built (statement.Retrieve into items qual sort) target = true
is_built (statement.Create rel attrs) target = true
is_built (statement.Append rel items qual) target = is_some target
is_built (statement.Replace var items qual) target = is_some target
is_built (statement.Delete var qual) target = is_some target
is_built (statement.View name items qual) target = true
is_built (statement.DropPermits rel numbers) target = is_some target
is_built (statement.DropRules rel numbers) target = is_some target
is_built (statement.Permit ops var attrs user qual) target = is_some target
is_built (statement.Rule var qual) target = is_some target
is_built _ target = false

-- the user's statement changes this, and there are so few attributes and targets that each place is a byte
pub record Suits (scope : Scope) (user : List ℕ) (s : Statement) (q : Query) (target : Option RelInfo) : Type 0 where
  pub user_is : scope.user ≡ user
  pub target_is : changed scope s ≡ target
  pub few_attrs : length (attrs_in target) ≤ 256
  pub few_targets : length (targets_of q) ≤ 256
