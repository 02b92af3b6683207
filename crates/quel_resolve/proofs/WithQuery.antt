-- Each statement that needs a query is one that causes are asked of.
use Rattle.std.proofs.Common.{◌≡◌, refl, true, false}
use Rattle.calculus.specs.declared.statement.Statement.{Statement}
use Rattle.calculus.specs.declared.statement.Statement.TheVariants as statement
use Rattle.quel_refusals.specs.CheckedStatements.{is_checked}
use Rattle.utility_trees.specs.WithoutQuery.{needs_no_query}

pub checked_if_query : (stmt : Statement) → needs_no_query stmt ≡ false → is_checked stmt ≡ true
checked_if_query (statement.Range var rel) h = refl
checked_if_query (statement.Retrieve into items qual sort) h = refl
checked_if_query (statement.Append rel items qual) h = refl
checked_if_query (statement.Replace var items qual) h = refl
checked_if_query (statement.Delete var qual) h = refl
checked_if_query (statement.Create rel attrs) h = refl
checked_if_query (statement.Destroy rels) h = absurd (cc h)
checked_if_query (statement.DropPermits rel numbers) h = refl
checked_if_query (statement.DropRules rel numbers) h = refl
checked_if_query (statement.Modify rel to keys) h = absurd (cc h)
checked_if_query (statement.Index base name keys) h = absurd (cc h)
checked_if_query (statement.Print rels) h = absurd (cc h)
checked_if_query (statement.Help rel) h = absurd (cc h)
checked_if_query (statement.Copy rel columns from file) h = absurd (cc h)
checked_if_query (statement.View name items qual) h = refl
checked_if_query (statement.Permit ops var attrs user qual) h = refl
checked_if_query (statement.Rule var qual) h = refl
