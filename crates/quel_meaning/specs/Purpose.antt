-- What statements and trees are for, and which numbers may refuse a statement.
use Rattle.std.specs.Prelude.{ℕ, List, [], ◌∷◌, length, Some, None}
use Rattle.calculus.specs.declared.request.UpdateOp.{UpdateOp}
use Rattle.calculus.specs.declared.request.UpdateOp.TheVariants as op
use Rattle.calculus.specs.declared.request.Checked.{Checked}
use Rattle.calculus.specs.declared.request.Checked.TheVariants as checked
use Rattle.calculus.specs.declared.statement.Statement.{Statement}
use Rattle.calculus.specs.declared.statement.Statement.TheVariants as statement

-- to print so many tables, to update a relation, or to be worked at by the utilities
pub data Purpose : Type 0 where
  Prints : ℕ → Purpose
  Updates : UpdateOp → Purpose
  Serves : Purpose

-- what a tree is for
unfoldable pub purpose_of : Checked → Purpose
purpose_of (checked.Answer asked) = Prints (length asked)
purpose_of (checked.Update update) = Updates update.op
purpose_of (checked.Utility request) = Serves

-- what a statement is for; the declaration of a variable prints nothing
unfoldable pub purpose : Statement → Purpose
purpose (statement.Range var rel) = Prints 0
purpose (statement.Retrieve None items qual sort) = Prints 1
purpose (statement.Retrieve (Some name) items qual sort) = Updates op.Into
purpose (statement.Append rel items qual) = Updates op.Append
purpose (statement.Replace var items qual) = Updates op.Replace
purpose (statement.Delete var qual) = Updates op.Delete
purpose (statement.Print rels) = Prints (length rels)
purpose (statement.Help rel) = Prints 1
purpose _ = Serves

-- the numbers of what may refuse a statement whose names were found, in the order in which they count
unfoldable pub refusal_numbers : Statement → List ℕ
refusal_numbers (statement.Range var rel) = []
refusal_numbers (statement.Retrieve None items qual sort) = 18 ∷ 14 ∷ 13 ∷ 12 ∷ 16 ∷ []
refusal_numbers (statement.Retrieve (Some name) items qual sort) = 18 ∷ 14 ∷ 17 ∷ 13 ∷ 12 ∷ 16 ∷ 15 ∷ []
refusal_numbers (statement.Append rel items qual) = 18 ∷ 14 ∷ 17 ∷ 13 ∷ 28 ∷ 26 ∷ []
refusal_numbers (statement.Replace var items qual) = 18 ∷ 14 ∷ 17 ∷ 13 ∷ 28 ∷ 26 ∷ []
refusal_numbers (statement.Delete var qual) = 18 ∷ 14 ∷ 13 ∷ 28 ∷ 26 ∷ []
refusal_numbers (statement.Create rel attrs) = 14 ∷ 17 ∷ 16 ∷ 15 ∷ []
refusal_numbers (statement.Destroy rels) = 17 ∷ []
refusal_numbers (statement.DropPermits rel numbers) = []
refusal_numbers (statement.DropRules rel numbers) = []
refusal_numbers (statement.Modify rel to keys) = 17 ∷ []
refusal_numbers (statement.Index base name keys) = 17 ∷ 14 ∷ 15 ∷ []
refusal_numbers (statement.Print rels) = []
refusal_numbers (statement.Help rel) = []
refusal_numbers (statement.Copy rel columns from file) = 17 ∷ 13 ∷ []
refusal_numbers (statement.View name items qual) = 18 ∷ 14 ∷ 17 ∷ 13 ∷ 16 ∷ 15 ∷ []
refusal_numbers (statement.Permit ops var attrs user qual) = 18 ∷ 14 ∷ 13 ∷ []
refusal_numbers (statement.Rule var qual) = 18 ∷ 14 ∷ 13 ∷ []
