-- Which way a utility copies, and what comes of it.
use Rattle.std.specs.Prelude.{◌≡◌, ℕ, Bool, List}
use Rattle.calculus.specs.declared.request.CopyCol.{CopyCol}
use Rattle.calculus.specs.declared.request.Utility.{Utility}
use Rattle.calculus.specs.declared.request.Utility.TheVariants.{Copy}
use Rattle.calculus.specs.declared.query.RelKey.{RelKey}

-- the utility copies rows of this relation by these columns from the file that the constant names, or into it
pub record IsCopy (u : Utility) (from : Bool) : Type 0 where
  pub rel : RelKey
  pub columns : List CopyCol
  pub constant : List ℕ
  pub is : u ≡ Copy rel columns from constant
