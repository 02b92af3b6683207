-- Who asks, and for what, as the program says it.
use Rattle.std.specs.Prelude.{ℕ, List, Option, Some, None}
use Rattle.calculus.specs.Who.{Who, Unrestricted, as_user}
use Rattle.calculus.specs.Rights as rights
use Rattle.view_expand.specs.declared.right.Right.{Right}
use Rattle.view_expand.specs.declared.right.Right.TheVariants.{Retrieve, Append, Replace, Delete}

-- whoever is unrestricted, or the user of this name
abbrev pub who_of : Option (List ℕ) → Who
who_of None = Unrestricted
who_of (Some user) = as_user user

-- what may be done
abbrev pub right_of : Right → rights.Right
right_of Retrieve = rights.Retrieve
right_of Append = rights.Append
right_of Replace = rights.Replace
right_of Delete = rights.Delete
