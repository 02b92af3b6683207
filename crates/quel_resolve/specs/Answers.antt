-- What is said of what a statement asks for.
use Rattle.std.specs.Prelude.{◌≡◌, ℕ, List, Result, Ok, Err}
use Rattle.calculus.specs.Database.{Db}
use Rattle.calculus.specs.declared.request.Checked.{Checked}
use Rattle.calculus.specs.declared.statement.Statement.{Statement}
use Rattle.quel_meaning.specs.Ranges.{Ranges}
use Rattle.quel_meaning.specs.Resolved.{resolved}
use Rattle.utility_trees.specs.Answers.{Says}
use Rattle.utility_trees.specs.declared.fault.CheckFault.{CheckFault}

-- what comes of a statement: what it is resolved to, which is its tree, or the number that refuses it
abbrev pub Resolves : Db → List ℕ → Ranges → Statement → Result Checked CheckFault → Type 0
Resolves db user ranges s result = Says (λ tree. resolved db user ranges s ≡ Ok tree) (λ number. resolved db user ranges s ≡ Err number) result
