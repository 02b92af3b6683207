-- What is said of the answers of a check.
use Rattle.std.specs.Prelude.{ℕ, Result, Ok, Err}
use Rattle.utility_trees.specs.declared.fault.CheckFault.{CheckFault}
use Rattle.utility_trees.specs.declared.fault.CheckFault.TheVariants as fault

-- this of what comes, this of the number that refuses; nothing of a fault of the database or of want of memory
abbrev pub Says : {T : Type 0} → (T → Type 0) → (ℕ → Type 0) → Result T CheckFault → Type 0
Says comes refused (Ok x) = comes x
Says comes refused (Err (fault.No number)) = refused number
Says comes refused (Err (fault.Base cause)) = Unit {0}
Says comes refused (Err fault.OutOfMemory) = Unit {0}
