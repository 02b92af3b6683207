-- When a check may answer a fault of the database.
use Rattle.std.specs.Prelude.{◌≡◌, ℕ, ◌≤◌, Option, Result, Ok, Err}
use Rattle.base_trait.specs.Causes.{MayCome}
use Rattle.calculus.specs.Database.{Db}
use Rattle.utility_trees.specs.declared.fault.CheckFault.{CheckFault}
use Rattle.utility_trees.specs.declared.fault.CheckFault.TheVariants as fault

-- an answer, a number or want of memory where the count stayed, or a fault of the database that may come
abbrev pub IsCaused : {T : Type 0} → Option Db → ℕ → ℕ → Result T CheckFault → Type 0
IsCaused known before now (Ok x) = now ≡ before
IsCaused known before now (Err (fault.No number)) = now ≡ before
IsCaused known before now (Err (fault.Base cause)) = MayCome known before now cause
IsCaused known before now (Err fault.OutOfMemory) = now ≡ before

-- the count of faults never falls, anything but a fault of the database comes only where it stayed, and such a fault only where it may
pub record HasCheckCause {T : Type 0} (known : Option Db) (before now : ℕ) (result : Result T CheckFault) : Type 0 where
  pub later : before ≤ now
  pub caused : IsCaused known before now result
