-- When a database isn't made, or isn't opened.
use Rattle.std.specs.Prelude.{◌≡◌, ℕ, ◌≤◌, Result, IsErrOf}
use Rattle.fault_io.specs.Causes.{Rose}
use Rattle.db_disk.specs.declared.fault.CreateFault.{CreateFault}
use Rattle.db_disk.specs.declared.fault.CreateFault.TheVariants.{Disk}

-- The count of faults never falls; a fault of the disk comes only where it rose, and any other answer only where it stayed.
pub record FailsBy {T : Type 0} (before now : ℕ) (result : Result T CreateFault) : Type 0 where
  pub later : before ≤ now
  pub failed : IsErrOf result Disk → Rose before now
  pub answered : (IsErrOf result Disk → ⊥) → now ≡ before
