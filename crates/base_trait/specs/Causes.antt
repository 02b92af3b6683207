-- When a call of a database may answer a fault.
use Rattle.std.specs.Prelude.{◌≡◌, ℕ, ◌≤◌, Option, None, Result, Ok, Err}
use Rattle.calculus.specs.Database.{Db}
use Rattle.fault_io.specs.Causes.{Rose}
use Rattle.base_trait.specs.declared.fault.BaseFault.{BaseFault}
use Rattle.base_trait.specs.declared.fault.BaseFault.TheVariants as faults

-- this fault may come of a database that is known, or isn't: of the disk where its count rose; else that stayed: of damage where no database is known, and want of memory
abbrev pub MayCome : Option Db → ℕ → ℕ → BaseFault → Type 0
MayCome known before now faults.Disk = Rose before now
MayCome known before now (faults.Damaged file page) = (known ≡ None) × (now ≡ before)
MayCome known before now faults.OutOfMemory = now ≡ before

-- an answer where the count stayed, or a fault that may come
abbrev pub IsCaused : {T : Type 0} → Option Db → ℕ → ℕ → Result T BaseFault → Type 0
IsCaused known before now (Ok x) = now ≡ before
IsCaused known before now (Err fault) = MayCome known before now fault

-- the count of faults never falls, an answer comes only where it stayed, and a fault only where it may
pub record HasCause {T : Type 0} (known : Option Db) (before now : ℕ) (result : Result T BaseFault) : Type 0 where
  pub later : before ≤ now
  pub caused : IsCaused known before now result
