-- When a call of a store, or of what stands on one, may answer a fault.
use Rattle.std.specs.Prelude.{◌≡◌, ℕ, ◌≤◌, Option, Some, Result, Ok, Err}
use Rattle.fault_io.specs.Causes.{Rose}
use Rattle.disk_model.specs.Disk.{Image}
use Rattle.disk_model.specs.declared.disk.Addr.{Addr}
use Rattle.base_trait.specs.declared.fault.BaseFault.{BaseFault}
use Rattle.base_trait.specs.declared.fault.BaseFault.TheVariants as faults
use Rattle.am_traits.specs.declared.fault.StoreFault.{StoreFault}
use Rattle.am_traits.specs.declared.fault.StoreFault.TheVariants as store

-- the same fault, of what stands on the store
abbrev pub of_store : StoreFault → BaseFault
of_store store.Disk = faults.Disk
of_store store.OutOfMemory = faults.OutOfMemory

-- this fault may come: of the disk where its count rose, and want of memory where that stayed
abbrev pub StoreMayFail : ℕ → ℕ → StoreFault → Type 0
StoreMayFail before now store.Disk = Rose before now
StoreMayFail before now store.OutOfMemory = now ≡ before

-- an answer where the count stayed, or a fault that may come
abbrev pub IsStoreCaused : {T : Type 0} → ℕ → ℕ → Result T StoreFault → Type 0
IsStoreCaused before now (Ok x) = now ≡ before
IsStoreCaused before now (Err fault) = StoreMayFail before now fault

-- the count of faults never falls, an answer comes only where it stayed, and a fault only where it may
pub record HasStoreCause {T : Type 0} (before now : ℕ) (result : Result T StoreFault) : Type 0 where
  pub later : before ≤ now
  pub caused : IsStoreCaused before now result

-- where the pages are known, the one at this address is at fault
abbrev pub IsAtFault : Option Image → (Image → Addr → Type 0) → Addr → Type 0
IsAtFault known at_fault a = (m : Image) → known ≡ Some m → at_fault m a

-- this fault may come: of the disk where its count rose; else that stayed: of damage at a page that is at fault, and want of memory
abbrev pub MayFail : Option Image → (Image → Addr → Type 0) → ℕ → ℕ → BaseFault → Type 0
MayFail known at_fault before now faults.Disk = Rose before now
MayFail known at_fault before now (faults.Damaged file page) = IsAtFault known at_fault (record { file = file; page = page }) × (now ≡ before)
MayFail known at_fault before now faults.OutOfMemory = now ≡ before

-- an answer where the count stayed, or a fault that may come
abbrev pub IsFileCaused : {T : Type 0} → Option Image → (Image → Addr → Type 0) → ℕ → ℕ → Result T BaseFault → Type 0
IsFileCaused known at_fault before now (Ok x) = now ≡ before
IsFileCaused known at_fault before now (Err fault) = MayFail known at_fault before now fault

-- the count of faults never falls, an answer comes only where it stayed, and a fault only where it may
pub record HasFileCause {T : Type 0} (known : Option Image) (at_fault : Image → Addr → Type 0) (before now : ℕ) (result : Result T BaseFault) : Type 0 where
  pub later : before ≤ now
  pub caused : IsFileCaused known at_fault before now result
