-- When a database isn't opened.
use Rattle.std.specs.Prelude.{◌≡◌, ℕ, ◌≤◌, Option, None, Result, Ok, Err}
use Rattle.calculus.specs.Database.{Db}
use Rattle.base_trait.specs.Causes.{MayCome}
use Rattle.base_trait.specs.declared.fault.BaseFault.TheVariants as faults
use Rattle.disk_model.specs.declared.disk.Disk.{Ghosts}
use Rattle.db_disk.specs.Shown.{disk_in}
use Rattle.db_disk.specs.declared.base.DbDisk.{DbDisk}
use Rattle.db_disk.specs.declared.load.LoadFault.{LoadFault}
use Rattle.db_disk.specs.declared.load.LoadFault.TheVariants as load
use Rattle.db_disk.specs.declared.at_once.OpenFault.{OpenFault}
use Rattle.db_disk.specs.declared.at_once.OpenFault.TheVariants.{NotADatabase, Base}
use Rattle.db_disk.specs.declared.at_once.Unopened.{Unopened}

-- the fault with which a database isn't opened
abbrev pub open_fault : LoadFault → OpenFault
open_fault (load.NoHead page) = NotADatabase
open_fault (load.Base fault) = Base fault

-- this fault of an opening may come: of no database where none is known and the count stayed, and of a base as ever
abbrev pub MayRefuse : Option Db → ℕ → ℕ → OpenFault → Type 0
MayRefuse known before now NotADatabase = (known ≡ None) × (now ≡ before)
MayRefuse known before now (Base fault) = MayCome known before now fault

-- no database, or a fault of the disk or want of memory that came first
abbrev pub RefusedBy : OpenFault → Type 0
RefusedBy NotADatabase = Unit {0}
RefusedBy (Base faults.Disk) = Unit {0}
RefusedBy (Base (faults.Damaged file page)) = ⊥
RefusedBy (Base faults.OutOfMemory) = Unit {0}

module _ {D : Type 0} {g : Ghosts D} where
  -- the disk that is handed back, or lies below the database
  abbrev pub disk_after : Result (DbDisk D g) (Unopened D) → D
  disk_after (Ok d) = disk_in d
  disk_after (Err u) = u.disk

  -- an answer where the count stayed, or a fault that may come
  abbrev pub IsOpenCaused : Option Db → ℕ → ℕ → Result (DbDisk D g) (Unopened D) → Type 0
  IsOpenCaused known before now (Ok d) = now ≡ before
  IsOpenCaused known before now (Err u) = MayRefuse known before now u.fault

  -- The count of faults never falls, an answer comes only where it stayed, and a fault only where it may.
  pub record HasOpenCause (known : Option Db) (before now : ℕ) (result : Result (DbDisk D g) (Unopened D)) : Type 0 where
    pub later : before ≤ now
    pub caused : IsOpenCaused known before now result

  -- it is no database
  abbrev pub IsNot : Result (DbDisk D g) (Unopened D) → Type 0
  IsNot (Ok d) = ⊥
  IsNot (Err u) = u.fault ≡ NotADatabase

  -- it was refused as no database, or a fault of the disk or want of memory came first
  abbrev pub IsRefused : Result (DbDisk D g) (Unopened D) → Type 0
  IsRefused (Ok d) = ⊥
  IsRefused (Err u) = RefusedBy u.fault
