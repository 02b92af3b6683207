-- When a catalogue isn't read.
use Rattle.std.specs.Prelude.{◌≡◌, true, Some, Result, Ok, Err}
use Rattle.calculus.specs.Database.{Db}
use Rattle.disk_model.specs.Disk.{Image}
use Rattle.disk_model.specs.declared.disk.Addr.{Addr}
use Rattle.base_trait.specs.declared.fault.BaseFault.{BaseFault}
use Rattle.base_trait.specs.declared.fault.BaseFault.TheVariants as faults
use Rattle.catalog_read.specs.Parts.{index_owners_agree}
use Rattle.stored_database.specs.Denoting.{denoted}
use Rattle.db_disk.specs.declared.load.LoadFault.{LoadFault}
use Rattle.db_disk.specs.declared.load.LoadFault.TheVariants.{NoHead, Base}

-- the pages denote no database in which each index has the owner of its relation
abbrev pub NoneDenoted : Image → Addr → Type 0
NoneDenoted m a = (db : Db) → denoted m ≡ Some db → index_owners_agree db ≡ true → ⊥

-- the fault of a base
abbrev pub base_fault : LoadFault → BaseFault
base_fault (NoHead page) = faults.Damaged 0 page
base_fault (Base fault) = fault

-- the answer with the fault of a base
abbrev pub as_base : {T : Type 0} → Result T LoadFault → Result T BaseFault
as_base (Ok x) = Ok x
as_base (Err fault) = Err (base_fault fault)

-- there is no head, or a call below failed first
abbrev pub IsNoHead : {T : Type 0} → Result T LoadFault → Type 0
IsNoHead (Ok x) = ⊥
IsNoHead (Err (NoHead page)) = Unit {0}
IsNoHead (Err (Base faults.Disk)) = Unit {0}
IsNoHead (Err (Base (faults.Damaged file page))) = ⊥
IsNoHead (Err (Base faults.OutOfMemory)) = Unit {0}
