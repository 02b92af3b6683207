-- When a call that asks memory alone answers a fault.
use Rattle.std.specs.Prelude.{Result, Ok, Err}
use Rattle.base_trait.specs.declared.fault.BaseFault.{BaseFault}
use Rattle.base_trait.specs.declared.fault.BaseFault.TheVariants as faults
use Rattle.batch_file.specs.declared.fault.RestoreFault.{RestoreFault}
use Rattle.batch_file.specs.declared.fault.RestoreFault.TheVariants as restore

-- an answer, or want of memory
abbrev pub IsWant : {T : Type 0} → Result T BaseFault → Type 0
IsWant (Ok x) = Unit {0}
IsWant (Err faults.Disk) = ⊥
IsWant (Err (faults.Damaged file page)) = ⊥
IsWant (Err faults.OutOfMemory) = Unit {0}

-- the fault of a base where a batch isn't applied
abbrev pub of_restore : RestoreFault → BaseFault
of_restore restore.Disk = faults.Disk
of_restore (restore.Damaged file page) = faults.Damaged file page
