-- How a fault of taking is one of a step.
use Rattle.std.specs.Prelude.{◌≡◌, ◌⊎◌}
use Rattle.net_core.specs.declared.fault.TakeFault.{TakeFault}
use Rattle.net_core.specs.declared.fault.TakeFault.TheVariants as taking
use Rattle.net_core.specs.declared.fault.WorkFault.{WorkFault}
use Rattle.net_core.specs.declared.fault.WorkFault.TheVariants as faults

-- the fault of a step whose stage could not take a frame
abbrev pub of_taking : TakeFault → WorkFault
of_taking taking.Unlawful = faults.Unlawful
of_taking taking.OutOfMemory = faults.OutOfMemory

-- this fault may come of taking a frame: it is unlawful, or memory is wanting
abbrev pub IsOfTaking : WorkFault → Type 0
IsOfTaking fault = (fault ≡ faults.Unlawful) ⊎ (fault ≡ faults.OutOfMemory)
