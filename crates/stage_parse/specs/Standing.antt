-- Where the parser stands.
use Rattle.std.specs.Prelude.{◌≡◌, ℕ, List, Option, None, ⊤}
use Rattle.base_trait.specs.declared.fault.BaseFault.{BaseFault}
use Rattle.base_trait.specs.declared.fault.BaseFault.TheVariants as base_faults
use Rattle.calculus.specs.Database.{Db}
use Rattle.fault_io.specs.Causes.{Rose}
use Rattle.frame_codec.specs.declared.frame.Frame.{Frame}
use Rattle.net_core.specs.Crashes.{IsForgotten}
use Rattle.net_core.specs.declared.fault.WorkFault.{WorkFault}
use Rattle.net_core.specs.declared.fault.WorkFault.TheVariants as faults
use Rattle.network_meaning.specs.LocalSteps.{Mode, Mode.idle2, Mode.parsing, Mode.passing2, Mode.ended}
use Rattle.network_meaning.specs.Network.{LocalState}
use Rattle.quel_meaning.specs.Ranges.{Ranges}
use Rattle.quel_network.specs.Sorts.{Batch, quel_sorts}
use Rattle.stage_parse.specs.declared.at.At.{At}
use Rattle.stage_parse.specs.declared.at.At.TheVariants as at

-- the mode of a parser that stands here, with these range variables and this left of its batch
abbrev pub mode_at : Ranges → At → Batch → Mode quel_sorts
mode_at ranges at.Idle b = idle2 ranges
mode_at ranges at.Parsing b = parsing ranges b
mode_at ranges (at.Passing line) b = passing2 ranges line b
mode_at ranges at.Ended b = ended

-- with these frames of messages taken from the left and the right, and these to give to both sides
abbrev pub standing : Ranges → At → Batch → List Frame → List Frame → List Frame → List Frame → LocalState quel_sorts
standing ranges here b got_left got_right out_left out_right =
    record { mode = mode_at ranges here b; got_left = got_left; got_right = got_right; out_left = out_left; out_right = out_right }

-- where the turn is given away the base is handed over: nothing is kept of the disk
abbrev pub IsHanded : At → Option Db → Option Db → Type 0
IsHanded at.Parsing schema database = ⊤
IsHanded _ schema database = IsForgotten schema database

-- the fault of a call of the database, as one of a piece of work
abbrev pub of_base : BaseFault → WorkFault
of_base base_faults.Disk = faults.Disk
of_base (base_faults.Damaged file page) = faults.Damaged file page
of_base base_faults.OutOfMemory = faults.OutOfMemory

-- this fault comes of a database: of the disk where its count rose; else that stayed: of damage where no database is known, and want of memory
abbrev pub MayComeOf : Option Db → ℕ → ℕ → WorkFault → Type 0
MayComeOf known before now faults.Disk = Rose before now
MayComeOf known before now (faults.Damaged file page) = (known ≡ None) × (now ≡ before)
MayComeOf known before now faults.OutOfMemory = now ≡ before
MayComeOf known before now _ = ⊥
