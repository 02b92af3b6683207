-- What comes of a copy that is not made.
use Rattle.std.specs.Prelude.{◌≡◌, Result, Err}
use Rattle.copy_util.specs.declared.fault.CopyFault.{CopyFault}
use Rattle.copy_util.specs.declared.fault.CopyFault.TheVariants as copy
use Rattle.net_core.specs.declared.fault.WorkFault.{WorkFault}
use Rattle.net_core.specs.declared.fault.WorkFault.TheVariants as faults
use Rattle.quel_meaning.specs.Copying.{refusal, bad_row}
use Rattle.stage_util.specs.declared.carried.Carried.{Carried}
use Rattle.stage_util.specs.Laying.{Refuses}
use Rattle.stage_util.specs.Working.{Kept, Span, of_base}

-- a cause is answered with its refusal, and a fault of the shelf or the database is one of the work
abbrev pub NotCopied : CopyFault → Span → Result Carried WorkFault → Type 0
NotCopied (copy.No number) s result = Refuses (refusal number) s result
NotCopied (copy.BadRow row) s result = Refuses (bad_row row) s result
NotCopied copy.NoFile s result = Refuses (refusal 32) s result
NotCopied copy.Shelf s result = (result ≡ Err faults.Shelf) × Kept s
NotCopied (copy.Base fault) s result = (result ≡ Err (of_base fault)) × Kept s
NotCopied copy.OutOfMemory s result = (result ≡ Err faults.OutOfMemory) × Kept s
