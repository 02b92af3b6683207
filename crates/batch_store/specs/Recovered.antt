-- The pages that a disk and the batch on it make.
use Rattle.std.specs.Prelude.{◌≡◌, ◌⊎◌, Bool, Option, Some, None, if◌then◌else◌}
use Rattle.disk_model.specs.Disk.{Image}
use Rattle.batch_file.specs.declared.stage.Batch.{Batch}
use Rattle.batch_file.specs.Redone.{kept, laid, redone}
use Rattle.batch_file.specs.Staged.{staged}

-- the pages that count of a disk that reads so, with the batch laid over them
unfoldable pub recovered : Image → Batch → Image
recovered m batch = kept (laid (staged m batch) m)

-- these pages, where the content of the disk is known
abbrev pub known : Bool → Image → Batch → Option Image
known is_known m batch = if is_known then Some (recovered m batch) else None

-- an image has, redone, these pages or those
abbrev pub IsOneOf : Image → Image → Image → Type 0
IsOneOf before after m = (redone m ≡ Some before) ⊎ (redone m ≡ Some after)
