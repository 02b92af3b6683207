-- What the first stage has done when it has read.
use Rattle.std.specs.Prelude.{◌≡◌, ◌⊎◌, ℕ, List, Some, ⊤}
use Rattle.std.specs.declared.option.Option.{Option}
use Rattle.std.specs.Io.KnownBytes.{Appends}
use Rattle.fault_io.specs.Files.{Files, stored}
use Rattle.fault_io.specs.Known.{GrewBy, IsFront}
use Rattle.fault_io.specs.Shelves.{MayHaveStored}
use Rattle.frame_codec.specs.declared.frame.Frame.{Frame}
use Rattle.net_core.specs.declared.fault.WorkFault.{WorkFault}
use Rattle.net_core.specs.declared.fault.WorkFault.TheVariants as faults
use Rattle.quel_network.specs.Reading.{read}
use Rattle.quel_network.specs.Sorts.{Monitor}
use Rattle.monitor.specs.declared.at.At.{At}
use Rattle.monitor.specs.declared.event.Event.{Event as Came}
use Rattle.monitor.specs.Reading.{was_read}
use Rattle.monitor.specs.Settling.{at_behind, files_behind, frames_behind}

-- this was read of a script and files that are known: this is left of the script, these are the files, and this was written
pub record ReadThrough (old : Monitor) (known : Files) (script : List ℕ) (event : Came) (new : Monitor) (left : Option (List ℕ)) (files : Option Files) (written written' : Option (List ℕ)) : Type 0 where
  pub rest : List ℕ
  pub bytes : List ℕ
  pub left_so : left ≡ Some rest
  pub files_so : files ≡ Some (files_behind event known new.buffer.text)
  pub wrote : Appends written written' bytes
  pub is : read old script known ≡ was_read event new known bytes rest

-- reading has ended so, and it stands where that leads; where script and files are known, this is what was to be read
pub record HasDone (old new : Monitor) (here : At) (out : List Frame) (left left' : Option (List ℕ)) (files files' : Option Files) (written written' : Option (List ℕ)) : Type 0 where
  pub event : Came
  pub stands : here ≡ at_behind event
  pub gives : out ≡ frames_behind event new.buffer.text
  pub exact : (known : Files) (script : List ℕ) → files ≡ Some known → left ≡ Some script → ReadThrough old known script event new left' files' written written'

-- the files are as they were, or the one that is to be stored when this script is read may have been
abbrev pub LeavesStored : Monitor → Files → List ℕ → Option Files → Type 0
LeavesStored old known script files = (files ≡ Some known) ⊎ ((name : List ℕ) × (bytes : List ℕ) × ((read old script known).shelf ≡ stored known name bytes) × MayHaveStored name bytes known files)

-- reading failed: of a script and files that are known a front of what is printed was written, and no file differs but the one that is stored; and of files that are known, whatever the script is, none but one that is stored when some script is read
pub record ReadPartly (old : Monitor) (left : Option (List ℕ)) (files files' : Option Files) (written written' : Option (List ℕ)) : Type 0 where
  pub wrote : (known : Files) (script : List ℕ) → files ≡ Some known → left ≡ Some script → GrewBy written written' (λ more. IsFront more (read old script known).bytes)
  pub kept : (known : Files) (script : List ℕ) → files ≡ Some known → left ≡ Some script → LeavesStored old known script files'
  pub any : (known : Files) → files ≡ Some known → (script : List ℕ) × LeavesStored old known script files'

-- where the source failed or the script is too long, nothing was written or stored
abbrev pub SparesOut : Option Files → Option Files → Option (List ℕ) → Option (List ℕ) → WorkFault → Type 0
SparesOut files files' written written' faults.Source = (written' ≡ written) × (files' ≡ files)
SparesOut files files' written written' faults.TooLong = (written' ≡ written) × (files' ≡ files)
SparesOut files files' written written' _ = ⊤
