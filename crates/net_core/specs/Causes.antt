-- When a stage or the network may answer a fault.
use Rattle.std.specs.Prelude.{◌≡◌, ◌⊎◌, ◌+◌, ◌<◌, ℕ, List, Some, None, Result, Ok, Err, ⊤, length}
use Rattle.calculus.specs.Database.{Db}
use Rattle.fault_io.specs.Causes.{Rose}
use Rattle.fault_io.specs.Files.{Files}
use Rattle.frame_codec.specs.declared.frame.Frame.{Frame}
use Rattle.net_core.specs.declared.fault.WorkFault.{WorkFault}
use Rattle.net_core.specs.declared.fault.WorkFault.TheVariants as faults
use Rattle.net_core.specs.Known.{Outside}
use Rattle.network_meaning.specs.Calls.{Taken}
use Rattle.network_meaning.specs.Language.{Language}
use Rattle.network_meaning.specs.Lawful.{FitWork}
use Rattle.network_meaning.specs.LocalSteps.{Mode}
use Rattle.network_meaning.specs.Network.{LocalState}
use Rattle.quel_network.specs.Sorts.{quel_sorts}

-- the bytes of a script, at most
abbrev pub most_script : ℕ
most_script = 16777216

-- this fault may come of this outside, where so many bytes of the script were read before: of a part of it whose count rose, of damage where no database is known, of a script that is too long, and want of memory. What is unlawful is said apart
abbrev pub MayCome : ℕ → Outside → Outside → WorkFault → Type 0
MayCome heard before after faults.Source = Rose before.source_faults after.source_faults
MayCome heard before after faults.Sink = Rose before.sink_faults after.sink_faults ⊎ Rose before.sink_stalls after.sink_stalls
MayCome heard before after faults.Disk = Rose before.base_faults after.base_faults
MayCome heard before after (faults.Damaged file page) = before.database ≡ None
MayCome heard before after faults.Shelf = Rose before.shelf_faults after.shelf_faults
MayCome heard before after faults.TooLong = (script : List ℕ) → before.script ≡ Some script → most_script < heard + length script
MayCome heard before after faults.Unlawful = ⊤
MayCome heard before after faults.OutOfMemory = ⊤

-- an answer, or a fault that may come
abbrev pub IsCaused : {T : Type 0} → ℕ → Outside → Outside → Result T WorkFault → Type 0
IsCaused heard before after (Ok x) = ⊤
IsCaused heard before after (Err fault) = MayCome heard before after fault

-- no state of the stage is one in which it has taken this frame
abbrev pub MayNotTake : Language quel_sorts → LocalState quel_sorts → Frame → Type 0
MayNotTake L s frame = (after : LocalState quel_sorts) → Taken L s frame after → ⊥

-- what is worked on isn't fit, where the database and the files are known
abbrev pub MayNotWork : Language quel_sorts → Mode quel_sorts → Outside → Type 0
MayNotWork L mode before = (db : Db) (files : Files) → before.database ≡ Some db → before.files ≡ Some files → FitWork L mode db → ⊥
