-- A disk in memory as its words show it, and when its calls fail.
use Rattle.std.specs.Prelude.{◌≡◌, ◌⊎◌, ℕ, ◌≤◌, Bool, List, [], ◌∷◌, ◌++◌, length, Option, Some, None, Result, Ok, Err, Contains}
use Rattle.fault_io.specs.Causes.{one_more}
use Rattle.disk_model.specs.declared.disk.DiskFailed.{DiskFailed}
use Rattle.disk_model.specs.declared.calls.Call.{Call}
use Rattle.disk_model.specs.declared.mem_disk.MemDisk.{MemDisk}
use Rattle.disk_model.specs.declared.mem_disk.Left.{Left}
use Rattle.disk_model.specs.declared.mem_disk.Left.TheVariants.{Old, New, Filled}
use Rattle.disk_model.specs.declared.disk.Addr.{Addr}
use Rattle.disk_model.specs.Disk.{Image, IsImage}
use Rattle.disk_model.specs.Calls.{page_of, failed_call, seen_of, seen_from, synced_from, touched_of, LeftSince}

-- A disk in memory: how what stood at its start was made, its writes, cuts and syncs since, how many calls
-- it had (reads too), which of them fail, after how many writes, cuts and syncs all fail, and its counts.
pub record State : Type 0 where
  pub first : List Call
  pub calls : List Call
  pub made : ℕ
  pub failing : List ℕ
  pub stop : Option ℕ
  pub faults : ℕ
  pub reads : ℕ

-- a disk in memory as its fields are
abbrev pub state : MemDisk → State
state d = record { first = d.first.items; calls = d.calls.items; made = d.made; failing = d.failing.items; stop = d.stop; faults = d.faults; reads = d.reads }

-- a disk without a call so far
abbrev pub fresh : List Call → List ℕ → Option ℕ → State
fresh first failing stop = record { first = first; calls = []; made = 0; failing = failing; stop = stop; faults = 0; reads = 0 }

-- what a read of the disk gives
abbrev pub seen_now : State → Image
seen_now d = seen_from (seen_of d.first) d.calls

-- what stood on the disk at its last sync, or at its start where there was none
abbrev pub synced_now : State → Image
synced_now d = synced_from (seen_of d.first) (seen_of d.first) d.calls

-- what a read of a disk in memory gives
abbrev pub seen_in : MemDisk → Image
seen_in d = seen_now (state d)

-- the addresses that its writes and cuts since its last sync touched
abbrev pub touched_in : MemDisk → Addr → Type 0
touched_in d = touched_of (state d).calls

-- how many writes, cuts and syncs it had
abbrev pub clock_in : MemDisk → ℕ
clock_in d = length (state d).calls

-- what a crash since an earlier moment may have left of it
abbrev pub left_in : MemDisk → ℕ → Image → Type 0
left_in d = LeftSince (seen_of (state d).first) (state d).calls

-- n writes, cuts and syncs reach the stop, where there is one
abbrev pub IsStopped : Option ℕ → ℕ → Type 0
IsStopped None n = ⊥
IsStopped (Some stop) n = stop ≤ n

-- the next call is to fail: its number is listed, or the stop is reached
abbrev pub IsDue : State → Type 0
IsDue d = Contains d.failing d.made ⊎ IsStopped d.stop (length d.calls)

-- the disk with one more entry in its list
abbrev pub entered : State → Call → State
entered d call = record d { calls = d.calls ++ call ∷ [] }

-- the disk after one more call that was done
abbrev pub passed : State → State
passed d = record d { made = one_more d.made }

-- the disk after one more call that failed
abbrev pub refused : State → State
refused d = record d { made = one_more d.made; faults = one_more d.faults }

-- A write, a cut or a sync is done where none is due to fail. It fails where one is due, which the list notes,
-- or where there is no memory for its entry, which then leaves no trace but the counts.
abbrev pub Notes : State → State → Call → Result Unit DiskFailed → Type 0
Notes old new call (Ok done) = (IsDue old → ⊥) × (new ≡ passed (entered old call))
Notes old new call (Err e) = (IsDue old × (new ≡ refused (entered old (failed_call call)))) ⊎ (new ≡ refused old)

-- A read fails exactly where a failure is due, and changes the counts alone.
abbrev pub Reads : State → State → Result Bool DiskFailed → Type 0
Reads old new (Ok found) = (IsDue old → ⊥) × (new ≡ record (passed old) { reads = one_more old.reads })
Reads old new (Err e) = IsDue old × (new ≡ record (refused old) { reads = one_more old.reads })

-- what a crash leaves at a touched address where `old` stood at the last sync and `now` stands
abbrev pub left_at : Left → Option (List ℕ) → Option (List ℕ) → Option (List ℕ)
left_at Old old now = old
left_at New old now = now
left_at (Filled byte) old now = Some (page_of byte)

-- What stands after a crash of a disk: at each touched address what this kind of crash leaves there, at each
-- other what a read gave.
pub record Leaves (left : Left) (d : State) (now : Image) : Type 0 where
  pub untouched : IsImage (seen_now d) (touched_of d.calls) now
  pub touched : (b : Addr) → touched_of d.calls b → now b ≡ left_at left (synced_now d b) (seen_now d b)
