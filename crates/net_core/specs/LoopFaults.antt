-- The status of a process that ended early, and how it is told to the left.
use Rattle.std.specs.Prelude.{◌≡◌, ◌==◌, ◌||◌, ℕ, List, [], ◌∷◌, Contains, Result, Ok, Err, if◌then◌else◌}
use Rattle.frame_codec.specs.declared.frame.Frame.{Frame}
use Rattle.frame_codec.specs.Frames.{frame_bytes}
use Rattle.net_core.specs.declared.fault.WorkFault.{WorkFault}
use Rattle.net_core.specs.declared.fault.WorkFault.TheVariants as work
use Rattle.net_core.specs.declared.loop_fault.LoopFault.{LoopFault}
use Rattle.net_core.specs.declared.loop_fault.LoopFault.TheVariants as fault

-- the status of a process whose work came to no end
abbrev pub work_status : WorkFault → ℕ
work_status (work.Damaged file page) = 2
work_status work.Source = 3
work_status work.Sink = 4
work_status work.Disk = 5
work_status work.OutOfMemory = 6
work_status work.TooLong = 7
work_status work.Unlawful = 10
work_status work.Shelf = 11

-- the status of a process that ended early
abbrev pub status_of : LoopFault → ℕ
status_of (fault.Work f) = work_status f
status_of fault.LeftRead = 3
status_of fault.LeftWrite = 4
status_of fault.OutOfMemory = 6
status_of fault.Right = 9
status_of fault.EndedEarly = 9
status_of fault.Spent = 9
status_of (fault.BadFrame at) = 10
status_of (fault.Told status) = status

-- the statuses that a Fault frame tells
abbrev pub told_statuses : List ℕ
told_statuses = 2 ∷ 5 ∷ 6 ∷ 8 ∷ 9 ∷ 10 ∷ 11 ∷ []

-- the Fault frame that tells a status
abbrev pub fault_frame : ℕ → Frame
fault_frame status = record { kind = 9; payload = status ∷ [] }

-- the frame is no Fault frame that tells a status
abbrev pub IsPlain : Frame → Type 0
IsPlain frame = (status : ℕ) → Contains told_statuses status → frame ≡ fault_frame status → ⊥

-- the bytes that tell a status to the left: none where the left can't be read or written
abbrev pub telling : ℕ → List ℕ
telling status = if (status == 3) || (status == 4) then [] else frame_bytes (fault_frame status)

-- what is told to the left behind all frames, by the stage's number and how it ended: nothing after an end without a fault, and nothing by the first stage
abbrev pub fault_bytes : ℕ → Result (Unit {0}) LoopFault → List ℕ
fault_bytes place (Ok x) = []
fault_bytes place (Err f) = if place == 1 then [] else telling (status_of f)
