-- What the process of a stage has done, and how it ended.
use Rattle.std.specs.Prelude.{◌≡◌, ◌⊎◌, ℕ, ◌+◌, ◌-◌, ◌^◌, ◌≤◌, List, ◌++◌, length, All, Option, Some, Result, Ok, Err, OnOk, ⊤}
use Rattle.std.specs.Io.KnownBytes.{Appends}
use Rattle.base_trait.specs.Crashes.{LeavesBut}
use Rattle.calculus.specs.Database.{Db}
use Rattle.fault_io.specs.Causes.{Rose}
use Rattle.fault_io.specs.Files.{Files}
use Rattle.frame_codec.specs.declared.frame.Frame.{Frame}
use Rattle.frame_codec.specs.Frames.{frames_bytes}
use Rattle.frame_codec.specs.Reading.{Reading, behind_frames, read}
use Rattle.net_core.specs.Causes.{MayCome, most_script}
use Rattle.net_core.specs.Crashes.{StepMayLeave}
use Rattle.net_core.specs.declared.fault.WorkFault.TheVariants as work_fault
use Rattle.net_core.specs.Reads.{EndsWithin}
use Rattle.net_core.specs.Spares.{CountsOnlyBy, IsNoFaultOfEnds, SparesBy, counts, ends}
use Rattle.net_core.specs.Known.{FailedWork, Outside, known}
use Rattle.net_core.specs.Wants.{HasEnded}
use Rattle.network_meaning.specs.Calls.{Knows}
use Rattle.network_meaning.specs.Language.{Language}
use Rattle.network_meaning.specs.Lawful.{FitWork}
use Rattle.network_meaning.specs.LocalSteps.{Want, Want.take_left, Want.take_right, Want.work, Room as NetworkRoom}
use Rattle.network_meaning.specs.Network.{LocalState, want}
use Rattle.quel_network.specs.Quel.{quel}
use Rattle.quel_network.specs.Sorts.{User, quel_sorts}
use Rattle.net_core.specs.declared.loop_fault.LoopFault.{LoopFault}
use Rattle.net_core.specs.declared.loop_fault.LoopFault.TheVariants as fault
use Rattle.net_core.specs.LoopFaults.{IsPlain, fault_bytes}
use Rattle.net_core.specs.Incoming.{Inlet, IsBroken, IsOver, IsRefused, IsTold, IsTooMuch, IsUntold, inlet}
use Rattle.net_core.specs.Moves.{At, LocalRun, Move, given_left, given_right, last_place, taken_left, taken_right}
use Rattle.net_core.specs.Sides.{Faltered, HasRead, IsNeeded, SameCounts, Side, SideLater, Sides, Wrote}

-- ---- how it ended

-- where the steps have led, and what came from both sides
pub record Ending : Type 0 where
  pub moves : List Move
  pub end : At
  pub left : Inlet
  pub right : Inlet

-- a frame of a side is wanted, of which this holds
abbrev pub IsWanted : Ending → (Inlet → Type 0) → Type 0
IsWanted e P = ((want e.end.state ≡ take_left) × P e.left) ⊎ ((want e.end.state ≡ take_right) × P e.right)

-- the work that was to follow has failed, and left a part of what it does
abbrev pub LeftPart : Language quel_sorts → At → Outside → Type 0
LeftPart L end after = FailedWork L end.state.mode end.outside after

-- what is to be worked on isn't fit, where the database and the files are known, and the last frame that was taken begins at this byte; a part of the work was left, as of any that failed
abbrev pub IsUnfit : (User → Type 0) → Ending → Outside → ℕ → Type 0
IsUnfit serves e new at =
    (want e.end.state ≡ work) × (at ≡ last_place e.moves)
    × ((user : User) → serves user → (db : Db) (files : Files) → e.end.outside.database ≡ Some db → e.end.outside.files ≡ Some files → FitWork (quel user) e.end.state.mode db → ⊥)
    × ((user : User) → serves user → LeftPart (quel user) e.end new)

-- how it ended: the stage has ended; its work failed, by a fault that may come; a count of a side rose; a stream ended where a frame of it was wanted; no more steps or bytes are counted; what is wanted is no frame, or one that may not be taken, or what is to be worked on isn't fit, and no Fault frame that tells a status is wanted; a Fault frame is wanted that tells a status; or no memory was left
abbrev pub HowEnded : (User → Type 0) → ℕ → LocalState quel_sorts → Outside → Outside → Sides → Sides → Ending → Result (Unit {0}) LoopFault → Type 0
HowEnded serves heard s' old new before after e (Ok x) = HasEnded e.end.state × (s' ≡ e.end.state) × (new ≡ e.end.outside)
HowEnded serves heard s' old new before after e (Err (fault.Work f)) = (want e.end.state ≡ work) × (f ≡ work_fault.Unlawful → ⊥) × MayCome heard old new f × ((user : User) → serves user → LeftPart (quel user) e.end new)
HowEnded serves heard s' old new before after e (Err fault.LeftRead) = (want e.end.state ≡ take_left) × Rose before.left.faults after.left.faults
HowEnded serves heard s' old new before after e (Err fault.LeftWrite) = Faltered before.left.out after.left.out
HowEnded serves heard s' old new before after e (Err fault.Right) = Faltered before.right.out after.right.out
HowEnded serves heard s' old new before after e (Err fault.EndedEarly) = IsWanted e IsOver
HowEnded serves heard s' old new before after e (Err fault.Spent) = (length e.moves ≡ 2 ^ 64 - 1) ⊎ (IsTooMuch e.left ⊎ IsTooMuch e.right)
HowEnded serves heard s' old new before after e (Err (fault.BadFrame at)) = (IsWanted e (λ i. IsBroken i at ⊎ IsRefused serves e.end.state i at) ⊎ IsUnfit serves e new at) × (want e.end.state ≡ take_right → IsUntold e.right)
HowEnded serves heard s' old new before after e (Err (fault.Told status)) = (want e.end.state ≡ take_right) × IsTold e.right status
HowEnded serves heard s' old new before after e (Err fault.OutOfMemory) = ⊤

-- the outside is as the last step left it, its counts and its clock too, unless work failed: then what the fault spares is as it was, and the rest is said with the fault
abbrev pub LeavesRoom : At → Outside → Result (Unit {0}) LoopFault → Type 0
LeavesRoom end new (Ok x) = new ≡ end.outside
LeavesRoom end new (Err (fault.Work f)) = SparesBy end.outside new f
LeavesRoom end new (Err (fault.BadFrame at)) = ((want end.state ≡ work) × (new.database ≡ end.outside.database)) ⊎ (new ≡ end.outside)
LeavesRoom end new (Err _) = new ≡ end.outside

-- all that was to be written to both sides was, and no count of an outlet rose
pub record WroteAll (before after : Sides) (moves : List Move) : Type 0 where
  pub left : Appends before.left.out.written after.left.out.written (frames_bytes (given_left moves))
  pub right : Appends before.right.out.written after.right.out.written (frames_bytes (given_right moves))
  pub left_counts : SameCounts before.left.out after.left.out
  pub right_counts : SameCounts before.right.out after.right.out

-- an answer, or a fault that is none of the source, the sink or the script's length in a piece of work
abbrev pub IsLoopInside : {T : Type 0} → Result T LoopFault → Type 0
IsLoopInside (Ok x) = ⊤
IsLoopInside (Err (fault.Work f)) = IsNoFaultOfEnds f
IsLoopInside (Err _) = ⊤

-- the source and the sink of the room are as they were, nothing of the script was read, and no work failed by them
pub record EndsKept {T : Type 0} (heard heard' : ℕ) (old new : Outside) (result : Result T LoopFault) : Type 0 where
  pub same : ends new ≡ ends old
  pub unread : heard' ≡ heard
  pub inside : IsLoopInside result

-- no count of the room rose, unless work failed: then only that which its fault names
abbrev pub LoopCounts : {T : Type 0} → Outside → Outside → Result T LoopFault → Type 0
LoopCounts old new (Ok x) = counts new ≡ counts old
LoopCounts old new (Err (fault.Work f)) = CountsOnlyBy old new f
LoopCounts old new (Err _) = counts new ≡ counts old

-- at most as many bytes of the script were read as it may have, but one more where work failed since it is too long
abbrev pub IsLoopWithin : {T : Type 0} → ℕ → Result T LoopFault → Type 0
IsLoopWithin heard (Ok x) = heard ≤ most_script
IsLoopWithin heard (Err (fault.Work f)) = EndsWithin heard f
IsLoopWithin heard (Err _) = heard ≤ most_script

-- the same where no more was read before
abbrev pub LoopWithin : {T : Type 0} → ℕ → ℕ → Result T LoopFault → Type 0
LoopWithin heard heard' result = heard ≤ most_script → IsLoopWithin heard' result

-- ---- what a crash leaves

-- the first ones of these steps lead to a room where the work that follows leaves this database
pub record MovesMayLeave (L : Language quel_sorts) (moves : List Move) (start : At) (o : Option Db) : Type 0 where
  pub first : List Move
  pub later : List Move
  pub is : moves ≡ first ++ later
  pub before : At
  pub room : NetworkRoom quel_sorts
  pub runs : LocalRun L first start before
  pub known : Knows (known before.outside) room
  pub leaves : StepMayLeave L before.state room o

-- where the room is known, a crash leaves what it might leave before these steps, or a database that their work leaves, or that which follows them
abbrev pub LoopLeaves : Language quel_sorts → List Move → At → ℕ → (ℕ → Option Db → Type 0) → (ℕ → Option Db → Type 0) → Type 0
LoopLeaves L moves start now left left' = (room : NetworkRoom quel_sorts) → Knows (known start.outside) room → LeavesBut (MovesMayLeave L moves start) start.outside.clock now left left'

-- ---- what was read

-- one frame more of a side was asked for than was taken, where the step that wanted it came to no end
abbrev pub unmet : Want → Want → Result (Unit {0}) LoopFault → ℕ
unmet take_left take_left (Err f) = 1
unmet take_right take_right (Err f) = 1
unmet _ _ _ = 0

-- of a side these bytes were read, as the frames that were taken and what is unread; so many frames were asked for
pub record SideRead (before after : Side) (taken : List Frame) (asked : ℕ) (bytes : List ℕ) (unread : Reading) : Type 0 where
  pub heard : HasRead before.left bytes after.left
  pub frames : behind_frames taken unread ≡ read 0 bytes
  pub needed : IsNeeded asked bytes

-- ---- the whole

-- what a stage with this number has done that began here, where this was known of the schema and a crash might leave this: steps, the frames of what was read in the order of the stream, from the right none that tells a status, the bytes of what was given and of a Fault frame, how it ended, and what a crash leaves
pub record LoopDone (serves : User → Type 0) (place heard : ℕ) (s s' : LocalState quel_sorts) (schema schema' : Option Db) (old new : Outside) (before after : Sides) (left_since left_since' : ℕ → Option Db → Type 0) (result : Result (Unit {0}) LoopFault) : Type 0 where
  pub moves : List Move
  pub end : At
  pub left_read : List ℕ
  pub left_unread : Reading
  pub right_read : List ℕ
  pub right_unread : Reading
  pub runs : (user : User) → serves user → LocalRun (quel user) moves (record { state = s; outside = old; schema = schema }) end
  pub left : SideRead before.left after.left (taken_left moves) (length (taken_left moves) + unmet take_left (want end.state) result) left_read left_unread
  pub right : SideRead before.right after.right (taken_right moves) (length (taken_right moves) + unmet take_right (want end.state) result) right_read right_unread
  pub plain : All IsPlain (taken_right moves)
  pub left_wrote : Wrote before.left.out after.left.out (frames_bytes (given_left moves) ++ fault_bytes place result)
  pub right_wrote : Wrote before.right.out after.right.out (frames_bytes (given_right moves))
  pub left_later : SideLater before.left after.left
  pub right_later : SideLater before.right after.right
  pub all : OnOk result (WroteAll before after moves)
  pub room : LeavesRoom end new result
  pub known : OnOk result (schema' ≡ end.schema)
  pub ended : HowEnded serves heard s' old new before after (record {
    moves = moves;
    end = end;
    left = inlet (taken_left moves) left_read after.left.left left_unread;
    right = inlet (taken_right moves) right_read after.right.left right_unread;
  }) result
  pub crash : (user : User) → serves user → LoopLeaves (quel user) moves (record { state = s; outside = old; schema = schema }) new.clock left_since left_since'
