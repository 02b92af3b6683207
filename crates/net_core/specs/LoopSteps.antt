-- A run step by step: what holds while it goes on, and what one step comes to.
use Rattle.std.specs.Prelude.{◌≡◌, ℕ, ◌+◌, List, [], ◌∷◌, ◌++◌, length, All, OnOk, Option, Result, Ok, Err}
use Rattle.std.specs.Prelude.{IsErrOf}
use Rattle.std.specs.Io.KnownBytes.{Appends}
use Rattle.calculus.specs.Database.{Db}
use Rattle.frame_codec.specs.declared.frame.Frame.{Frame}
use Rattle.frame_codec.specs.Frames.{frames_bytes}
use Rattle.frame_codec.specs.Reading.{Reading}
use Rattle.net_core.specs.declared.steps.Moved.{Moved}
use Rattle.net_core.specs.declared.steps.Moved.TheVariants.{Stepped, Blocked}
use Rattle.net_core.specs.Reads.{CountsHeard}
use Rattle.net_core.specs.Known.{KeepsDatabase, KeepsScript, Later, Outside}
use Rattle.net_core.specs.Wants.{HasEnded}
use Rattle.network_meaning.specs.LocalSteps.{Want.take_left, Want.take_right}
use Rattle.network_meaning.specs.Network.{LocalState, want}
use Rattle.quel_network.specs.Quel.{quel}
use Rattle.quel_network.specs.Sorts.{User, quel_sorts}
use Rattle.net_core.specs.declared.loop_fault.LoopFault.{LoopFault}
use Rattle.net_core.specs.declared.loop_fault.LoopFault.TheVariants as fault
use Rattle.net_core.specs.declared.incoming.Incoming.{Incoming}
use Rattle.net_core.specs.declared.stepping.Talk.{Talk}
use Rattle.net_core.specs.LoopFaults.{IsPlain}
use Rattle.net_core.specs.Incoming.{Holds, inlet}
use Rattle.net_core.specs.Moves.{At, LocalRun, Move, StepsBy, first_places, given_left, given_right, places_from, taken_left, taken_right}
use Rattle.net_core.specs.Sides.{HasRead, IsNeeded, SameCounts, Side, SideLater, Sides, Wrote}
use Rattle.net_core.specs.WholeLoop.{EndsKept, HowEnded, LeavesRoom, LoopCounts, LoopLeaves, LoopWithin, SideRead, WroteAll, unmet}

-- what a stage's process has at hand: where the stage is, the room and both sides as they are known, what is known of the schema, what it has read, and how many bytes of the script the stage has read
pub record Hand : Type 0 where
  pub state : LocalState quel_sorts
  pub outside : Outside
  pub schema : Option Db
  pub sides : Sides
  pub talk : Talk
  pub heard : ℕ

-- where the stage is, with the room
abbrev pub at_hand : Hand → At
at_hand p = record { state = p.state; outside = p.outside; schema = p.schema }

-- what was before: both sides at the start, the steps since, and the bytes that were read
pub record Past : Type 0 where
  pub before : Sides
  pub moves : List Move
  pub left : List ℕ
  pub right : List ℕ

-- one side while a run goes on: the reader holds what was read, no piece was read in vain, all was written, and no count rose
pub record SideGoes (before now : Side) (taken given : List Frame) (bytes : List ℕ) (i : Incoming) : Type 0 where
  pub holds : Holds taken bytes i
  pub heard : HasRead before.left bytes now.left
  pub needed : IsNeeded (length taken) bytes
  pub wrote : Appends before.out.written now.out.written (frames_bytes given)
  pub faults : now.faults ≡ before.faults
  pub counts : SameCounts before.out now.out

-- a run goes on
pub record Goes (past : Past) (p : Hand) : Type 0 where
  pub left : SideGoes past.before.left p.sides.left (taken_left past.moves) (given_left past.moves) past.left p.talk.left
  pub right : SideGoes past.before.right p.sides.right (taken_right past.moves) (given_right past.moves) past.right p.talk.right
  pub plain : All IsPlain (taken_right past.moves)
  pub places : record { left = p.talk.left.place; right = p.talk.right.place; last = p.talk.last } ≡ places_from first_places past.moves

-- a run from here behind earlier steps has ended; nothing was told to the left yet
pub record Ran (serves : User → Type 0) (start : At) (heard : ℕ) (s' : LocalState quel_sorts) (old new : Outside) (before after : Sides) (earlier : List Move) (result : Result (Unit {0}) LoopFault) : Type 0 where
  pub moves : List Move
  pub later : List Move
  pub is : moves ≡ earlier ++ later
  pub end : At
  pub left_read : List ℕ
  pub left_unread : Reading
  pub right_read : List ℕ
  pub right_unread : Reading
  pub runs : (user : User) → serves user → LocalRun (quel user) later start end
  pub left : SideRead before.left after.left (taken_left moves) (length (taken_left moves) + unmet take_left (want end.state) result) left_read left_unread
  pub right : SideRead before.right after.right (taken_right moves) (length (taken_right moves) + unmet take_right (want end.state) result) right_read right_unread
  pub plain : All IsPlain (taken_right moves)
  pub left_wrote : Wrote before.left.out after.left.out (frames_bytes (given_left moves))
  pub left_all : (IsErrOf result fault.LeftWrite → ⊥) → Appends before.left.out.written after.left.out.written (frames_bytes (given_left moves))
  pub right_wrote : Wrote before.right.out after.right.out (frames_bytes (given_right moves))
  pub left_later : SideLater before.left after.left
  pub right_later : SideLater before.right after.right
  pub all : OnOk result (WroteAll before after moves)
  pub room : LeavesRoom end new result
  pub ended : HowEnded serves heard s' old new before after (record {
    moves = moves;
    end = end;
    left = inlet (taken_left moves) left_read after.left.left left_unread;
    right = inlet (taken_right moves) right_read after.right.left right_unread;
  }) result

-- the whole run, where this is known of the schema at its end: it has ended, and what a crash leaves
pub record RanWhole (serves : User → Type 0) (start : At) (heard : ℕ) (s' : LocalState quel_sorts) (schema' : Option Db) (old new : Outside) (before after : Sides) (left left' : ℕ → Option Db → Type 0) (result : Result (Unit {0}) LoopFault) : Type 0 where
  pub ran : Ran serves start heard s' old new before after [] result
  pub known : OnOk result (schema' ≡ ran.end.schema)
  pub crash : (user : User) → serves user → LoopLeaves (quel user) ran.moves start new.clock left left'

-- one step more was made, or the stage has ended, or the run has
abbrev pub StepDone : (User → Type 0) → Past → Hand → Hand → Result Moved LoopFault → Type 0
StepDone serves past p p' (Ok Stepped) = (move : Move) × (l : List ℕ) × (r : List ℕ) × ((user : User) → serves user → StepsBy (quel user) move (at_hand p) (at_hand p')) × Goes (record { before = past.before; moves = past.moves ++ move ∷ []; left = l; right = r }) p'
StepDone serves past p p' (Ok Blocked) = HasEnded p.state × (p' ≡ p)
StepDone serves past p p' (Err f) = Ran serves (at_hand p) p.heard p'.state p.outside p'.outside past.before p'.sides past.moves (Err f)

-- the room behind a step of the stage with this number: no count fell, and none rose but that which a fault names; what is known of the script stays known, the source counts what was read, and no more was than may be; a database stays known unless the step failed; and the source and the sink are as they were unless it is the first stage
pub record RoomKept (place heard heard' : ℕ) (old new : Outside) (result : Result Moved LoopFault) : Type 0 where
  pub later : Later old new
  pub script : KeepsScript heard heard' old new
  pub database : OnOk result (KeepsDatabase old new)
  pub ends : (place ≡ 1 → ⊥) → EndsKept heard heard' old new result
  pub given : CountsHeard heard heard' old.given new.given
  pub within : LoopWithin heard heard' result
  pub counts : LoopCounts old new result
