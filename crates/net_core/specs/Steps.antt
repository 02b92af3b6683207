-- What a step did, of one stage between its pipes and of the network.
use Rattle.std.specs.Prelude.{◌≡◌, ◌⊎◌, ℕ, Bool, true, false, List, Some, ⊤, Result, IfOk, IsOk, OnOk, OnErr, IsErrOf}
use Rattle.frame_codec.specs.declared.frame.Frame.{Frame}
use Rattle.net_core.specs.Causes.{IsCaused, MayNotTake, MayNotWork}
use Rattle.net_core.specs.declared.fault.WorkFault.{WorkFault}
use Rattle.net_core.specs.declared.fault.WorkFault.TheVariants as faults
use Rattle.net_core.specs.declared.steps.Moved.{Moved}
use Rattle.net_core.specs.Reads.{ReadsOn, Within}
use Rattle.net_core.specs.Spares.{CountsOnly, LeavesEnds, Spares}
use Rattle.net_core.specs.Known.{FailedStep, KeepsDatabase, Later, Outside, known}
use Rattle.net_core.specs.Wants.{was_blocked}
use Rattle.net_core.specs.Whole.{MayNotStep, seen, state_at}
use Rattle.network_meaning.specs.Calls.{FitWant, Moves, Shape, Knows, Known, Wrote, join}
use Rattle.network_meaning.specs.Language.{Language}
use Rattle.network_meaning.specs.Lawful.{comes}
use Rattle.network_meaning.specs.LocalSteps.{Act, Mode, Works, Want.work, Room as NetworkRoom}
use Rattle.network_meaning.specs.MessageNetwork.{StageNumber, StageNumber.first}
use Rattle.network_meaning.specs.Network.{Between, LocalState, StepsBy, is_blocked, is_stuck, want}
use Rattle.network_meaning.specs.WorkShape.{WorksInShape}
use Rattle.quel_network.specs.Quel.{quel}
use Rattle.quel_network.specs.Sorts.{User, quel_sorts}

-- a stage, and the frames in the pipes on both sides of it
pub record Piped : Type 0 where
  pub stage : LocalState quel_sorts
  pub left_in : List Frame
  pub left_out : List Frame
  pub right_out : List Frame
  pub right_in : List Frame

-- the same in a room
abbrev pub in_room : Piped → NetworkRoom quel_sorts → Between quel_sorts
in_room s r = record { stage = s.stage; left_in = s.left_in; left_out = s.left_out; right_out = s.right_out; right_in = s.right_in; room = r }

-- what a stage that isn't blocked is to work on is fit
abbrev pub FitUnlessBlocked : Language quel_sorts → Between quel_sorts → Bool → Type 0
FitUnlessBlocked L s true = ⊤
FitUnlessBlocked L s false = FitWant L s (want s.stage)

-- one step of a stage, where this is what a piece of work does; nothing changes where it is blocked
abbrev pub PipedStepsBy : (Mode quel_sorts → NetworkRoom quel_sorts → Act quel_sorts → NetworkRoom quel_sorts → Type 0) → Language quel_sorts → Between quel_sorts → Between quel_sorts → Bool → Type 0
PipedStepsBy W L s s' true = s' ≡ s
PipedStepsBy W L s s' false = StepsBy W L s (want s.stage) s'

-- a step was one of the network in this room, and the room is again known, as the step leaves it
pub record PipedIn (L : Language quel_sorts) (blocked : Bool) (old new : Piped) (room : NetworkRoom quel_sorts) (before after : Known quel_sorts) : Type 0 where
  pub room' : NetworkRoom quel_sorts
  pub known : Knows after room'
  pub wrote : Wrote before after room room'
  pub step : PipedStepsBy (Works L) L (in_room old room) (in_room new room') blocked

-- a stage was blocked or not. Whatever the room is, it took, gave, or did work of its shape; where the database and the files are known, what it worked on is fit; and where the room is known, this was a step of the network there
pub record PipedMoves (L : Language quel_sorts) (left right : ℕ) (blocked : Bool) (old new : Piped) (before after : Known quel_sorts) : Type 0 where
  pub is : (room : NetworkRoom quel_sorts) → is_blocked left right (in_room old room) (want old.stage) ≡ blocked
  pub shape : (room : NetworkRoom quel_sorts) → PipedStepsBy (WorksInShape L) L (in_room old room) (in_room new room) blocked
  pub fit : (room : NetworkRoom quel_sorts) → before.db ≡ Some room.db → before.shelf ≡ Some room.shelf → FitUnlessBlocked L (in_room old room) blocked
  pub exact : (room : NetworkRoom quel_sorts) → Knows before room → PipedIn L blocked old new room before after

-- a frame comes to a stage that it may not take, or it is to work on what isn't fit
abbrev pub PipedMayNot : Language quel_sorts → Piped → Outside → Type 0
PipedMayNot L s o =
    ((frame : Frame) × ((r : NetworkRoom quel_sorts) → comes (in_room s r) ≡ Some frame) × MayNotTake L s.stage frame)
    ⊎ ((want s.stage ≡ work) × MayNotWork L s.stage.mode o)

-- what a stage between its pipes has done, or why it failed
pub record PipedDone (left right : ℕ) (old new : Piped) (before after : Outside) (heard heard' place place' : ℕ) (serves serves' : User → Type 0) (result : Result Moved WorkFault) : Type 0 where
  pub blocked : (r : NetworkRoom quel_sorts) → IfOk result (λ moved. is_blocked left right (in_room old r) (want old.stage) ≡ was_blocked moved)
  pub steps : (user : User) → serves user → IfOk result (λ moved. PipedMoves (quel user) left right (was_blocked moved) old new (known before) (known after))
  pub failed : (user : User) → serves user → OnErr result (FailedStep (quel user) old.stage before after)
  pub unlawful : (user : User) → serves user → IsErrOf result faults.Unlawful → PipedMayNot (quel user) old before
  pub untouched : (want old.stage ≡ work → ⊥) → after ≡ before
  pub cause : IsCaused heard before after result
  pub later : Later before after
  pub counts : CountsOnly before after result
  pub spares : Spares before after result
  pub reads : ReadsOn old.stage.mode heard heard' before after (IsErrOf result faults.Source) (IsOk result)
  pub within : Within heard heard' result
  pub ends : (place ≡ 1 → ⊥) → LeavesEnds heard heard' before after result
  pub database : OnOk result (KeepsDatabase before after)
  pub serve : (user : User) → serves user → serves' user
  pub placed : place' ≡ place

-- what step k of the network has done, or why it failed; of what was read, all stages and the first alone
pub record StepDone (capacity : ℕ) (k : StageNumber) (old new : Shape quel_sorts) (before after : Outside) (heard heard' one one' : ℕ) (serves serves' : User → Type 0) (numbers numbers' : Type 0) (result : Result Moved WorkFault) : Type 0 where
  pub blocked : (r : NetworkRoom quel_sorts) → IfOk result (λ moved. is_stuck capacity k (join old r) ≡ was_blocked moved)
  pub steps : (user : User) → serves user → IfOk result (λ moved. Moves (quel user) capacity k (was_blocked moved) (seen old before) (seen new after))
  pub failed : (user : User) → serves user → OnErr result (FailedStep (quel user) (state_at old k) before after)
  pub unlawful : (user : User) → serves user → IsErrOf result faults.Unlawful → MayNotStep (quel user) k old before
  pub untouched : (want (state_at old k) ≡ work → ⊥) → after ≡ before
  pub cause : IsCaused heard before after result
  pub later : Later before after
  pub counts : CountsOnly before after result
  pub spares : Spares before after result
  pub reads : ReadsOn (state_at old k).mode heard heard' before after (IsErrOf result faults.Source) (IsOk result)
  pub within : numbers → Within one one' result
  pub ends : numbers → (k ≡ first → ⊥) → LeavesEnds heard heard' before after result
  pub database : OnOk result (KeepsDatabase before after)
  pub serve : (user : User) → serves user → serves' user
  pub numbered : numbers → numbers'
