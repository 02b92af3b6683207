-- What a crash leaves of the database while stages work, and when its disk stands still.
use Rattle.std.specs.Prelude.{◌≡◌, ◌<◌, ℕ, true, false, List, Some, length, take, get_or, Result, OnOk}
use Rattle.std.specs.declared.option.Option.{Option}
use Rattle.base_trait.specs.Crashes.{LeavesBut, AllDenote}
use Rattle.calculus.specs.Database.{Db}
use Rattle.net_core.specs.Known.{Outside, known}
use Rattle.net_core.specs.Whole.{state_at}
use Rattle.network_meaning.specs.Calls.{RunsTurns, Seen, Knows, stage_number}
use Rattle.network_meaning.specs.Language.{Language}
use Rattle.network_meaning.specs.LocalSteps.{Act, Mode, Works, Want.work, Room as NetworkRoom}
use Rattle.network_meaning.specs.MessageNetwork.{StageNumber, StageNumber.first}
use Rattle.network_meaning.specs.Network.{LocalState, want}
use Rattle.network_meaning.specs.Turn.{has_turn}
use Rattle.quel_network.specs.Quel.{quel}
use Rattle.quel_network.specs.Sorts.{User, quel_sorts}

-- this work leaves this database of a room
abbrev pub MayLeave : Language quel_sorts → Mode quel_sorts → NetworkRoom quel_sorts → Option Db → Type 0
MayLeave L mode room o = (act : Act quel_sorts) × (room' : NetworkRoom quel_sorts) × Works L mode room act room' × (o ≡ Some room'.db)

-- where the room is known, a crash leaves what it might leave before the work, or the database that the work leaves
abbrev pub WorkLeaves : Language quel_sorts → Mode quel_sorts → Outside → Outside → (ℕ → Option Db → Type 0) → (ℕ → Option Db → Type 0) → Type 0
WorkLeaves L mode before after left left' = (room : NetworkRoom quel_sorts) → Knows (known before) room → LeavesBut (MayLeave L mode room) before.clock after.clock left left'

-- a stage works, and its work leaves this database
abbrev pub StepMayLeave : Language quel_sorts → LocalState quel_sorts → NetworkRoom quel_sorts → Option Db → Type 0
StepMayLeave L s room o = (want s ≡ work) × MayLeave L s.mode room o

-- where the room is known, a crash leaves what it might leave before the step, or the database that the step's work leaves
abbrev pub StepLeaves : Language quel_sorts → LocalState quel_sorts → Outside → Outside → (ℕ → Option Db → Type 0) → (ℕ → Option Db → Type 0) → Type 0
StepLeaves L s before after left left' = (room : NetworkRoom quel_sorts) → Knows (known before) room → LeavesBut (StepMayLeave L s room) before.clock after.clock left left'

-- where each image of before denotes the database of before, each of after stands for that of after
abbrev pub StaysDurable : Outside → Outside → (ℕ → Option Db → Type 0) → (ℕ → Option Db → Type 0) → Type 0
StaysDurable before after left left' = (db db' : Db) → before.database ≡ Some db → after.database ≡ Some db' → AllDenote before.clock left db → AllDenote after.clock left' db'

-- the disk was neither read nor written
abbrev pub IsQuiet : Outside → Outside → Type 0
IsQuiet before after = (after.clock ≡ before.clock) × (after.reads ≡ before.reads)

-- a stage without the turn leaves the disk alone
abbrev pub QuietWithout : LocalState quel_sorts → Outside → Outside → Type 0
QuietWithout s before after = (k : StageNumber) → has_turn k s.mode ≡ false → IsQuiet before after

-- nothing is kept of the disk: no schema is known but that of a database that is known
abbrev pub IsForgotten : Option Db → Option Db → Type 0
IsForgotten schema database = (s : Db) → schema ≡ Some s → database ≡ Some s

-- where a stage worked with the turn, and has it no more and has not ended, it has handed the base over, and asked nothing of it since
abbrev pub HandsOver : LocalState quel_sorts → LocalState quel_sorts → Option Db → Option Db → Type 0
HandsOver s s' schema database = want s ≡ work → has_turn first s.mode ≡ true → has_turn first s'.mode ≡ false → IsForgotten schema database

-- what a step of a stage at this state has done to the disk below the database
pub record StepCrash {T E : Type 0} (serves : User → Type 0) (s s' : LocalState quel_sorts) (before after : Outside) (left left' : ℕ → Option Db → Type 0) (schema : Option Db) (result : Result T E) : Type 0 where
  pub crash : (user : User) → serves user → StepLeaves (quel user) s before after left left'
  pub durable : OnOk result (StaysDurable before after left left')
  pub quiet : QuietWithout s before after
  pub handed : OnOk result (HandsOver s s' schema after.database)

-- the steps of some first turns of a list lead to a room where the work of the next one leaves this database
pub record TurnsMayLeave (L : Language quel_sorts) (capacity : ℕ) (turns : List ℕ) (old : Seen quel_sorts) (o : Option Db) : Type 0 where
  pub at : ℕ
  pub there : at < length turns
  pub before : Seen quel_sorts
  pub room : NetworkRoom quel_sorts
  pub runs : RunsTurns L capacity (take at turns) old before
  pub known : Knows before.known room
  pub leaves : StepMayLeave L (state_at before.shape (stage_number (get_or turns at 0))) room o

-- where the room is known, a crash leaves what it might leave before these turns, or a database that their steps leave
abbrev pub TurnsLeave : Language quel_sorts → ℕ → List ℕ → Seen quel_sorts → ℕ → ℕ → (ℕ → Option Db → Type 0) → (ℕ → Option Db → Type 0) → Type 0
TurnsLeave L capacity turns old before now left left' = (room : NetworkRoom quel_sorts) → Knows old.known room → LeavesBut (TurnsMayLeave L capacity turns old) before now left left'
