-- What a list of turns leads to.
use Rattle.std.specs.Prelude.{◌≡◌, ◌⊎◌, ◌<◌, ◌≤◌, ℕ, List, [], ◌∷◌}
use Rattle.network_meaning.specs.Calls.{Seen, Knows, Wrote, join, stage_number}
use Rattle.network_meaning.specs.Ending.{Ends, KeepsEnd}
use Rattle.network_meaning.specs.Going.{AllEnded, SomeGoes}
use Rattle.network_meaning.specs.Language.{HasStopped, Language}
use Rattle.network_meaning.specs.LocalSteps.{Room}
use Rattle.network_meaning.specs.MessageNetwork.{StageNumber}
use Rattle.network_meaning.specs.Network.{Orderly, as_messages, bytes_in_all}
use Rattle.network_meaning.specs.Sorts.{SessionEnd, Sorts}
use Rattle.network_meaning.specs.Statements.{FinishesFront, statements_left}
use Rattle.network_meaning.specs.Turn as turn
use Rattle.network_meaning.specs.WorkLeft.{Work, work_left}

-- the list has a turn of this stage
abbrev pub Has : StageNumber → List ℕ → Type 0
Has k [] = ⊥
Has k (j ∷ js) = (stage_number j ≡ k) ⊎ Has k js

-- the list has a turn of each stage
abbrev pub HasAll : List ℕ → Type 0
HasAll turns = (k : StageNumber) → Has k turns

-- from an orderly network whose room is known, turns have led to one that is orderly and told again: the bytes in all are the same, what was written grew, a front of the statements was finished, and the session ends as it was to end;
-- the turn is in one place, and some stage goes on unless all have ended; no more work is left, and less where each stage had a turn and not all had ended before;
-- where all have ended, all bytes are written, no statement is left, and the session has come to that end
pub record LeadsTo {S : Sorts} (L : Language S) (W : Work L) (capacity : ℕ) (turns : List ℕ) (r : Room S) (old new : Seen S) : Type 0 where
  pub room : Room S
  pub known : Knows new.known room
  pub wrote : Wrote old.known new.known r room
  pub orderly : Orderly L (join new.shape room)
  pub same : bytes_in_all L (join new.shape room) ≡ bytes_in_all L (join old.shape r)
  pub finished : FinishesFront L (as_messages L (join old.shape r)) (as_messages L (join new.shape room))
  pub ends : KeepsEnd L (as_messages L (join old.shape r)) (as_messages L (join new.shape room))
  pub one : turn.turns (as_messages L (join new.shape room)) ≡ 1
  pub goes : 1 ≤ capacity → SomeGoes capacity (join new.shape room) ⊎ AllEnded (join new.shape room)
  pub most : work_left L W (join new.shape room) ≤ work_left L W (join old.shape r)
  pub less : 1 ≤ capacity → HasAll turns → (work_left L W (join new.shape room) < work_left L W (join old.shape r)) ⊎ AllEnded (join old.shape r)
  pub whole : AllEnded (join new.shape room) → room.out ≡ bytes_in_all L (join old.shape r)
  pub none_left : AllEnded (join new.shape room) → statements_left L (as_messages L (join new.shape room)) ≡ []
  pub stopped : AllEnded (join new.shape room) → (e : SessionEnd S) → Ends L (as_messages L (join old.shape r)) e → HasStopped L room.db room.shelf room.script e

-- from each orderly network whose room is known, turns lead on
abbrev pub LeadsOn : {S : Sorts} (L : Language S) → Work L → ℕ → List ℕ → Seen S → Seen S → Type 0
LeadsOn {S} L W capacity turns old new = (r : Room S) → Knows old.known r → Orderly L (join old.shape r) → LeadsTo L W capacity turns r old new
