-- The network of messages: what is in a stage's hands, in a pipe or half taken counts as on its way.
use Rattle.std.specs.Prelude.{◌≡◌, List, [], ◌∷◌, ◌++◌, Some}
use Rattle.network_meaning.specs.Sorts.{Sorts, Message}
use Rattle.network_meaning.specs.Language.{Language}
use Rattle.network_meaning.specs.LocalSteps.{Mode, Want, Act, takes, Works, want_of, Room}
use Rattle.network_meaning.specs.LocalSteps.{Want.take_left, Want.take_right, Want.work}

-- four local states, the messages on their way from 1 to 2, 2 to 3, 3 to 4, 4 to 3, 3 to 2, 2 to 1, and the room
pub record MessageNetwork (S : Sorts) : Type 0 where
  pub one : Mode S
  pub two : Mode S
  pub three : Mode S
  pub four : Mode S
  pub a : List (Message S)
  pub b : List (Message S)
  pub c : List (Message S)
  pub d : List (Message S)
  pub e : List (Message S)
  pub f : List (Message S)
  -- what stage 1 gives to the left and stage 4 to the right: nothing, ever
  pub first_left : List (Message S)
  pub last_right : List (Message S)
  pub room : Room S

-- a stage between its queues
pub record Beside (S : Sorts) : Type 0 where
  pub mode : Mode S
  pub left_in : List (Message S)
  pub left_out : List (Message S)
  pub right_out : List (Message S)
  pub right_in : List (Message S)
  pub room : Room S

-- the stage and its queues behind an act
abbrev pub acted : {S : Sorts} → Beside S → Act S → List (Message S) → List (Message S) → Room S → Beside S
acted s act left_in right_in room =
    record {
      mode = act.mode;
      left_in = left_in;
      left_out = s.left_out ++ act.left;
      right_out = s.right_out ++ act.right;
      right_in = right_in;
      room = room;
    }

-- the stage takes the first message from the left
abbrev pub TakesLeft : {S : Sorts} → Language S → Beside S → List (Message S) → Beside S → Type 0
TakesLeft L s [] s' = ⊥
TakesLeft {S} L s (m ∷ ms) s' = (act : Act S) × (takes L s.mode m ≡ Some act) × (s' ≡ acted s act ms s.right_in s.room)

-- the stage takes the first message from the right
abbrev pub TakesRight : {S : Sorts} → Language S → Beside S → List (Message S) → Beside S → Type 0
TakesRight L s [] s' = ⊥
TakesRight {S} L s (m ∷ ms) s' = (act : Act S) × (takes L s.mode m ≡ Some act) × (s' ≡ acted s act s.left_in ms s.room)

-- the stage takes or works, as it wants, where this is what a piece of work does
abbrev pub MovesBy : {S : Sorts} → (Mode S → Room S → Act S → Room S → Type 0) → Language S → Beside S → Want → Beside S → Type 0
MovesBy W L s take_left s' = TakesLeft L s s.left_in s'
MovesBy W L s take_right s' = TakesRight L s s.right_in s'
MovesBy {S} W L s work s' = (act : Act S) × (room' : Room S) × W s.mode s.room act room' × (s' ≡ acted s act s.left_in s.right_in room')
MovesBy W L s _ s' = ⊥

-- the stage takes or works, as it wants
abbrev pub Moves : {S : Sorts} → Language S → Beside S → Want → Beside S → Type 0
Moves L s w s' = MovesBy (Works L) L s w s'

-- the four stages: monitor, parser, processor, utilities
pub data StageNumber : Type 0 where
  first : StageNumber
  second : StageNumber
  third : StageNumber
  fourth : StageNumber

-- a stage of the network with its queues
abbrev pub beside : {S : Sorts} → MessageNetwork S → StageNumber → Beside S
beside v first = record { mode = v.one; left_in = []; left_out = v.first_left; right_out = v.a; right_in = v.f; room = v.room }
beside v second = record { mode = v.two; left_in = v.a; left_out = v.f; right_out = v.b; right_in = v.e; room = v.room }
beside v third = record { mode = v.three; left_in = v.b; left_out = v.e; right_out = v.c; right_in = v.d; room = v.room }
beside v fourth = record { mode = v.four; left_in = v.c; left_out = v.d; right_out = v.last_right; right_in = []; room = v.room }

-- the network with this stage as it is now
abbrev pub put : {S : Sorts} → MessageNetwork S → StageNumber → Beside S → MessageNetwork S
put v first s = record { one = s.mode; two = v.two; three = v.three; four = v.four; a = s.right_out; b = v.b; c = v.c; d = v.d; e = v.e; f = s.right_in; first_left = s.left_out; last_right = v.last_right; room = s.room }
put v second s = record { one = v.one; two = s.mode; three = v.three; four = v.four; a = s.left_in; b = s.right_out; c = v.c; d = v.d; e = s.right_in; f = s.left_out; first_left = v.first_left; last_right = v.last_right; room = s.room }
put v third s = record { one = v.one; two = v.two; three = s.mode; four = v.four; a = v.a; b = s.left_in; c = s.right_out; d = s.right_in; e = s.left_out; f = v.f; first_left = v.first_left; last_right = v.last_right; room = s.room }
put v fourth s = record { one = v.one; two = v.two; three = v.three; four = s.mode; a = v.a; b = v.b; c = s.left_in; d = s.left_out; e = v.e; f = v.f; first_left = v.first_left; last_right = s.right_out; room = s.room }

-- stage k takes a whole message or works, where this is what a piece of work does. To give changes nothing here
abbrev pub MessageStepBy : {S : Sorts} → (Mode S → Room S → Act S → Room S → Type 0) → Language S → StageNumber → MessageNetwork S → MessageNetwork S → Type 0
MessageStepBy {S} W L k v v' = (s' : Beside S) × MovesBy W L (beside v k) (want_of (beside v k).mode) s' × (v' ≡ put v k s')

-- stage k takes a whole message or works
abbrev pub MessageStep : {S : Sorts} → Language S → StageNumber → MessageNetwork S → MessageNetwork S → Type 0
MessageStep L k v v' = MessageStepBy (Works L) L k v v'
