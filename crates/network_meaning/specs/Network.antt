-- The network of frames.
use Rattle.std.specs.Prelude.{◌≡◌, ℕ, Bool, true, false, List, [], ◌∷◌, ◌++◌, Some, None, length, nat_lt, not}
use Rattle.std.specs.declared.option.Option.{Option}
use Rattle.frame_codec.specs.declared.frame.Frame.{Frame}
use Rattle.network_meaning.specs.Sorts.{Sorts, Message}
use Rattle.network_meaning.specs.Language.{Language}
use Rattle.network_meaning.specs.Frames.{spell, AllMore, whole, is_more}
use Rattle.network_meaning.specs.LocalSteps.{Mode, may_go_on, Mode.reading, Mode.idle2, Mode.idle3, Mode.idle4, Want, Act, takes, Works, want_of, Room}
use Rattle.network_meaning.specs.LocalSteps.{Want.take_left, Want.take_right, Want.give_left, Want.give_right, Want.work, Want.none}
use Rattle.network_meaning.specs.Held.{total}
use Rattle.network_meaning.specs.Due.{IsDue}
use Rattle.network_meaning.specs.Spelled.{IsSpelled}
use Rattle.network_meaning.specs.Orderly.{Phase, spread, FitPhase}
use Rattle.network_meaning.specs.MessageNetwork.{MessageNetwork, StageNumber, StageNumber.first, StageNumber.second, StageNumber.third, StageNumber.fourth}

-- a stage: what it is at, the frames of a message that it has taken in part, and those that it is still to give.
-- While there are frames to give, it gives, and is at `mode` only then
pub record LocalState (S : Sorts) : Type 0 where
  pub mode : Mode S
  pub got_left : List Frame
  pub got_right : List Frame
  pub out_left : List Frame
  pub out_right : List Frame

-- what a stage does that has these frames to give: it gives to the left first, then to the right, then as its mode is
abbrev pub want_with : {S : Sorts} → List Frame → List Frame → Mode S → Want
want_with (f ∷ fs) right mode = give_left
want_with [] (f ∷ fs) mode = give_right
want_with [] [] mode = want_of mode

-- what a stage does next
abbrev pub want : {S : Sorts} → LocalState S → Want
want s = want_with s.out_left s.out_right s.mode

-- a stage behind an act, with these frames half taken: what the act gives is spelled behind what is to be given
abbrev pub done_act : {S : Sorts} → Language S → LocalState S → Act S → List Frame → List Frame → LocalState S
done_act L s act got_left got_right =
    record { mode = act.mode; got_left = got_left; got_right = got_right; out_left = s.out_left ++ spell L act.left; out_right = s.out_right ++ spell L act.right }

-- what a stage does with the message, where the frames are one
abbrev pub act_on : {S : Sorts} → Language S → Mode S → Option (Message S) → Option (Act S)
act_on L mode None = None
act_on L mode (Some m) = takes L mode m

-- a frame of the left pipe comes: More is kept where such a message may come, the last one makes the message whole
abbrev pub HasTakenLeft : {S : Sorts} → Language S → LocalState S → Frame → Bool → LocalState S → Type 0
HasTakenLeft L s f true s' = (may_go_on s.mode ≡ true) × (s' ≡ record { mode = s.mode; got_left = s.got_left ++ f ∷ []; got_right = s.got_right; out_left = s.out_left; out_right = s.out_right })
HasTakenLeft {S} L s f false s' = (act : Act S) × (act_on L s.mode (whole L (s.got_left ++ f ∷ [])) ≡ Some act) × (s' ≡ done_act L s act [] s.got_right)

-- a frame of the right pipe comes: More is kept where such a message may come, the last one makes the message whole
abbrev pub HasTakenRight : {S : Sorts} → Language S → LocalState S → Frame → Bool → LocalState S → Type 0
HasTakenRight L s f true s' = (may_go_on s.mode ≡ true) × (s' ≡ record { mode = s.mode; got_left = s.got_left; got_right = s.got_right ++ f ∷ []; out_left = s.out_left; out_right = s.out_right })
HasTakenRight {S} L s f false s' = (act : Act S) × (act_on L s.mode (whole L (s.got_right ++ f ∷ [])) ≡ Some act) × (s' ≡ done_act L s act s.got_left [])

-- a stage between its pipes
pub record Between (S : Sorts) : Type 0 where
  pub stage : LocalState S
  pub left_in : List Frame
  pub left_out : List Frame
  pub right_out : List Frame
  pub right_in : List Frame
  pub room : Room S

-- the first frame of the left pipe was taken
abbrev pub FrameFromLeft : {S : Sorts} → Language S → Between S → List Frame → Between S → Type 0
FrameFromLeft L s [] s' = ⊥
FrameFromLeft {S} L s (f ∷ fs) s' = (stage' : LocalState S) × HasTakenLeft L s.stage f (is_more f) stage' ×
    (s' ≡ record { stage = stage'; left_in = fs; left_out = s.left_out; right_out = s.right_out; right_in = s.right_in; room = s.room })

-- the first frame of the right pipe was taken
abbrev pub FrameFromRight : {S : Sorts} → Language S → Between S → List Frame → Between S → Type 0
FrameFromRight L s [] s' = ⊥
FrameFromRight {S} L s (f ∷ fs) s' = (stage' : LocalState S) × HasTakenRight L s.stage f (is_more f) stage' ×
    (s' ≡ record { stage = stage'; left_in = s.left_in; left_out = s.left_out; right_out = s.right_out; right_in = fs; room = s.room })

-- the first frame to give was given to the left pipe
abbrev pub FrameToLeft : {S : Sorts} → Between S → List Frame → Between S → Type 0
FrameToLeft s [] s' = ⊥
FrameToLeft s (f ∷ fs) s' =
    s' ≡ record {
      stage = record { mode = s.stage.mode; got_left = s.stage.got_left; got_right = s.stage.got_right; out_left = fs; out_right = s.stage.out_right };
      left_in = s.left_in;
      left_out = s.left_out ++ f ∷ [];
      right_out = s.right_out;
      right_in = s.right_in;
      room = s.room;
    }

-- the first frame to give was given to the right pipe
abbrev pub FrameToRight : {S : Sorts} → Between S → List Frame → Between S → Type 0
FrameToRight s [] s' = ⊥
FrameToRight s (f ∷ fs) s' =
    s' ≡ record {
      stage = record { mode = s.stage.mode; got_left = s.stage.got_left; got_right = s.stage.got_right; out_left = s.stage.out_left; out_right = fs };
      left_in = s.left_in;
      left_out = s.left_out;
      right_out = s.right_out ++ f ∷ [];
      right_in = s.right_in;
      room = s.room;
    }

-- one step of a stage that isn't blocked, by what it wants, where this is what a piece of work does
abbrev pub StepsBy : {S : Sorts} → (Mode S → Room S → Act S → Room S → Type 0) → Language S → Between S → Want → Between S → Type 0
StepsBy W L s take_left s' = FrameFromLeft L s s.left_in s'
StepsBy W L s take_right s' = FrameFromRight L s s.right_in s'
StepsBy W L s give_left s' = FrameToLeft s s.stage.out_left s'
StepsBy W L s give_right s' = FrameToRight s s.stage.out_right s'
StepsBy {S} W L s work s' = (act : Act S) × (room' : Room S) × W s.stage.mode s.room act room' ×
    (s' ≡ record { stage = done_act L s.stage act s.stage.got_left s.stage.got_right; left_in = s.left_in; left_out = s.left_out; right_out = s.right_out; right_in = s.right_in; room = room' })
StepsBy W L s none s' = ⊥

-- one step of a stage that isn't blocked, by what it wants
abbrev pub Steps : {S : Sorts} → Language S → Between S → Want → Between S → Type 0
Steps L s w s' = StepsBy (Works L) L s w s'

-- nothing is in the pipe
abbrev pub is_empty : {F : Type 0} → List F → Bool
is_empty [] = true
is_empty (f ∷ fs) = false

-- a pipe is empty or full, or the stage has ended. Stages 1 and 4 have no pipe on one side: as one that holds nothing
abbrev pub is_blocked : {S : Sorts} → ℕ → ℕ → Between S → Want → Bool
is_blocked left right s take_left = is_empty s.left_in
is_blocked left right s take_right = is_empty s.right_in
is_blocked left right s give_left = not (nat_lt (length s.left_out) left)
is_blocked left right s give_right = not (nat_lt (length s.right_out) right)
is_blocked left right s work = false
is_blocked left right s none = true

-- how many frames the pipe to the left of a stage holds: none left of stage 1
abbrev pub left_room : ℕ → StageNumber → ℕ
left_room capacity first = 0
left_room capacity _ = capacity

-- how many frames the pipe to the right of a stage holds: none right of stage 4
abbrev pub right_room : ℕ → StageNumber → ℕ
right_room capacity fourth = 0
right_room capacity _ = capacity

-- four stages; the pipes from 1 to 2, 2 to 3, 3 to 4, 4 to 3, 3 to 2 and 2 to 1; and the room
pub record Network (S : Sorts) : Type 0 where
  pub one : LocalState S
  pub two : LocalState S
  pub three : LocalState S
  pub four : LocalState S
  pub a : List Frame
  pub b : List Frame
  pub c : List Frame
  pub d : List Frame
  pub e : List Frame
  pub f : List Frame
  pub room : Room S

-- a stage of the network between its pipes
abbrev pub between : {S : Sorts} → Network S → StageNumber → Between S
between n first = record { stage = n.one; left_in = []; left_out = []; right_out = n.a; right_in = n.f; room = n.room }
between n second = record { stage = n.two; left_in = n.a; left_out = n.f; right_out = n.b; right_in = n.e; room = n.room }
between n third = record { stage = n.three; left_in = n.b; left_out = n.e; right_out = n.c; right_in = n.d; room = n.room }
between n fourth = record { stage = n.four; left_in = n.c; left_out = n.d; right_out = []; right_in = []; room = n.room }

-- the network with this stage and its pipes as they are now
abbrev pub put_between : {S : Sorts} → Network S → StageNumber → Between S → Network S
put_between n first s = record { one = s.stage; two = n.two; three = n.three; four = n.four; a = s.right_out; b = n.b; c = n.c; d = n.d; e = n.e; f = s.right_in; room = s.room }
put_between n second s = record { one = n.one; two = s.stage; three = n.three; four = n.four; a = s.left_in; b = s.right_out; c = n.c; d = n.d; e = s.right_in; f = s.left_out; room = s.room }
put_between n third s = record { one = n.one; two = n.two; three = s.stage; four = n.four; a = n.a; b = s.left_in; c = s.right_out; d = s.right_in; e = s.left_out; f = n.f; room = s.room }
put_between n fourth s = record { one = n.one; two = n.two; three = n.three; four = s.stage; a = n.a; b = n.b; c = s.left_in; d = s.left_out; e = n.e; f = n.f; room = s.room }

-- step(k), where this is what a piece of work does: nothing changes where stage k is blocked
abbrev pub StepsUnlessBlockedBy : {S : Sorts} → (Mode S → Room S → Act S → Room S → Type 0) → Language S → StageNumber → Network S → Network S → Bool → Type 0
StepsUnlessBlockedBy W L k n n' true = n' ≡ n
StepsUnlessBlockedBy {S} W L k n n' false = (s' : Between S) × StepsBy W L (between n k) (want (between n k).stage) s' × (n' ≡ put_between n k s')

-- step(k): nothing changes where stage k is blocked
abbrev pub StepsUnlessBlocked : {S : Sorts} → Language S → StageNumber → Network S → Network S → Bool → Type 0
StepsUnlessBlocked L k n n' blocked = StepsUnlessBlockedBy (Works L) L k n n' blocked

-- stage k is blocked
abbrev pub is_stuck : {S : Sorts} → ℕ → StageNumber → Network S → Bool
is_stuck capacity k n = is_blocked (left_room capacity k) (right_room capacity k) (between n k) (want (between n k).stage)

-- stage k steps; nothing changes where it is blocked
abbrev pub NetworkStep : {S : Sorts} → Language S → ℕ → StageNumber → Network S → Network S → Type 0
NetworkStep L capacity k n n' = StepsUnlessBlocked L k n n' (is_stuck capacity k n)

-- the network of frames and that of messages: what is half taken, in the pipe and still to be given is one row of whole messages
pub record Shows {S : Sorts} (L : Language S) (n : Network S) (v : MessageNetwork S) : Type 0 where
  pub one : v.one ≡ n.one.mode
  pub two : v.two ≡ n.two.mode
  pub three : v.three ≡ n.three.mode
  pub four : v.four ≡ n.four.mode
  pub room : v.room ≡ n.room
  pub a : n.two.got_left ++ (n.a ++ n.one.out_right) ≡ spell L v.a
  pub b : n.three.got_left ++ (n.b ++ n.two.out_right) ≡ spell L v.b
  pub c : n.four.got_left ++ (n.c ++ n.three.out_right) ≡ spell L v.c
  pub d : n.three.got_right ++ (n.d ++ n.four.out_left) ≡ spell L v.d
  pub e : n.two.got_right ++ (n.e ++ n.three.out_left) ≡ spell L v.e
  pub f : n.one.got_right ++ (n.f ++ n.two.out_left) ≡ spell L v.f
  pub first_left : n.one.out_left ≡ spell L v.first_left
  pub last_right : n.four.out_right ≡ spell L v.last_right
  pub first_got : n.one.got_left ≡ []
  pub last_got : n.four.got_right ≡ []
  pub more_one : AllMore n.one.got_right
  pub more_two_left : AllMore n.two.got_left
  pub more_two_right : AllMore n.two.got_right
  pub more_three_left : AllMore n.three.got_left
  pub more_three_right : AllMore n.three.got_right
  pub more_four : AllMore n.four.got_left

-- the message, where there is one, in front of others
abbrev pub and_then : {S : Sorts} → Option (Message S) → List (Message S) → List (Message S)
and_then None ms = ms
and_then (Some m) ms = m ∷ ms

-- the messages that these frames spell, after those of a message that has begun
abbrev pub gather : {S : Sorts} → Language S → List Frame → List Frame → List (Message S)
gather L begun [] = []
gather L begun (f ∷ fs) = elim (is_more f) [ true ↦ gather L (begun ++ f ∷ []) fs | false ↦ and_then (whole L (begun ++ f ∷ [])) (gather L [] fs) ]

-- the network as messages
abbrev pub as_messages : {S : Sorts} → Language S → Network S → MessageNetwork S
as_messages L n =
    record {
      one = n.one.mode;
      two = n.two.mode;
      three = n.three.mode;
      four = n.four.mode;
      a = gather L [] (n.two.got_left ++ (n.a ++ n.one.out_right));
      b = gather L [] (n.three.got_left ++ (n.b ++ n.two.out_right));
      c = gather L [] (n.four.got_left ++ (n.c ++ n.three.out_right));
      d = gather L [] (n.three.got_right ++ (n.d ++ n.four.out_left));
      e = gather L [] (n.two.got_right ++ (n.e ++ n.three.out_left));
      f = gather L [] (n.one.got_right ++ (n.f ++ n.two.out_left));
      first_left = gather L [] n.one.out_left;
      last_right = gather L [] n.four.out_right;
      room = n.room;
    }

-- all else is determined by the place of the turn
pub record Orderly {S : Sorts} (L : Language S) (n : Network S) : Type 0 where
  pub phase : Phase S
  pub fits : FitPhase L phase n.room.db
  pub due : IsDue L (spread phase n.room)
  pub spelled : IsSpelled L (spread phase n.room)
  pub shows : Shows L n (spread phase n.room)

-- the bytes written, then those of what is held, then the rest
abbrev pub bytes_in_all : {S : Sorts} → Language S → Network S → List ℕ
bytes_in_all L n = total L (as_messages L n)

-- a stage that has nothing in its hands
abbrev pub quiet_at : {S : Sorts} → Mode S → LocalState S
quiet_at mode = record { mode = mode; got_left = []; got_right = []; out_left = []; out_right = [] }

-- the start: stage 1 reads, the others are idle, and the pipes are empty
abbrev pub start : {S : Sorts} → S.Monitor → S.Ranges → Room S → Network S
start m ranges room = record { one = quiet_at (reading m); two = quiet_at (idle2 ranges); three = quiet_at idle3; four = quiet_at idle4; a = []; b = []; c = []; d = []; e = []; f = []; room = room }
