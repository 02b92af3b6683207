-- The words of the contracts of the stages and the network.
use Rattle.std.specs.Prelude.{◌≡◌, ◌==◌, ◌++◌, if◌then◌else◌, ℕ, Bool, true, false, List, [], ◌∷◌, Some, ⊤}
use Rattle.std.specs.declared.option.Option.{Option}
use Rattle.std.specs.Io.KnownBytes.{Appends}
use Rattle.frame_codec.specs.declared.frame.Frame.{Frame}
use Rattle.frame_codec.specs.Frames.{is_lawful}
use Rattle.network_meaning.specs.Sorts.{Sorts}
use Rattle.network_meaning.specs.Language.{Language}
use Rattle.network_meaning.specs.Frames.{is_more}
use Rattle.network_meaning.specs.LocalSteps.{Mode, Want, Act, Works, Room}
use Rattle.network_meaning.specs.LocalSteps.{Want.take_left, Want.take_right, Want.give_left, Want.give_right, Want.work}
use Rattle.network_meaning.specs.MessageNetwork.{StageNumber, StageNumber.first, StageNumber.second, StageNumber.third, StageNumber.fourth}
use Rattle.network_meaning.specs.Ending.{KeepsEnd}
use Rattle.network_meaning.specs.Network.{LocalState, Between, Network, as_messages, between, want, done_act, HasTakenLeft, HasTakenRight, is_stuck, StepsUnlessBlocked, StepsUnlessBlockedBy, Orderly, bytes_in_all}
use Rattle.network_meaning.specs.Lawful.{FitWork}
use Rattle.network_meaning.specs.WorkShape.{WorkShape, WorksInShape}

-- a stage that wants to take from this side has taken a frame
abbrev pub TakenAs : {S : Sorts} → Language S → LocalState S → Frame → Want → LocalState S → Type 0
TakenAs L s f take_left s' = HasTakenLeft L s f (is_more f) s'
TakenAs L s f take_right s' = HasTakenRight L s f (is_more f) s'
TakenAs L s f _ s' = ⊥

-- a stage has taken a frame, which has a kind and a length that the protocol allows
abbrev pub Taken : {S : Sorts} → Language S → LocalState S → Frame → LocalState S → Type 0
Taken L s f s' = (is_lawful f ≡ true) × TakenAs L s f (want s) s'

-- a stage has given the first of these frames to the left
abbrev pub GivenLeft : {S : Sorts} → LocalState S → List Frame → Frame → LocalState S → Type 0
GivenLeft s [] f s' = ⊥
GivenLeft s (g ∷ gs) f s' = (f ≡ g) × (s' ≡ record { mode = s.mode; got_left = s.got_left; got_right = s.got_right; out_left = gs; out_right = s.out_right })

-- a stage has given the first of these frames to the right
abbrev pub GivenRight : {S : Sorts} → LocalState S → List Frame → Frame → LocalState S → Type 0
GivenRight s [] f s' = ⊥
GivenRight s (g ∷ gs) f s' = (f ≡ g) × (s' ≡ record { mode = s.mode; got_left = s.got_left; got_right = s.got_right; out_left = s.out_left; out_right = gs })

-- a stage that wants to give to this side has given a frame
abbrev pub GivenAs : {S : Sorts} → LocalState S → Frame → Want → LocalState S → Type 0
GivenAs s f give_left s' = GivenLeft s s.out_left f s'
GivenAs s f give_right s' = GivenRight s s.out_right f s'
GivenAs s f _ s' = ⊥

-- a stage has given a frame
abbrev pub Given : {S : Sorts} → LocalState S → Frame → LocalState S → Type 0
Given s f s' = GivenAs s f (want s) s'

-- what is known of a room, part by part: the database, the shelf, the rest of the script, and the bytes that were written
pub record Known (S : Sorts) : Type 0 where
  pub db : Option S.Db
  pub shelf : Option S.Shelf
  pub script : Option S.Script
  pub out : Option (List ℕ)

-- a room is known: the database, the shelf and the script are known, and they are those of this room. What was written needn't be known
pub record Knows {S : Sorts} (known : Known S) (room : Room S) : Type 0 where
  pub db : known.db ≡ Some room.db
  pub shelf : known.shelf ≡ Some room.shelf
  pub script : known.script ≡ Some room.script

-- from the first room to the second bytes were written, and where it is known what was written, it grew by them
abbrev pub Wrote : {S : Sorts} → Known S → Known S → Room S → Room S → Type 0
Wrote known known' room room' = (bytes : List ℕ) × (room'.out ≡ room.out ++ bytes) × Appends known.out known'.out bytes

-- where the database and the shelf are known, what is worked on at this mode is fit
abbrev pub FitWhereKnown : {S : Sorts} → Language S → Mode S → Known S → Type 0
FitWhereKnown {S} L mode known = (db : S.Db) (shelf : S.Shelf) → known.db ≡ Some db → known.shelf ≡ Some shelf → FitWork L mode db

-- the act is the network's in this room: the room is again known, as the work leaves it
pub record WorkedIn {S : Sorts} (L : Language S) (mode : Mode S) (act : Act S) (room : Room S) (before after : Known S) : Type 0 where
  pub room' : Room S
  pub known : Knows after room'
  pub wrote : Wrote before after room room'
  pub works : Works L mode room act room'

-- a stage has worked: whatever is known, its act has the shape of such a piece of work; where the database and the shelf are known, what was worked on is fit; and where the room is known, it is the network's act there
pub record WorkDone {S : Sorts} (L : Language S) (s s' : LocalState S) (before after : Known S) : Type 0 where
  pub act : Act S
  pub is : s' ≡ done_act L s act s.got_left s.got_right
  pub shape : WorkShape L s.mode act
  pub fit : FitWhereKnown L s.mode before
  pub exact : (room : Room S) → Knows before room → WorkedIn L s.mode act room before after

-- the network but for the room
pub record Shape (S : Sorts) : Type 0 where
  pub one : LocalState S
  pub two : LocalState S
  pub three : LocalState S
  pub four : LocalState S
  pub a : List Frame
  pub b : List Frame
  pub c : List Frame
  pub d : List Frame
  pub e : List Frame
  pub f : List Frame

-- the network with this room
abbrev pub join : {S : Sorts} → Shape S → Room S → Network S
join s room = record { one = s.one; two = s.two; three = s.three; four = s.four; a = s.a; b = s.b; c = s.c; d = s.d; e = s.e; f = s.f; room = room }

-- the network but for the room, and what is known of the room
pub record Seen (S : Sorts) : Type 0 where
  pub shape : Shape S
  pub known : Known S

-- where a stage wants to work, what it is to work on is fit
abbrev pub FitWant : {S : Sorts} → Language S → Between S → Want → Type 0
FitWant L s work = FitWork L s.stage.mode s.room.db
FitWant L s _ = ⊤

-- where stage k isn't blocked and works, what it is to work on is fit
abbrev pub FitStep : {S : Sorts} → Language S → StageNumber → Network S → Bool → Type 0
FitStep L k n true = ⊤
FitStep L k n false = FitWant L (between n k) (want (between n k).stage)

-- step k was one of the network in this room, and the room is again known, as the step leaves it
pub record MovesIn {S : Sorts} (L : Language S) (k : StageNumber) (blocked : Bool) (old new : Seen S) (room : Room S) : Type 0 where
  pub room' : Room S
  pub known : Knows new.known room'
  pub wrote : Wrote old.known new.known room room'
  pub step : StepsUnlessBlocked L k (join old.shape room) (join new.shape room') blocked

-- step k was blocked or not. Whatever the room is, the stage took, gave, or did work of its shape; where the database and the shelf are known, what it worked on is fit; and where the room is known, this was a step of the network there
pub record Moves {S : Sorts} (L : Language S) (capacity : ℕ) (k : StageNumber) (blocked : Bool) (old new : Seen S) : Type 0 where
  pub is : (room : Room S) → is_stuck capacity k (join old.shape room) ≡ blocked
  pub shape : (room : Room S) → StepsUnlessBlockedBy (WorksInShape L) L k (join old.shape room) (join new.shape room) blocked
  pub fit : (room : Room S) → old.known.db ≡ Some room.db → old.known.shelf ≡ Some room.shelf → FitStep L k (join old.shape room) blocked
  pub exact : (room : Room S) → Knows old.known room → MovesIn L k blocked old new room

-- the stage with this number, 1 to 4
abbrev pub stage_number : ℕ → StageNumber
stage_number k = if k == 1 then first else (if k == 2 then second else (if k == 3 then third else fourth))

-- the steps of a list, one after the other
abbrev pub RunsTurns : {S : Sorts} → Language S → ℕ → List ℕ → Seen S → Seen S → Type 0
RunsTurns L capacity [] old new = new ≡ old
RunsTurns {S} L capacity (k ∷ ks) old new = (mid : Seen S) × (blocked : Bool) × Moves L capacity (stage_number k) blocked old mid × RunsTurns L capacity ks mid new

-- from an orderly network with a room that is known: it is orderly and known again, the bytes in all are the same, what was written grew as from that room to this, and the session ends as it was to end
pub record KeptNow {S : Sorts} (L : Language S) (r : Room S) (old new : Seen S) : Type 0 where
  pub room : Room S
  pub known : Knows new.known room
  pub wrote : Wrote old.known new.known r room
  pub orderly : Orderly L (join new.shape room)
  pub same : bytes_in_all L (join new.shape room) ≡ bytes_in_all L (join old.shape r)
  pub ends : KeepsEnd L (as_messages L (join old.shape r)) (as_messages L (join new.shape room))

-- from each orderly network with a room that is known it is kept so
abbrev pub KeepsAll : {S : Sorts} → Language S → Seen S → Seen S → Type 0
KeepsAll {S} L old new = (r : Room S) → Knows old.known r → Orderly L (join old.shape r) → KeptNow L r old new
