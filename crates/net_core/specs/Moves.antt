-- What a stage does, step by step: it takes frames, gives frames, and works.
use Rattle.std.specs.Prelude.{◌≡◌, ℕ, ◌+◌, List, [], ◌∷◌, length, Option}
use Rattle.std.specs.List.{flat_map}
use Rattle.calculus.specs.Database.{Db}
use Rattle.frame_codec.specs.declared.frame.Frame.{Frame}
use Rattle.frame_codec.specs.Frames.{frame_bytes}
use Rattle.net_core.specs.Crashes.{HandsOver, QuietWithout}
use Rattle.net_core.specs.Known.{Outside, known}
use Rattle.network_meaning.specs.Calls.{Given, Taken, WorkDone}
use Rattle.network_meaning.specs.Language.{Language}
use Rattle.network_meaning.specs.LocalSteps.{Want.take_left, Want.take_right, Want.give_left, Want.give_right, Want.work}
use Rattle.network_meaning.specs.Network.{LocalState, want}
use Rattle.quel_network.specs.Sorts.{quel_sorts}

-- one step: a frame was taken from a side or given to one, or the stage worked
pub data Move : Type 0 where
  took_left : Frame → Move
  took_right : Frame → Move
  gave_left : Frame → Move
  gave_right : Frame → Move
  worked : Move

-- where a stage is, the outside as its room tells it, and what is known of the schema
pub record At : Type 0 where
  pub state : LocalState quel_sorts
  pub outside : Outside
  pub schema : Option Db

-- the room is as it was
abbrev pub SameRoom : At → At → Type 0
SameRoom a b = (b.outside ≡ a.outside) × (b.schema ≡ a.schema)

-- the step leads from here to there, and is the one that the stage wanted. Only work changes the room; without the turn it leaves the disk alone, and where it gives the turn away the base was handed over
abbrev pub StepsBy : Language quel_sorts → Move → At → At → Type 0
StepsBy L (took_left frame) a b = (want a.state ≡ take_left) × Taken L a.state frame b.state × SameRoom a b
StepsBy L (took_right frame) a b = (want a.state ≡ take_right) × Taken L a.state frame b.state × SameRoom a b
StepsBy L (gave_left frame) a b = (want a.state ≡ give_left) × Given a.state frame b.state × SameRoom a b
StepsBy L (gave_right frame) a b = (want a.state ≡ give_right) × Given a.state frame b.state × SameRoom a b
StepsBy L worked a b =
    (want a.state ≡ work) × WorkDone L a.state b.state (known a.outside) (known b.outside) × QuietWithout a.state a.outside b.outside × HandsOver a.state b.state b.schema b.outside.database

-- the steps lead from here to there, one after the other
abbrev pub LocalRun : Language quel_sorts → List Move → At → At → Type 0
LocalRun L [] a b = b ≡ a
LocalRun L (m ∷ ms) a b = (mid : At) × StepsBy L m a mid × LocalRun L ms mid b

-- the frame that this step took from the left, if it did
abbrev pub from_left : Move → List Frame
from_left (took_left frame) = frame ∷ []
from_left _ = []

-- the frame that this step took from the right, if it did
abbrev pub from_right : Move → List Frame
from_right (took_right frame) = frame ∷ []
from_right _ = []

-- the frame that this step gave to the left, if it did
abbrev pub to_left : Move → List Frame
to_left (gave_left frame) = frame ∷ []
to_left _ = []

-- the frame that this step gave to the right, if it did
abbrev pub to_right : Move → List Frame
to_right (gave_right frame) = frame ∷ []
to_right _ = []

-- the frames that were taken from the left
abbrev pub taken_left : List Move → List Frame
taken_left moves = flat_map from_left moves

-- the frames that were taken from the right
abbrev pub taken_right : List Move → List Frame
taken_right moves = flat_map from_right moves

-- the frames that were given to the left
abbrev pub given_left : List Move → List Frame
given_left moves = flat_map to_left moves

-- the frames that were given to the right
abbrev pub given_right : List Move → List Frame
given_right moves = flat_map to_right moves

-- the place in each stream behind the frames that were taken, and the place of the frame that was taken last
pub record Places : Type 0 where
  pub left : ℕ
  pub right : ℕ
  pub last : ℕ

-- the places behind one step more
abbrev pub passed : Places → Move → Places
passed p (took_left frame) = record { left = p.left + length (frame_bytes frame); right = p.right; last = p.left }
passed p (took_right frame) = record { left = p.left; right = p.right + length (frame_bytes frame); last = p.right }
passed p (gave_left frame) = p
passed p (gave_right frame) = p
passed p worked = p

-- the places behind these steps
abbrev pub places_from : Places → List Move → Places
places_from p [] = p
places_from p (m ∷ ms) = places_from (passed p m) ms

-- the places where nothing was taken yet
abbrev pub first_places : Places
first_places = record { left = 0; right = 0; last = 0 }

-- the first byte, in its stream, of the frame that was taken last; 0 where none was
abbrev pub last_place : List Move → ℕ
last_place moves = (places_from first_places moves).last
