-- What comes to a stage, and whether it is lawful for it.
use Rattle.std.specs.Prelude.{◌≡◌, Bool, true, false, List, [], ◌∷◌, ◌++◌, Some, None, ⊤}
use Rattle.std.specs.declared.option.Option.{Option}
use Rattle.frame_codec.specs.declared.frame.Frame.{Frame}
use Rattle.frame_codec.specs.Frames.{is_lawful}
use Rattle.network_meaning.specs.Sorts.{Sorts, Message, Message.said}
use Rattle.network_meaning.specs.Language.{Language}
use Rattle.network_meaning.specs.Frames.{frames, whole, is_more}
use Rattle.network_meaning.specs.LocalSteps.{Mode, Want, Act, takes, is_due, IsFit, goes_to_four, may_go_on}
use Rattle.network_meaning.specs.LocalSteps.{Mode.printing, Mode.working3, Mode.working4, Want.take_left, Want.take_right}
use Rattle.network_meaning.specs.Network.{LocalState, Between, want, act_on}

-- the frame in front of this pipe, where it has one
abbrev pub front_of : {F : Type 0} → List F → Option F
front_of [] = None
front_of (f ∷ fs) = Some f

-- the frame in front of the pipe from which this wants to take
abbrev pub in_front : {S : Sorts} → Between S → Want → Option Frame
in_front s take_left = front_of s.left_in
in_front s take_right = front_of s.right_in
in_front s _ = None

-- the frame in front of the pipe from which the stage is to take
abbrev pub comes : {S : Sorts} → Between S → Option Frame
comes s = in_front s (want s.stage)

-- these frames begin a message that this mode takes, and at least one more frame of it follows
pub record GoesOn {S : Sorts} (L : Language S) (mode : Mode S) (begin : List Frame) : Type 0 where
  pub message : Message S
  pub act : Act S
  pub taken : takes L mode message ≡ Some act
  pub next : Frame
  pub later : List Frame
  pub is : frames L message ≡ begin ++ next ∷ later

-- behind the frames that were taken before it: a More frame is one that this mode may take, and goes on with a message that it takes; any other makes such a message whole
abbrev pub LawfulBehind : {S : Sorts} → Language S → Mode S → List Frame → Frame → Bool → Type 0
LawfulBehind L mode got f true = (may_go_on mode ≡ true) × GoesOn L mode (got ++ f ∷ [])
LawfulBehind {S} L mode got f false = (act : Act S) × (act_on L mode (whole L (got ++ f ∷ [])) ≡ Some act)

-- a frame is lawful behind those that were taken on the side from which this wants to take
abbrev pub LawfulAs : {S : Sorts} → Language S → LocalState S → Frame → Want → Type 0
LawfulAs L s f take_left = LawfulBehind L s.mode s.got_left f (is_more f)
LawfulAs L s f take_right = LawfulBehind L s.mode s.got_right f (is_more f)
LawfulAs L s f _ = ⊥

-- a frame is lawful for a stage that is to take it: it has a kind and a length that the protocol allows, and its message is one that the stage takes
abbrev pub Lawful : {S : Sorts} → Language S → LocalState S → Frame → Type 0
Lawful L s f = (is_lawful f ≡ true) × LawfulAs L s f (want s)

-- what is worked on is fit for this database: what is printed is due, a tree or a change is fit, and stage 4 works on a change or a utility
abbrev pub FitWork : {S : Sorts} → Language S → Mode S → S.Db → Type 0
FitWork L (printing m o (said s)) db = is_due L o s ≡ true
FitWork L (working3 t) db = L.Fits t db
FitWork L (working4 x) db = IsFit L x db × (goes_to_four L x ≡ true)
FitWork L _ db = ⊤
