-- The network of the program, as the network of the definitions.
use Rattle.std.specs.Prelude.{◌≡◌, ◌⊎◌, ◌+◌, ◌++◌, [], ◌∷◌, ℕ, List, Some}
use Rattle.std.specs.Io.KnownBytes.{Appends}
use Rattle.frame_codec.specs.declared.frame.Frame.{Frame}
use Rattle.net_core.specs.Causes.{MayNotTake, MayNotWork}
use Rattle.net_core.specs.declared.fault.WorkFault.{WorkFault}
use Rattle.net_core.specs.declared.fault.WorkFault.TheVariants as faults
use Rattle.net_core.specs.declared.net.Net.{Net}
use Rattle.net_core.specs.Reads.{ReadsOn, ReadsWhole}
use Rattle.net_core.specs.Spares.{CountsOnlyBy, IsNoFaultOfEnds, SparesBy, ends}
use Rattle.net_core.specs.Known.{FailedStep, Outside, known}
use Rattle.net_core.specs.Wants.{HasEnded}
use Rattle.network_meaning.specs.Calls.{join, RunsTurns, Seen, Shape, Knows, stage_number}
use Rattle.network_meaning.specs.Failing.{Begins}
use Rattle.network_meaning.specs.Language.{Language}
use Rattle.network_meaning.specs.Lawful.{comes}
use Rattle.network_meaning.specs.LocalSteps.{Mode.reading, Mode.idle2, Mode.idle3, Mode.idle4, Want.work, Room as NetworkRoom}
use Rattle.network_meaning.specs.MessageNetwork.{StageNumber, StageNumber.first, StageNumber.second, StageNumber.third, StageNumber.fourth}
use Rattle.network_meaning.specs.Network.{LocalState, Orderly, between, bytes_in_all, quiet_at, want}
use Rattle.quel_network.specs.Sorts.{User, first_monitor, quel_sorts}

-- the stages and the pipes, by what the stages are at
abbrev pub shape : {A1 A2 A3 A4 : Type 0} → (A1 → LocalState quel_sorts) → (A2 → LocalState quel_sorts) → (A3 → LocalState quel_sorts) → (A4 → LocalState quel_sorts) → Net A1 A2 A3 A4 → Shape quel_sorts
shape one two three four n = record { one = one n.one; two = two n.two; three = three n.three; four = four n.four; a = n.a.items; b = n.b.items; c = n.c.items; d = n.d.items; e = n.e.items; f = n.f.items }

-- the stages and the pipes at the start: the monitor reads, no variable ranges over anything, and nothing is on its way
abbrev pub start_shape : Shape quel_sorts
start_shape = record { one = quiet_at (reading first_monitor); two = quiet_at (idle2 []); three = quiet_at idle3; four = quiet_at idle4; a = []; b = []; c = []; d = []; e = []; f = [] }

-- all four stages have ended
abbrev pub HaveEnded : Shape quel_sorts → Type 0
HaveEnded s = HasEnded s.one × HasEnded s.two × HasEnded s.three × HasEnded s.four

-- the stages and the pipes, and what is known of the room
abbrev pub seen : Shape quel_sorts → Outside → Seen quel_sorts
seen s o = record { shape = s; known = known o }

-- all four stages serve this user
pub record AllServe {A1 A2 A3 A4 : Type 0} (one : A1 → User → Type 0) (two : A2 → User → Type 0) (three : A3 → User → Type 0) (four : A4 → User → Type 0) (n : Net A1 A2 A3 A4) (user : User) : Type 0 where
  pub first : one n.one user
  pub second : two n.two user
  pub third : three n.three user
  pub fourth : four n.four user

-- the stages have the numbers 1 to 4
pub record AreNumbered {A1 A2 A3 A4 : Type 0} (one : A1 → ℕ) (two : A2 → ℕ) (three : A3 → ℕ) (four : A4 → ℕ) (n : Net A1 A2 A3 A4) : Type 0 where
  pub first : one n.one ≡ 1
  pub second : two n.two ≡ 2
  pub third : three n.three ≡ 3
  pub fourth : four n.four ≡ 4

-- the numbers of the stages, in their order
abbrev pub numbers_by : {A1 A2 A3 A4 : Type 0} → (A1 → ℕ) → (A2 → ℕ) → (A3 → ℕ) → (A4 → ℕ) → Net A1 A2 A3 A4 → List ℕ
numbers_by one two three four n = one n.one ∷ two n.two ∷ three n.three ∷ four n.four ∷ []

-- how many bytes of the script the stages have read
abbrev pub heard_by : {A1 A2 A3 A4 : Type 0} → (A1 → ℕ) → (A2 → ℕ) → (A3 → ℕ) → (A4 → ℕ) → Net A1 A2 A3 A4 → ℕ
heard_by one two three four n = one n.one + (two n.two + (three n.three + four n.four))

-- what a stage of this shape is at
abbrev pub state_at : Shape quel_sorts → StageNumber → LocalState quel_sorts
state_at s first = s.one
state_at s second = s.two
state_at s third = s.three
state_at s fourth = s.four

-- from each orderly network whose room is known, what is written, behind what its room has, is a front of the bytes in all
abbrev pub WroteFront : Language quel_sorts → Seen quel_sorts → Outside → Type 0
WroteFront L old after = (r : NetworkRoom quel_sorts) → Knows old.known r → Orderly L (join old.shape r) → (bytes : List ℕ) × Appends old.known.out after.output bytes × Begins (r.out ++ bytes) (bytes_in_all L (join old.shape r))

-- no network of this shape is orderly in a room whose database and files are those that are known
abbrev pub IsDisorderly : Language quel_sorts → Seen quel_sorts → Type 0
IsDisorderly L s = (r : NetworkRoom quel_sorts) → Knows s.known r → Orderly L (join s.shape r) → ⊥

-- a frame comes to stage k that it may not take, or it is to work on what isn't fit
abbrev pub MayNotStep : Language quel_sorts → StageNumber → Shape quel_sorts → Outside → Type 0
MayNotStep L k s o =
    ((frame : Frame) × ((r : NetworkRoom quel_sorts) → comes (between (join s r) k) ≡ Some frame) × MayNotTake L (state_at s k) frame)
    ⊎ ((want (state_at s k) ≡ work) × MayNotWork L (state_at s k).mode o)

-- the steps of a list were made up to one that failed by this fault, in front of which the network and all outside it were so, and so many bytes were read, whole lines where the source failed; the stages have these numbers; it has left a part of what its stage does, or nothing
pub record StopsAt (L : Language quel_sorts) (capacity : ℕ) (turns numbers : List ℕ) (heard : ℕ) (old : Seen quel_sorts) (after : Outside) (fault : WorkFault) : Type 0 where
  pub made : List ℕ
  pub failed : ℕ
  pub later : List ℕ
  pub is : turns ≡ made ++ failed ∷ later
  pub before : Seen quel_sorts
  pub outside : Outside
  pub knows : before.known ≡ known outside
  pub runs : RunsTurns L capacity made old before
  pub part : FailedStep L (state_at before.shape (stage_number failed)) outside after
  pub wrote : WroteFront L before after
  pub read : ℕ
  pub reads : ReadsOn (state_at before.shape (stage_number failed)).mode read heard outside after (fault ≡ faults.Source) ⊥
  pub whole : fault ≡ faults.Source → ReadsWhole old.known.script outside.script
  pub counts : CountsOnlyBy outside after fault
  pub spares : SparesBy outside after fault
  pub apart : numbers ≡ 1 ∷ 2 ∷ 3 ∷ 4 ∷ [] → (stage_number failed ≡ first → ⊥) → (ends after ≡ ends outside) × (heard ≡ read) × IsNoFaultOfEnds fault
