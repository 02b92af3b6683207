-- Where a fourth stage stands that carries out one change, and what carrying it out comes to.
use Rattle.std.specs.Prelude.{◌≡◌, ◌⊎◌, ◌≤◌, ℕ, List, [], ◌∷◌, Some, None, Result, IfErr, IsErrOf, OnErr, OnOk}
use Rattle.std.specs.declared.option.Option.{Option}
use Rattle.base_trait.specs.Crashes.{LeavesBut, AllDenote}
use Rattle.base_trait.specs.declared.fault.BaseFault.{BaseFault}
use Rattle.base_trait.specs.declared.fault.BaseFault.TheVariants as base_faults
use Rattle.calculus.specs.Change.{laid}
use Rattle.calculus.specs.Database.{Db}
use Rattle.calculus.specs.declared.change.DbChange.{DbChange}
use Rattle.calculus.specs.declared.change.DbChange.TheVariants.{Destroy}
use Rattle.fault_io.specs.Causes.{Rose}
use Rattle.frame_codec.specs.declared.frame.Frame.{Frame}
use Rattle.net_core.specs.Crashes.{IsForgotten}
use Rattle.net_core.specs.declared.fault.WorkFault.{WorkFault}
use Rattle.net_core.specs.declared.fault.WorkFault.TheVariants as faults
use Rattle.net_tests.specs.declared.carrier.Stand.{Stand}
use Rattle.net_tests.specs.declared.carrier.Stand.TheVariants.{Holds, Answers, Rests}
use Rattle.network_meaning.specs.LocalSteps.{Mode, Mode.idle4, Mode.working4}
use Rattle.network_meaning.specs.Network.{LocalState}
use Rattle.network_meaning.specs.Sorts.{Cargo.change}
use Rattle.quel_network.specs.Sorts.{quel_sorts}

-- no relation goes
abbrev pub no_change : DbChange
no_change = Destroy []

-- the frame that says that a change was carried out
abbrev pub done_frame : Frame
done_frame = record { kind = 8; payload = [] }

-- the mode, by where it stands
abbrev pub mode_at : Stand → Mode quel_sorts
mode_at Holds = working4 (change no_change)
mode_at Answers = idle4
mode_at Rests = idle4

-- the frames that it has to give
abbrev pub answer_at : Stand → List Frame
answer_at Holds = []
answer_at Answers = done_frame ∷ []
answer_at Rests = []

-- it holds the change, has an answer to give, or is idle
abbrev pub carrying : Stand → LocalState quel_sorts
carrying stand = record { mode = mode_at stand; got_left = []; got_right = []; out_left = answer_at stand; out_right = [] }

-- the fault of a call of the database, as one of a piece of work
abbrev pub of_base : BaseFault → WorkFault
of_base base_faults.Disk = faults.Disk
of_base (base_faults.Damaged file page) = faults.Damaged file page
of_base base_faults.OutOfMemory = faults.OutOfMemory

-- this fault comes of a database: of the disk where its count rose; else that stayed: of damage where no database is known, and want of memory
abbrev pub MayComeOf : Option Db → ℕ → ℕ → WorkFault → Type 0
MayComeOf known before now faults.Disk = Rose before now
MayComeOf known before now (faults.Damaged file page) = (known ≡ None) × (now ≡ before)
MayComeOf known before now faults.OutOfMemory = now ≡ before
MayComeOf known before now _ = ⊥

-- the change was carried out, and the database handed over; or it failed, by a fault of the database
pub record CarriedOut (db db' schema' : Option Db) (count count' clock clock' : ℕ) (left left' : ℕ → Option Db → Type 0) (result : Result (Unit {0}) WorkFault) : Type 0 where
  pub done : (d : Db) → db ≡ Some d → OnOk result (db' ≡ Some (laid d no_change))
  pub failed : (d now : Db) → db ≡ Some d → db' ≡ Some now → OnErr result ((now ≡ d) ⊎ (now ≡ laid d no_change))
  pub no_memory : IsErrOf result faults.OutOfMemory → db' ≡ db
  pub later : count ≤ count'
  pub counted : OnOk result (count' ≡ count)
  pub cause : IfErr result (λ fault. MayComeOf db count count' fault)
  pub crash : (d : Db) → db ≡ Some d → LeavesBut (λ o. o ≡ Some (laid d no_change)) clock clock' left left'
  pub durable : (d : Db) → db ≡ Some d → OnOk result (AllDenote clock' left' (laid d no_change))
  pub handed : OnOk result (IsForgotten schema' db')
