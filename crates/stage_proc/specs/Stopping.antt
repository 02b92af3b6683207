-- The number that refuses a tree where a part of its work answers a fault, and which faults a piece of work answers.
use Rattle.std.specs.Prelude.{◌≡◌, ◌⊎◌, ℕ, ◌≤◌, true, Option, None, Result, Ok, Err, ⊤}
use Rattle.calculus.specs.Database.{Db}
use Rattle.base_trait.specs.Causes.{MayCome}
use Rattle.base_trait.specs.declared.fault.BaseFault.{BaseFault}
use Rattle.base_trait.specs.declared.fault.BaseFault.TheVariants as base
use Rattle.fault_io.specs.Causes.{Rose}
use Rattle.net_core.specs.declared.fault.WorkFault.{WorkFault}
use Rattle.net_core.specs.declared.fault.WorkFault.TheVariants as work
use Rattle.ovqp.specs.declared.fault.QueryFault.{QueryFault}
use Rattle.ovqp.specs.declared.fault.QueryFault.TheVariants as query
use Rattle.quel_network.specs.Spelling.{is_refusal_number}
use Rattle.stage_proc.specs.declared.fault.PairFault.{PairFault}
use Rattle.stage_proc.specs.declared.fault.PairFault.TheVariants as pair
use Rattle.stage_proc.specs.declared.stopped.Stopped.{Stopped}
use Rattle.stage_proc.specs.declared.stopped.Stopped.TheVariants.{No, Base, OutOfMemory}
use Rattle.update_change.specs.declared.fault.UpdateFault.{UpdateFault}
use Rattle.update_change.specs.declared.fault.UpdateFault.TheVariants as change

-- ---- what stops a tree

-- of a query: 20 where a target has no value
abbrev pub query_stop : QueryFault → Stopped
query_stop (query.NoValue at) = No 20
query_stop (query.Base fault) = Base fault
query_stop query.OutOfMemory = OutOfMemory

-- of an update's pairs: 21 where a value doesn't fit its attribute
abbrev pub pair_stop : PairFault → Stopped
pair_stop (pair.NotFit row) = No 21
pair_stop (pair.Query fault) = query_stop fault
pair_stop pair.OutOfMemory = OutOfMemory

-- of the change that they make: 22 where a row would have different new rows, 29 where a relation would have too many
abbrev pub change_stop : UpdateFault → Stopped
change_stop (change.Contended old first second) = No 22
change_stop (change.TooMany count) = No 29
change_stop (change.Base fault) = Base fault
change_stop change.OutOfMemory = OutOfMemory

-- some refusal has the number
abbrev pub IsRefusing : Stopped → Type 0
IsRefusing (No number) = is_refusal_number number ≡ true
IsRefusing (Base fault) = ⊤
IsRefusing OutOfMemory = ⊤

-- this may stop a tree: a fault of the database where it may come; anything else where its count stayed
abbrev pub StopsBy : Option Db → ℕ → ℕ → Stopped → Type 0
StopsBy known before now (No number) = now ≡ before
StopsBy known before now (Base fault) = MayCome known before now fault
StopsBy known before now OutOfMemory = now ≡ before

-- an answer where the count stayed, or what may stop a tree
abbrev pub IsStopped : {T : Type 0} → Option Db → ℕ → ℕ → Result T Stopped → Type 0
IsStopped known before now (Ok x) = now ≡ before
IsStopped known before now (Err stop) = StopsBy known before now stop

-- the count of faults never falls, an answer comes only where it stayed, and a fault of the database only where it may
pub record HasStopCause {T : Type 0} (known : Option Db) (before now : ℕ) (result : Result T Stopped) : Type 0 where
  pub later : before ≤ now
  pub caused : IsStopped known before now result

-- ---- what a piece of work answers

-- the fault of a call of the database, as one of a piece of work
abbrev pub of_base : BaseFault → WorkFault
of_base base.Disk = work.Disk
of_base (base.Damaged file page) = work.Damaged file page
of_base base.OutOfMemory = work.OutOfMemory

-- this fault is answered where this stops a tree: that of the database, or want of memory, which may come where it is refused, too
abbrev pub IsFaultOf : Stopped → WorkFault → Type 0
IsFaultOf (No number) fault = fault ≡ work.OutOfMemory
IsFaultOf (Base stop) fault = fault ≡ of_base stop
IsFaultOf OutOfMemory fault = fault ≡ work.OutOfMemory

-- this fault may come where the query processor works: one of the database where it may come, and else where its count stayed: what is unlawful, or want of memory
abbrev pub MayComeHere : Option Db → ℕ → ℕ → WorkFault → Type 0
MayComeHere known before now work.Disk = Rose before now
MayComeHere known before now (work.Damaged file page) = (known ≡ None) × (now ≡ before)
MayComeHere known before now work.Unlawful = now ≡ before
MayComeHere known before now work.OutOfMemory = now ≡ before
MayComeHere known before now work.Source = ⊥
MayComeHere known before now work.Sink = ⊥
MayComeHere known before now work.Shelf = ⊥
MayComeHere known before now work.TooLong = ⊥

-- an answer where the count stayed, or a fault that may come
abbrev pub IsCausedHere : {T : Type 0} → Option Db → ℕ → ℕ → Result T WorkFault → Type 0
IsCausedHere known before now (Ok x) = now ≡ before
IsCausedHere known before now (Err fault) = MayComeHere known before now fault

-- the count of faults never falls, an answer comes only where it stayed, and a fault only where it may
pub record HasWorkCause {T : Type 0} (known : Option Db) (before now : ℕ) (result : Result T WorkFault) : Type 0 where
  pub later : before ≤ now
  pub caused : IsCausedHere known before now result

-- it is unlawful, or memory is wanting
abbrev pub IsOfSending : WorkFault → Type 0
IsOfSending fault = (fault ≡ work.Unlawful) ⊎ (fault ≡ work.OutOfMemory)
