-- Why an update makes no change.
use Rattle.std.specs.Prelude.{◌≡◌, ℕ, ◌≤◌, ◌<◌, List, length, Option, Some, Result, Ok, Err, IsTrue, IsFalse, ⊤}
use Rattle.calculus.specs.declared.change.Pair.{Pair}
use Rattle.calculus.specs.declared.request.Update.{Update}
use Rattle.calculus.specs.Database.{Db}
use Rattle.calculus.specs.Limits.{most_rows}
use Rattle.calculus.specs.Replacement.{after, contended}
use Rattle.calculus.specs.Rows.{Row}
use Rattle.calculus.specs.Stored.{rows_at}
use Rattle.base_trait.specs.Causes.{MayCome}
use Rattle.update_change.specs.Contention.{IsLeastContention}
use Rattle.update_change.specs.Changes.{MakesNew}
use Rattle.update_change.specs.declared.fault.UpdateFault.{UpdateFault}
use Rattle.update_change.specs.declared.fault.UpdateFault.TheVariants.{Contended, TooMany, Base, OutOfMemory}

-- the cause of a fault over given rows: an old row has different new rows, and the fault carries the least contention; or else more rows would stand than a relation may have, and it carries their number; want of memory has none
abbrev pub IsCause : List Row → List Pair → UpdateFault → Type 0
IsCause rows ps (Contended old first second) = IsTrue (contended ps) × IsLeastContention ps old first second
IsCause rows ps (TooMany count) = IsFalse (contended ps) × (count ≡ length (after rows ps)) × (most_rows < count)
IsCause rows ps (Base fault) = ⊥
IsCause rows ps OutOfMemory = ⊤

-- so many rows would stand in this database, more than a relation may have, where an update that makes a relation finds none there
abbrev pub WouldBeTooMany : Update → List Pair → Db → ℕ → Type 0
WouldBeTooMany u ps db count = MakesNew db u → (count ≡ length (after (rows_at db u.rel) ps)) × (most_rows < count)

-- this fault may come: an old row has different new rows, and the fault carries the least contention; or else more rows would stand than a relation may have, and it carries their number, where a database is known; a fault of the database where it may come; want of memory; where it isn't the database's, its count stayed
abbrev pub MayFail : Update → List Pair → Option Db → ℕ → ℕ → UpdateFault → Type 0
MayFail u ps known before now (Contended old first second) = (now ≡ before) × IsTrue (contended ps) × IsLeastContention ps old first second
MayFail u ps known before now (TooMany count) = (now ≡ before) × IsFalse (contended ps) × ((db : Db) → known ≡ Some db → WouldBeTooMany u ps db count)
MayFail u ps known before now (Base fault) = MayCome known before now fault
MayFail u ps known before now OutOfMemory = now ≡ before

-- a change where the count stayed, or a fault that may come
abbrev pub IsCaused : {T : Type 0} → Update → List Pair → Option Db → ℕ → ℕ → Result T UpdateFault → Type 0
IsCaused u ps known before now (Ok x) = now ≡ before
IsCaused u ps known before now (Err fault) = MayFail u ps known before now fault

-- the count of faults never falls, a change comes only where it stayed, and a fault only where it may
pub record HasCause {T : Type 0} (u : Update) (ps : List Pair) (known : Option Db) (before now : ℕ) (result : Result T UpdateFault) : Type 0 where
  pub later : before ≤ now
  pub caused : IsCaused u ps known before now result
