-- Why a utility makes no change.
use Rattle.std.specs.Prelude.{◌≡◌, ℕ, ◌≤◌, List, Option, Some, Result, Ok, Err}
use Rattle.calculus.specs.declared.request.Utility.{Utility}
use Rattle.calculus.specs.Database.{Db}
use Rattle.base_trait.specs.Causes.{MayCome}
use Rattle.quel_meaning.specs.Planned.{planned}
use Rattle.utilities.specs.declared.fault.UtilFault.{UtilFault}
use Rattle.utilities.specs.declared.fault.UtilFault.TheVariants.{No, Base, OutOfMemory}

-- this fault may come: a fault of the database where it may come, which is known or isn't; where the count of faults stayed, the cause of this number where it refuses the utility by what is known of the database, and want of memory
abbrev pub MayFail : List ℕ → Utility → Option Db → Option Db → ℕ → ℕ → UtilFault → Type 0
MayFail user u schema known before now (No number) = (now ≡ before) × ((db : Db) → schema ≡ Some db → planned db user u ≡ Err number)
MayFail user u schema known before now (Base fault) = MayCome known before now fault
MayFail user u schema known before now OutOfMemory = now ≡ before

-- a change where the count of faults stayed, or a fault that may come
abbrev pub IsCaused : {T : Type 0} → List ℕ → Utility → Option Db → Option Db → ℕ → ℕ → Result T UtilFault → Type 0
IsCaused user u schema known before now (Ok x) = now ≡ before
IsCaused user u schema known before now (Err fault) = MayFail user u schema known before now fault

-- the count of faults never falls, a change comes only where it stayed, and a fault only where it may, where all is known that is known
pub record HasCause {T : Type 0} (user : List ℕ) (u : Utility) (known : Option Db) (before now : ℕ) (result : Result T UtilFault) : Type 0 where
  pub later : before ≤ now
  pub caused : IsCaused user u known known before now result

-- the same where this is known, as the schema is of a database that isn't known. No public clause cites it
pub record HasCauseBy {T : Type 0} (user : List ℕ) (u : Utility) (schema known : Option Db) (before now : ℕ) (result : Result T UtilFault) : Type 0 where
  pub later : before ≤ now
  pub caused : IsCaused user u schema known before now result
