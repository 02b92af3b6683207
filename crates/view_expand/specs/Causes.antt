-- Why there is no expansion.
use Rattle.std.specs.Prelude.{◌≡◌, ℕ, ◌<◌, ◌≤◌, Option, Some, Result, Ok, Err, ⊤}
use Rattle.calculus.specs.Database.{Db}
use Rattle.base_trait.specs.Causes.{MayCome}
use Rattle.view_expand.specs.declared.fault.ExpansionFault.{ExpansionFault}
use Rattle.view_expand.specs.declared.fault.ExpansionFault.TheVariants.{NoPermit, TooMany, Base, OutOfMemory}

-- this fault may come: a fault of the database where it may come; else the count of faults stayed, and there is no permit where it is refused in the database that is known, and freely where none is known, too many variables only where none is known, or no memory
abbrev pub MayFail : (Db → Type 0) → Option Db → ℕ → ℕ → ExpansionFault → Type 0
MayFail refused known before now NoPermit = (now ≡ before) × ((db : Db) → known ≡ Some db → refused db)
MayFail refused known before now TooMany = (now ≡ before) × ((db : Db) → known ≡ Some db → ⊥)
MayFail refused known before now (Base fault) = MayCome known before now fault
MayFail refused known before now OutOfMemory = now ≡ before

-- so many variables are too many, or there is no memory
abbrev pub IsCrowded : ℕ → ExpansionFault → Type 0
IsCrowded n NoPermit = ⊥
IsCrowded n TooMany = 256 < n
IsCrowded n (Base fault) = ⊥
IsCrowded n OutOfMemory = ⊤

-- an answer where the count stayed, or a fault that may come
abbrev pub IsCaused : {T : Type 0} → (Db → Type 0) → Option Db → ℕ → ℕ → Result T ExpansionFault → Type 0
IsCaused refused known before now (Ok x) = now ≡ before
IsCaused refused known before now (Err fault) = MayFail refused known before now fault

-- the count of faults never falls, an answer comes only where it stayed, and a fault only where it may
pub record HasCause {T : Type 0} (refused : Db → Type 0) (known : Option Db) (before now : ℕ) (result : Result T ExpansionFault) : Type 0 where
  pub later : before ≤ now
  pub caused : IsCaused refused known before now result
