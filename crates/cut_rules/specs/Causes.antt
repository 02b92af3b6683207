-- Why a tree isn't cut, and why a query isn't expanded.
use Rattle.std.specs.Prelude.{◌≡◌, ℕ, ◌<◌, ◌≤◌, ◌-◌, ◌^◌, min, Option, Some, Result, Ok, Err, ⊤}
use Rattle.calculus.specs.declared.query.Query.{Query}
use Rattle.calculus.specs.Database.{Db}
use Rattle.calculus.specs.Sizes.{expanded_variables}
use Rattle.base_trait.specs.Causes.{MayCome}
use Rattle.cut_rules.specs.declared.fault.CutFault.{CutFault}
use Rattle.cut_rules.specs.declared.fault.CutFault.TheVariants as cut
use Rattle.cut_rules.specs.declared.fault.ExpandFault.{ExpandFault}
use Rattle.cut_rules.specs.declared.fault.ExpandFault.TheVariants as expand

-- this fault may come: a fault of the database where it may come; else the count of faults stayed, and there is no permit where that variable is refused in the database that is known, too many variables only where none is known, or no memory
abbrev pub MayFail : (Db → ℕ → Type 0) → Option Db → ℕ → ℕ → CutFault → Type 0
MayFail refused known before now (cut.NoPermit var) = (now ≡ before) × ((db : Db) → known ≡ Some db → refused db var)
MayFail refused known before now cut.TooMany = (now ≡ before) × ((db : Db) → known ≡ Some db → ⊥)
MayFail refused known before now (cut.Base fault) = MayCome known before now fault
MayFail refused known before now cut.OutOfMemory = now ≡ before

-- an answer where the count stayed, or a fault that may come
abbrev pub IsCaused : {T : Type 0} → (Db → ℕ → Type 0) → Option Db → ℕ → ℕ → Result T CutFault → Type 0
IsCaused refused known before now (Ok x) = now ≡ before
IsCaused refused known before now (Err fault) = MayFail refused known before now fault

-- the count of faults never falls, an answer comes only where it stayed, and a fault only where it may
pub record HasCause {T : Type 0} (refused : Db → ℕ → Type 0) (known : Option Db) (before now : ℕ) (result : Result T CutFault) : Type 0 where
  pub later : before ≤ now
  pub caused : IsCaused refused known before now result

-- where this fault says too many variables, they are more than 50, and it has their number
abbrev pub HasMany : Db → Query → ExpandFault → Type 0
HasMany db q (expand.TooMany vars) = (50 < expanded_variables db q) × (vars ≡ min (expanded_variables db q) (2 ^ 32 - 1))
HasMany db q (expand.Base fault) = ⊤
HasMany db q expand.OutOfMemory = ⊤

-- this fault may come of expanding a query: a fault of the database where it may come; else the count of faults stayed, and there are too many variables exactly where they are more than 50 in the database that is known, with their number, or no memory
abbrev pub MayNotExpand : Query → Option Db → ℕ → ℕ → ExpandFault → Type 0
MayNotExpand q known before now (expand.TooMany vars) =
    (now ≡ before) × ((db : Db) → known ≡ Some db → (50 < expanded_variables db q) × (vars ≡ min (expanded_variables db q) (2 ^ 32 - 1)))
MayNotExpand q known before now (expand.Base fault) = MayCome known before now fault
MayNotExpand q known before now expand.OutOfMemory = now ≡ before

-- an answer where the count stayed, or a fault that may come
abbrev pub IsExpandCaused : {T : Type 0} → Query → Option Db → ℕ → ℕ → Result T ExpandFault → Type 0
IsExpandCaused q known before now (Ok x) = now ≡ before
IsExpandCaused q known before now (Err fault) = MayNotExpand q known before now fault

-- the count of faults never falls, an answer comes only where it stayed, and a fault only where it may
pub record HasExpandCause {T : Type 0} (q : Query) (known : Option Db) (before now : ℕ) (result : Result T ExpandFault) : Type 0 where
  pub later : before ≤ now
  pub caused : IsExpandCaused q known before now result
