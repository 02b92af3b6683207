-- What a call of a shelf does to its count of faults, and what is known of its files after a fault.
use Rattle.std.specs.Prelude.{◌≡◌, ◌⊎◌, ℕ, ◌≤◌, false, List, Option, Some, Result, IsErrOf}
use Rattle.std.specs.Str.{bytes_eq}
use Rattle.fault_io.specs.Causes.{Rose}
use Rattle.fault_io.specs.Files.{Files, fetched, stored}
use Rattle.fault_io.specs.declared.shelf.ShelfFault.{ShelfFault}
use Rattle.fault_io.specs.declared.shelf.ShelfFault.TheVariants as fault

-- The count never falls; a failure comes only where it rose, and anything else only where it stayed.
pub record HasShelfCause {T : Type 0} (before now : ℕ) (result : Result T ShelfFault) : Type 0 where
  pub later : before ≤ now
  pub failed : IsErrOf result fault.Failed → Rose before now
  pub otherwise : (IsErrOf result fault.Failed → ⊥) → now ≡ before

-- Every file but that of this name is as it was.
abbrev pub AreOthersKept : List ℕ → Files → Files → Type 0
AreOthersKept name old new = (other : List ℕ) → bytes_eq other name ≡ false → fetched new other ≡ fetched old other

-- The files are still known, and every one but that of this name is as it was.
abbrev pub KeepsOthers : List ℕ → Files → Option Files → Type 0
KeepsOthers name old known = (new : Files) × (known ≡ Some new) × AreOthersKept name old new

-- The files are still known: as they were, or with these bytes under this name.
abbrev pub MayHaveStored : List ℕ → List ℕ → Files → Option Files → Type 0
MayHaveStored name bytes old known = (known ≡ Some old) ⊎ (known ≡ Some (stored old name bytes))
