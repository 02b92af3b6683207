-- Why rows are not copied.
use Rattle.std.specs.Prelude.{◌≡◌, ℕ, ◌≤◌, Option, Result, Ok, Err, IsErrOf, ⊤}
use Rattle.calculus.specs.declared.reply.Refusal.{Refusal}
use Rattle.calculus.specs.Database.{Db}
use Rattle.fault_io.specs.Causes.{Rose}
use Rattle.base_trait.specs.Causes.{MayCome}
use Rattle.quel_meaning.specs.Copying.{refusal, bad_row}
use Rattle.copy_util.specs.declared.fault.CopyFault.{CopyFault}
use Rattle.copy_util.specs.declared.fault.CopyFault.TheVariants.{No, BadRow, NoFile, Shelf, Base, OutOfMemory}

-- the refusal that the fault is: by its number, of a bad row by that row's, and of a file that isn't there; this of a refusal, nothing of other faults
abbrev pub Refuses : (Refusal → Type 0) → CopyFault → Type 0
Refuses is (No number) = is (refusal number)
Refuses is (BadRow row) = is (bad_row row)
Refuses is NoFile = is (refusal 32)
Refuses is Shelf = ⊤
Refuses is (Base fault) = ⊤
Refuses is OutOfMemory = ⊤

-- this of what is made, this of a refusal; nothing of other faults
abbrev pub Copies : {T : Type 0} → (T → Type 0) → (Refusal → Type 0) → Result T CopyFault → Type 0
Copies made refused (Ok x) = made x
Copies made refused (Err fault) = Refuses refused fault

-- a fault of the database that may come, or anything else where its count of faults stayed
abbrev pub IsCaused : {T : Type 0} → Option Db → ℕ → ℕ → Result T CopyFault → Type 0
IsCaused known before now (Err (Base fault)) = MayCome known before now fault
IsCaused known before now result = now ≡ before

-- the counts of faults never fall; a fault of the database comes only where it may, and anything else only where its count stayed; one of the shelf comes only where its count rose, and else that stayed
pub record HasCopyCause {T : Type 0} (known : Option Db) (before now shelf_before shelf_now : ℕ) (result : Result T CopyFault) : Type 0 where
  pub later : before ≤ now
  pub caused : IsCaused known before now result
  pub shelf_later : shelf_before ≤ shelf_now
  pub shelf : IsErrOf result Shelf → Rose shelf_before shelf_now
  pub otherwise : (IsErrOf result Shelf → ⊥) → shelf_now ≡ shelf_before

-- of the database alone: the count of faults never falls, a fault of the database comes only where it may, and anything else only where the count stayed; none is of the shelf, and none says that a file isn't there
pub record HasBaseCause {T : Type 0} (known : Option Db) (before now : ℕ) (result : Result T CopyFault) : Type 0 where
  pub later : before ≤ now
  pub caused : IsCaused known before now result
  pub shelf : IsErrOf result Shelf → ⊥
  pub file : IsErrOf result NoFile → ⊥

-- a fault of the database
abbrev pub IsOfBase : {T : Type 0} → Result T CopyFault → Type 0
IsOfBase (Err (Base fault)) = ⊤
IsOfBase result = ⊥

-- of the shelf alone: the count of faults never falls; a fault of the shelf comes only where it rose, and else it stayed; none is of the database
pub record HasShelfCause {T : Type 0} (before now : ℕ) (result : Result T CopyFault) : Type 0 where
  pub later : before ≤ now
  pub shelf : IsErrOf result Shelf → Rose before now
  pub otherwise : (IsErrOf result Shelf → ⊥) → now ≡ before
  pub base : IsOfBase result → ⊥

-- neither a fault of the database nor one of the shelf, nor that a file isn't there
pub record IsUncaused {T : Type 0} (result : Result T CopyFault) : Type 0 where
  pub base : IsOfBase result → ⊥
  pub shelf : IsErrOf result Shelf → ⊥
  pub file : IsErrOf result NoFile → ⊥
