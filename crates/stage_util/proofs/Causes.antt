-- When each fault may come.
use Rattle.std.proofs.Common.{◌≡◌, ◌≤◌, refl, sym, subst, ◌∙◌, ℕ, List, Option, Result, Ok, Err, arith}
use Rattle.base_trait.specs.Causes.{MayCome}
use Rattle.base_trait.specs.declared.fault.BaseFault.{BaseFault}
use Rattle.base_trait.specs.declared.fault.BaseFault.TheVariants as base_faults
use Rattle.calculus.specs.declared.reply.Refusal.{Refusal}
use Rattle.calculus.specs.Database.{Db}
use Rattle.copy_util.specs.Causes.{HasCopyCause}
use Rattle.copy_util.specs.declared.fault.CopyFault.{CopyFault}
use Rattle.copy_util.specs.declared.fault.CopyFault.TheVariants as copy
use Rattle.net_core.specs.declared.fault.WorkFault.{WorkFault}
use Rattle.net_core.specs.declared.fault.WorkFault.TheVariants as faults
use Rattle.calculus.specs.declared.request.Utility.{Utility}
use Rattle.quel_meaning.specs.Copying.{refusal, bad_row}
use Rattle.utilities.specs.Causes.{MayFail}
use Rattle.utilities.specs.declared.fault.UtilFault.{UtilFault}
use Rattle.stage_util.specs.Copying.{NotCopied}
use Rattle.stage_util.specs.declared.carried.Carried.{Carried}
use Rattle.stage_util.specs.Laying.{Refuses}
use Rattle.stage_util.specs.Working.{HasWorkCause, IsCausedHere, MayComeHere, Span, of_base}

-- ---- of the database alone

base_may : (known : Option Db) (n n' m : ℕ) (f : BaseFault) → MayCome known n n' f → MayComeHere known n n' m m (of_base f)
base_may known n n' m base_faults.Disk c = (c, refl)
base_may known n n' m (base_faults.Damaged file page) c = (c.0, c.1, refl)
base_may known n n' m base_faults.OutOfMemory c = (c, refl)

-- a fault of a call of the database
pub base_cause : {T : Type 0} (known : Option Db) (n n' m : ℕ) (f : BaseFault) (fault : WorkFault) → fault ≡ of_base f → n ≤ n' → MayCome known n n' f → HasWorkCause {T = T} known n n' m m (Err fault)
base_cause {T = T} known n n' m f fault is later c = record {
  later = later;
  shelf_later = omega arith;
  caused = subst (λ (x : WorkFault). MayComeHere known n n' m m x) (sym is) (base_may known n n' m f c);
}

shelf_may : (known : Option Db) (n n' m : ℕ) (f : WorkFault) → MayComeHere known n n' 0 0 f → MayComeHere known n n' m m f
shelf_may known n n' m faults.Disk c = (c.0, refl)
shelf_may known n n' m (faults.Damaged file page) c = (c.0, c.1, refl)
shelf_may known n n' m faults.Shelf c = absurd (omega (arith, c.1))
shelf_may known n n' m faults.Unlawful c = (c.0, refl)
shelf_may known n n' m faults.OutOfMemory c = (c.0, refl)
shelf_may known n n' m faults.Source c = absurd c
shelf_may known n n' m faults.Sink c = absurd c
shelf_may known n n' m faults.TooLong c = absurd c

shelf_caused : {T : Type 0} (known : Option Db) (n n' m : ℕ) (r : Result T WorkFault) → IsCausedHere known n n' 0 0 r → IsCausedHere known n n' m m r
shelf_caused known n n' m (Ok x) c = (c.0, refl)
shelf_caused known n n' m (Err f) c = shelf_may known n n' m f c

-- what asks no shelf, beside one
pub with_shelf : {T : Type 0} (known : Option Db) (n n' m : ℕ) (r : Result T WorkFault) → HasWorkCause known n n' 0 0 r → HasWorkCause known n n' m m r
with_shelf known n n' m r c = record { later = c.later; shelf_later = omega arith; caused = shelf_caused known n n' m r c.caused }

-- behind calls that left the database and the counts as they were
pub behind_calls : {T : Type 0} (known mid : Option Db) (n n1 n2 m m1 m2 : ℕ) (r : Result T WorkFault) → mid ≡ known → n1 ≡ n → m1 ≡ m → HasWorkCause mid n1 n2 m1 m2 r → HasWorkCause known n n2 m m2 r
behind_calls known mid n n1 n2 m m1 m2 r d e f c =
    subst (λ (x : Option Db). HasWorkCause x n n2 m m2 r) d (subst (λ (x : ℕ). HasWorkCause mid x n2 m m2 r) e (subst (λ (x : ℕ). HasWorkCause mid n1 n2 x m2 r) f c))

-- what comes where no count rose
pub still_unlawful : {T : Type 0} (known : Option Db) (n n' m m' : ℕ) → n' ≡ n → m' ≡ m → HasWorkCause {T = T} known n n' m m' (Err faults.Unlawful)
still_unlawful known n n' m m' e f = record { later = omega (arith, e); shelf_later = omega (arith, f); caused = (e, f) }

pub still_short : {T : Type 0} (known : Option Db) (n n' m m' : ℕ) → n' ≡ n → m' ≡ m → HasWorkCause {T = T} known n n' m m' (Err faults.OutOfMemory)
still_short known n n' m m' e f = record { later = omega (arith, e); shelf_later = omega (arith, f); caused = (e, f) }

pub still_ok : {T : Type 0} (known : Option Db) (n n' m m' : ℕ) (x : T) → n' ≡ n → m' ≡ m → HasWorkCause known n n' m m' (Ok x)
still_ok known n n' m m' x e f = record { later = omega (arith, e); shelf_later = omega (arith, f); caused = (e, f) }

-- a refusal is answered, or nothing is
pub refuses_cause : (r : Refusal) (s : Span) (known : Option Db) (n n' m m' : ℕ) (result : Result Carried WorkFault) → Refuses r s result → n' ≡ n → m' ≡ m → HasWorkCause known n n' m m' result
refuses_cause r s known n n' m m' (Ok answer) h e f = still_ok known n n' m m' answer e f
refuses_cause r s known n n' m m' (Err faults.Unlawful) h e f = still_unlawful known n n' m m' e f
refuses_cause r s known n n' m m' (Err faults.OutOfMemory) h e f = still_short known n n' m m' e f
refuses_cause r s known n n' m m' (Err faults.Disk) h e f = absurd h
refuses_cause r s known n n' m m' (Err (faults.Damaged file page)) h e f = absurd h
refuses_cause r s known n n' m m' (Err faults.Shelf) h e f = absurd h
refuses_cause r s known n n' m m' (Err faults.Source) h e f = absurd h
refuses_cause r s known n n' m m' (Err faults.Sink) h e f = absurd h
refuses_cause r s known n n' m m' (Err faults.TooLong) h e f = absurd h

-- ---- of copies

unshelved : {T : Type 0} (known : Option Db) (n n' m m' : ℕ) (fault : CopyFault) → HasCopyCause {T = T} known n n' m m' (Err fault) → (fault ≡ copy.Shelf → ⊥) → m' ≡ m
unshelved {T = T} known n n' m m' fault c never = c.otherwise (λ e. never (cc e))

err_cause : (known : Option Db) (n n' m m' : ℕ) (f : WorkFault) (result : Result Carried WorkFault) → result ≡ Err f → HasWorkCause {T = Carried} known n n' m m' (Err f) → HasWorkCause known n n' m m' result
err_cause known n n' m m' f result is c = subst (λ (r : Result Carried WorkFault). HasWorkCause known n n' m m' r) (sym is) c

-- what comes of a copy that is not made, and of handing the base over behind it
pub copy_cause : {T : Type 0} (s : Span) (known : Option Db) (n n' n'' m m' : ℕ) (fault : CopyFault) (result : Result Carried WorkFault) → HasCopyCause {T = T} known n n' m m' (Err fault) → n'' ≡ n' → NotCopied fault s result → HasWorkCause known n n'' m m' result
copy_cause s known n n' n'' m m' (copy.No number) result c e h = refuses_cause (refusal number) s known n n'' m m' result h (e ∙ c.caused) (unshelved known n n' m m' (copy.No number) c (λ x. cc x))
copy_cause s known n n' n'' m m' (copy.BadRow row) result c e h = refuses_cause (bad_row row) s known n n'' m m' result h (e ∙ c.caused) (unshelved known n n' m m' (copy.BadRow row) c (λ x. cc x))
copy_cause s known n n' n'' m m' copy.NoFile result c e h = refuses_cause (refusal 32) s known n n'' m m' result h (e ∙ c.caused) (unshelved known n n' m m' copy.NoFile c (λ x. cc x))
copy_cause s known n n' n'' m m' copy.Shelf result c e h =
    err_cause known n n'' m m' faults.Shelf result h.0 (record { later = let same = c.caused in omega (arith, e, same); shelf_later = c.shelf_later; caused = (e ∙ c.caused, c.shelf refl) })
copy_cause s known n n' n'' m m' (copy.Base f) result c e h =
    subst (λ (x : ℕ). HasWorkCause known n x m m' result) (sym e)
    (subst (λ (x : ℕ). HasWorkCause known n n' m x result) (sym (unshelved known n n' m m' (copy.Base f) c (λ x. cc x)))
    (err_cause known n n' m m (of_base f) result h.0 (base_cause known n n' m f (of_base f) refl c.later c.caused)))
copy_cause s known n n' n'' m m' copy.OutOfMemory result c e h =
    err_cause known n n'' m m' faults.OutOfMemory result h.0 (still_short known n n'' m m' (e ∙ c.caused) (unshelved known n n' m m' copy.OutOfMemory c (λ x. cc x)))

-- ---- of plans

-- the same fault
pub may_as : (user : List ℕ) (work : Utility) (known : Option Db) (n n' : ℕ) (fault is : UtilFault) → fault ≡ is → MayFail user work known known n n' fault → MayFail user work known known n n' is
may_as user work known n n' fault is e h = subst (λ (f : UtilFault). MayFail user work known known n n' f) e h

pub copy_as : {T : Type 0} (known : Option Db) (n n' m m' : ℕ) (fault is : CopyFault) → fault ≡ is → HasCopyCause {T = T} known n n' m m' (Err fault) → HasCopyCause {T = T} known n n' m m' (Err is)
copy_as {T = T} known n n' m m' fault is e h = subst (λ (f : CopyFault). HasCopyCause {T = T} known n n' m m' (Err f)) e h
