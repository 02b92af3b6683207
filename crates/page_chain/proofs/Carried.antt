-- Why a call failed that makes others.
use Rattle.std.proofs.Common.{◌≡◌, ◌∙◌, sym, subst, ℕ, Option, Result, Ok, Err, arith}
use Rattle.std.specs.Result.{IsErrAnd}
use Rattle.fault_io.specs.Causes.{Rose}
use Rattle.disk_model.specs.Disk.{Image}
use Rattle.disk_model.specs.declared.disk.Addr.{Addr}
use Rattle.base_trait.specs.declared.fault.BaseFault.{BaseFault}
use Rattle.base_trait.specs.declared.fault.BaseFault.TheVariants as faults
use Rattle.am_traits.specs.declared.fault.StoreFault.{StoreFault}
use Rattle.am_traits.specs.declared.fault.StoreFault.TheVariants as store
use Rattle.am_traits.specs.Causes.{HasFileCause, HasStoreCause, IsAtFault, MayFail, StoreMayFail, of_store}

-- a count that rose since then rose
rose_earlier : (before between now : ℕ) → between ≡ before → Rose between now → Rose before now
rose_earlier before between now calm = subst (λ n. Rose n now) calm

-- a fault that may come of a later call may come, where those before it answered
may_earlier : (old mid : Option Image) (P Q : Image → Addr → Type 0) (before between now : ℕ) (fault : BaseFault) → between ≡ before
    → ((a : Addr) → IsAtFault mid P a → IsAtFault old Q a) → MayFail mid P between now fault → MayFail old Q before now fault
may_earlier old mid P Q before between now faults.Disk calm turn may = rose_earlier before between now calm may
may_earlier old mid P Q before between now (faults.Damaged file page) calm turn may = (turn (record { file = file; page = page }) may.0, may.1 ∙ calm)
may_earlier old mid P Q before between now faults.OutOfMemory calm turn may = may ∙ calm

-- a call that failed as a later one did
pub cause_earlier : {T U : Type 0} (old mid : Option Image) (P Q : Image → Addr → Type 0) (before between now : ℕ) (fault : BaseFault) → between ≡ before
    → ((a : Addr) → IsAtFault mid P a → IsAtFault old Q a) → HasFileCause {T = T} mid P between now (Err fault) → HasFileCause {T = U} old Q before now (Err fault)
cause_earlier old mid P Q before between now fault calm turn its = record {
  later = omega (arith, calm, its.later);
  caused = may_earlier old mid P Q before between now fault calm turn its.caused;
}

-- the same of an answer that carries the fault on
pub cause_carried : {T U : Type 0} (old mid : Option Image) (P Q : Image → Addr → Type 0) (before between now : ℕ) (fault : BaseFault) → between ≡ before
    → ((a : Addr) → IsAtFault mid P a → IsAtFault old Q a) → HasFileCause {T = T} mid P between now (Err fault)
    → (result : Result U BaseFault) → IsErrAnd result (λ e. e ≡ fault) → HasFileCause {T = U} old Q before now result
cause_carried old mid P Q before between now fault calm turn its (Ok x) is = absurd is
cause_carried {T} {U} old mid P Q before between now fault calm turn its (Err e) is =
    subst (λ f. HasFileCause {T = U} old Q before now (Err f)) (sym is) (cause_earlier {T = T} {U = U} old mid P Q before between now fault calm turn its)

-- a call that failed as a call of the store did
pub cause_store : {T U : Type 0} (old : Option Image) (Q : Image → Addr → Type 0) (before between now : ℕ) (fault : StoreFault) (error : BaseFault) → between ≡ before
    → error ≡ of_store fault → HasStoreCause {T = T} between now (Err fault) → HasFileCause {T = U} old Q before now (Err error)
cause_store {T} {U} old Q before between now fault error calm same its =
    subst (λ e. HasFileCause {T = U} old Q before now (Err e)) (sym same)
    (record { later = omega (arith, calm, its.later); caused = go fault its.caused })
  where
    go : (fault : StoreFault) → StoreMayFail between now fault → MayFail old Q before now (of_store fault)
    go store.Disk may = rose_earlier before between now calm may
    go store.OutOfMemory may = may ∙ calm
