-- A fault that a call of the store answered is handed on.
use Rattle.std.proofs.Common.{◌≡◌, ◌∙◌, sym, subst, ℕ, Option, Result, Ok, Err, arith}
use Rattle.std.specs.Result.{IsErrAnd}
use Rattle.fault_io.specs.Causes.{Rose}
use Rattle.disk_model.specs.Disk.{Image}
use Rattle.disk_model.specs.declared.disk.Addr.{Addr}
use Rattle.base_trait.specs.declared.fault.BaseFault.{BaseFault}
use Rattle.base_trait.specs.declared.fault.BaseFault.TheVariants as faults
use Rattle.am_traits.specs.declared.fault.StoreFault.{StoreFault}
use Rattle.am_traits.specs.declared.fault.StoreFault.TheVariants as store
use Rattle.am_traits.specs.Causes.{HasFileCause, HasStoreCause, StoreMayFail, of_store}
use Rattle.page_chain.proofs.Carried.{cause_store}

-- as one of a file
pub store_carried : {T U : Type 0} (old : Option Image) (Q : Image → Addr → Type 0) (before between now : ℕ) (fault : StoreFault) → between ≡ before
    → HasStoreCause {T = T} between now (Err fault) → (result : Result U BaseFault) → IsErrAnd result (λ e. e ≡ of_store fault) → HasFileCause {T = U} old Q before now result
store_carried old Q before between now fault calm its (Ok x) is = absurd is
store_carried {T} {U} old Q before between now fault calm its (Err e) is = cause_store {T = T} {U = U} old Q before between now fault e calm is its

-- what rose since then rose
rose_since : (before between now : ℕ) → between ≡ before → Rose between now → Rose before now
rose_since before between now calm = subst (λ n. Rose n now) calm

may_since : (before between now : ℕ) (fault : StoreFault) → between ≡ before → StoreMayFail between now fault → StoreMayFail before now fault
may_since before between now store.Disk calm may = rose_since before between now calm may
may_since before between now store.OutOfMemory calm may = may ∙ calm

-- as one of the store
pub store_on : {T U : Type 0} (before between now : ℕ) (fault : StoreFault) → between ≡ before
    → HasStoreCause {T = T} between now (Err fault) → (result : Result U StoreFault) → IsErrAnd result (λ e. e ≡ fault) → HasStoreCause {T = U} before now result
store_on before between now fault calm its (Ok x) is = absurd is
store_on {T} {U} before between now fault calm its (Err e) is =
    subst (λ f. HasStoreCause {T = U} before now (Err f)) (sym is) (record { later = omega (arith, calm, its.later); caused = may_since before between now fault calm its.caused })

-- want of memory may come where the count stayed
pub no_memory : {U : Type 0} (old : Option Image) (Q : Image → Addr → Type 0) (before now : ℕ) → now ≡ before
    → (result : Result U BaseFault) → IsErrAnd result (λ e. e ≡ faults.OutOfMemory) → HasFileCause {T = U} old Q before now result
no_memory old Q before now calm (Ok x) is = absurd is
no_memory {U} old Q before now calm (Err e) is = subst (λ f. HasFileCause {T = U} old Q before now (Err f)) (sym is) (record { later = omega (arith, calm); caused = calm })
