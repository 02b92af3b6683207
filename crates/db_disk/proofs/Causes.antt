-- When a call answers a fault.
use Rattle.std.proofs.Common.{◌≡◌, ◌⊎◌, inl, inr, refl, sym, ap, subst, ◌∙◌, arith, ℕ, Option, Some, None, Result, Ok, Err}
use Rattle.calculus.specs.Database.{Db}
use Rattle.base_trait.specs.Causes.{HasCause}
use Rattle.base_trait.specs.declared.fault.BaseFault.{BaseFault}
use Rattle.base_trait.specs.declared.fault.BaseFault.TheVariants as faults
use Rattle.batch_file.specs.Faults.{FailsBy}
use Rattle.batch_file.specs.declared.fault.RestoreFault.{RestoreFault}
use Rattle.batch_file.specs.declared.fault.RestoreFault.TheVariants.{Disk, Damaged}
use Rattle.db_disk.specs.Answered.{IsWant, of_restore}

restored : {T U : Type 0} (known : Option Db) (before now : ℕ) (fault : RestoreFault) → FailsBy {T = T} before now (Err fault)
    → ((file page : ℕ) → fault ≡ Damaged file page → known ≡ None) → HasCause {T = U} known before now (Err (of_restore fault))
restored known before now Disk by none = record { later = by.later; caused = by.failed refl }
restored known before now (Damaged file page) by none = record { later = by.later; caused = (none file page refl, by.answered (λ e. cc e)) }

-- where a batch isn't applied, the fault may come
pub restore_caused : {T U : Type 0} (known : Option Db) (before now : ℕ) (fault : RestoreFault) (result : Result T RestoreFault) (of : BaseFault) → result ≡ Err fault → of ≡ of_restore fault → FailsBy before now result
    → ((file page : ℕ) → result ≡ Err (Damaged file page) → known ≡ None) → HasCause {T = U} known before now (Err of)
restore_caused {T} {U} known before now fault result of is same by none =
    subst (λ (f : BaseFault). HasCause {T = U} known before now (Err f)) (sym same)
    (restored known before now fault (subst (FailsBy {T = T} before now) is by) (λ file page e. none file page (is ∙ ap Err e)))

-- a database in memory answers at most want of memory
pub plain_want : {T : Type 0} (db : Db) (result : Result T BaseFault) → HasCause (Some db) 0 0 result → IsWant result
plain_want db (Ok x) has = tt
plain_want db (Err faults.Disk) has = absurd (omega (arith, has.caused))
plain_want db (Err (faults.Damaged file page)) has = absurd (cc has.caused.0)
plain_want db (Err faults.OutOfMemory) has = tt

-- which may come at any time, where the count stayed
pub want_caused : {T : Type 0} (known : Option Db) (before now : ℕ) (result : Result T BaseFault) → now ≡ before → IsWant result → HasCause known before now result
want_caused known before now (Ok x) calm want = record { later = omega (arith, calm); caused = calm }
want_caused known before now (Err faults.Disk) calm want = absurd want
want_caused known before now (Err (faults.Damaged file page)) calm want = absurd want
want_caused known before now (Err faults.OutOfMemory) calm want = record { later = omega (arith, calm); caused = calm }

-- the same cause, of another answer
pub as_unit : {T U : Type 0} (known : Option Db) (before now : ℕ) (fault : BaseFault) → HasCause {T = T} known before now (Err fault) → HasCause {T = U} known before now (Err fault)
as_unit known before now fault has = record { later = has.later; caused = has.caused }

-- the same fault, of another answer
pub same_fault : {T U E : Type 0} (one other : E) → ◌≡◌ {A = Result T E} (Err one) (Err other) → ◌≡◌ {A = Result U E} (Err one) (Err other)
same_fault {T} {U} {E} one other is = let e : one ≡ other = cc is in ap (λ (f : E). Err f) e

-- the damage of a base is the damage of a batch
pub damage_of_batch : {T : Type 0} (fault : RestoreFault) (result : Result T RestoreFault) (of : BaseFault) (file page : ℕ) → result ≡ Err fault → of ≡ of_restore fault → of ≡ faults.Damaged file page → result ≡ Err (Damaged file page)
damage_of_batch Disk result of file page is same e = let bad : faults.Disk ≡ faults.Damaged file page = sym same ∙ e in absurd (cc bad)
damage_of_batch (Damaged f p) result of file page is same e =
    let both : faults.Damaged f p ≡ faults.Damaged file page = sym same ∙ e in
    let files : f ≡ file = cc both in
    let pages : p ≡ page = cc both in
    is ∙ (λ i. Err (Damaged (files i) (pages i)))

-- damage is what the pages answer where the disk doesn't fail
pub answered_so : {T : Type 0} (result said : Result T RestoreFault) (file page : ℕ) → (result ≡ Err Disk) ⊎ (result ≡ said) → result ≡ Err (Damaged file page) → said ≡ Err (Damaged file page)
answered_so result said file page (inl fault) is = let bad : Err Disk ≡ Err (Damaged file page) = sym fault ∙ is in absurd (cc bad)
answered_so result said file page (inr e) is = sym e ∙ is
