-- Why a tree isn't cut, where something was asked before.
use Rattle.std.proofs.Common.{◌≡◌, refl, sym, ◌∙◌, subst, ℕ, Option, Some, Result, Ok, Err, OnOk, arith}
use Rattle.calculus.specs.Database.{Db}
use Rattle.base_trait.specs.declared.fault.BaseFault.TheVariants as base
use Rattle.view_expand.specs.declared.fault.ExpansionFault.{ExpansionFault}
use Rattle.view_expand.specs.declared.fault.ExpansionFault.TheVariants as expansion
use Rattle.view_expand.specs.Causes as expansions
use Rattle.cut_rules.specs.declared.fault.CutFault.{CutFault}
use Rattle.cut_rules.specs.declared.fault.CutFault.TheVariants as cut
use Rattle.cut_rules.specs.Causes.{MayFail, HasCause}
use Rattle.cut_rules.specs.Faults.{fault_at}

-- ---- an expansion's fault is the tree's, at the variable's place

may_fail_as : (refused : Db → Type 0) (other : Db → ℕ → Type 0) (known : Option Db) (before now var : ℕ) → ((db : Db) → known ≡ Some db → refused db → other db var)
    → (fault : ExpansionFault) → expansions.MayFail refused known before now fault → MayFail other known before now (fault_at var fault)
may_fail_as refused other known before now var f expansion.NoPermit c = (c.0, λ db h. f db h (c.1 db h))
may_fail_as refused other known before now var f expansion.TooMany c = c
may_fail_as refused other known before now var f (expansion.Base fault) c = c
may_fail_as refused other known before now var f expansion.OutOfMemory c = c

pub failed_as : {S T : Type 0} (refused : Db → Type 0) (other : Db → ℕ → Type 0) (known : Option Db) (before now var : ℕ) (fault : ExpansionFault) (made : CutFault)
    → expansions.HasCause {T = S} refused known before now (Err fault) → made ≡ fault_at var fault → ((db : Db) → known ≡ Some db → refused db → other db var)
    → HasCause {T = T} other known before now (Err made)
failed_as refused other known before now var fault made c e f = record {
  later = c.later;
  caused = subst (λ x. MayFail other known before now x) (sym e) (may_fail_as refused other known before now var f fault c.caused);
}

-- ---- behind a call that leaves the database, and the count of faults, as they are

fails_behind : (refused other : Db → ℕ → Type 0) (known mid_known : Option Db) (before mid now : ℕ) → mid_known ≡ known → mid ≡ before
    → ((db : Db) → known ≡ Some db → (var : ℕ) → refused db var → other db var) → (fault : CutFault) → MayFail refused mid_known mid now fault → MayFail other known before now fault
fails_behind refused other known mid_known before mid now e l f (cut.NoPermit var) c = (c.0 ∙ l, λ db h. f db h var (c.1 db (e ∙ h)))
fails_behind refused other known mid_known before mid now e l f cut.TooMany c = (c.0 ∙ l, λ db h. c.1 db (e ∙ h))
fails_behind refused other known mid_known before mid now e l f (cut.Base base.Disk) c = omega (arith, c, l)
fails_behind refused other known mid_known before mid now e l f (cut.Base (base.Damaged file page)) c = (sym e ∙ c.0, c.1 ∙ l)
fails_behind refused other known mid_known before mid now e l f (cut.Base base.OutOfMemory) c = c ∙ l
fails_behind refused other known mid_known before mid now e l f cut.OutOfMemory c = c ∙ l

pub failed_behind : {S T : Type 0} (refused other : Db → ℕ → Type 0) (known mid_known : Option Db) (before mid now : ℕ) (fault : CutFault)
    → HasCause {T = S} refused mid_known mid now (Err fault) → mid_known ≡ known → mid ≡ before → ((db : Db) → known ≡ Some db → (var : ℕ) → refused db var → other db var)
    → HasCause {T = T} other known before now (Err fault)
failed_behind refused other known mid_known before mid now fault c e l f =
    let k = c.later in record { later = omega (arith, k, l); caused = fails_behind refused other known mid_known before mid now e l f fault c.caused }

pub caused_behind : {T : Type 0} (refused other : Db → ℕ → Type 0) (known mid_known : Option Db) (before mid now : ℕ) (result : Result T CutFault)
    → HasCause refused mid_known mid now result → mid_known ≡ known → mid ≡ before → ((db : Db) → known ≡ Some db → (var : ℕ) → refused db var → other db var)
    → HasCause other known before now result
caused_behind refused other known mid_known before mid now (Ok x) c e l f = let k = c.later in record { later = omega (arith, k, l); caused = c.caused ∙ l }
caused_behind refused other known mid_known before mid now (Err fault) c e l f = failed_behind refused other known mid_known before mid now fault c e l f

pub on_ok : {T E : Type 0} (result : Result T E) (P Q : Type 0) → (P → Q) → OnOk result P → OnOk result Q
on_ok (Ok x) P Q f h = f h
on_ok (Err e) P Q f h = h

pub failed_so : {S T : Type 0} (refused other : Db → ℕ → Type 0) (known : Option Db) (before now : ℕ) (fault : CutFault) → HasCause {T = S} refused known before now (Err fault)
    → ((db : Db) → known ≡ Some db → (var : ℕ) → refused db var → other db var) → HasCause {T = T} other known before now (Err fault)
failed_so refused other known before now fault c f = failed_behind refused other known known before before now fault c refl refl f

pub on_both : {T E : Type 0} (result : Result T E) (P Q R : Type 0) → OnOk result P → OnOk result Q → (P → Q → R) → OnOk result R
on_both (Ok x) P Q R p q f = f p q
on_both (Err e) P Q R p q f = p

pub caused_so : {T : Type 0} (refused other : Db → ℕ → Type 0) (known : Option Db) (before now : ℕ) (result : Result T CutFault) → HasCause refused known before now result
    → ((db : Db) → known ≡ Some db → (var : ℕ) → refused db var → other db var) → HasCause other known before now result
caused_so refused other known before now result c f = caused_behind refused other known known before before now result c refl refl f
