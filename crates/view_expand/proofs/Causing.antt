-- Why there is no expansion, where something was asked before.
use Rattle.std.proofs.Common.{◌≡◌, sym, ◌∙◌, ℕ, ◌≤◌, Option, Some, Result, Ok, Err, IfErr, arith}
use Rattle.calculus.specs.Database.{Db}
use Rattle.base_trait.specs.declared.fault.BaseFault.TheVariants as base
use Rattle.view_expand.specs.declared.fault.ExpansionFault.{ExpansionFault}
use Rattle.view_expand.specs.declared.fault.ExpansionFault.TheVariants.{NoPermit, TooMany, Base, OutOfMemory}
use Rattle.view_expand.specs.Causes.{MayFail, IsCrowded, HasCause}

fails_behind : (refused other : Db → Type 0) (known mid_known : Option Db) (before mid now : ℕ) → mid_known ≡ known → mid ≡ before → ((db : Db) → known ≡ Some db → refused db → other db)
    → (fault : ExpansionFault) → MayFail refused mid_known mid now fault → MayFail other known before now fault
fails_behind refused other known mid_known before mid now e l f NoPermit c = (c.0 ∙ l, λ db h. f db h (c.1 db (e ∙ h)))
fails_behind refused other known mid_known before mid now e l f TooMany c = (c.0 ∙ l, λ db h. c.1 db (e ∙ h))
fails_behind refused other known mid_known before mid now e l f (Base base.Disk) c = omega (arith, c, l)
fails_behind refused other known mid_known before mid now e l f (Base (base.Damaged file page)) c = (sym e ∙ c.0, c.1 ∙ l)
fails_behind refused other known mid_known before mid now e l f (Base base.OutOfMemory) c = c ∙ l
fails_behind refused other known mid_known before mid now e l f OutOfMemory c = c ∙ l

-- what is known of a fault behind a call that leaves the database, and the count of faults, as they are
pub caused_behind : {T : Type 0} (refused other : Db → Type 0) (known mid_known : Option Db) (before mid now : ℕ) (result : Result T ExpansionFault) → mid_known ≡ known → mid ≡ before
    → ((db : Db) → known ≡ Some db → refused db → other db) → HasCause refused mid_known mid now result → HasCause other known before now result
caused_behind {T} refused other known mid_known before mid now (Ok x) e l f c = let k = c.later in record { later = omega (arith, k, l); caused = c.caused ∙ l }
caused_behind {T} refused other known mid_known before mid now (Err fault) e l f c =
    let k = c.later in record { later = omega (arith, k, l); caused = fails_behind refused other known mid_known before mid now e l f fault c.caused }

crowded_fails : (refused : Db → Type 0) (known : Option Db) (before now n : ℕ) → now ≡ before → ((db : Db) → known ≡ Some db → n ≤ 256)
    → (fault : ExpansionFault) → IsCrowded n fault → MayFail refused known before now fault
crowded_fails refused known before now n l few NoPermit c = absurd c
crowded_fails refused known before now n l few TooMany c = (l, λ db h. let k = few db h in omega (arith, k, c))
crowded_fails refused known before now n l few (Base fault) c = absurd c
crowded_fails refused known before now n l few OutOfMemory c = l

-- where a database is known, there are never too many variables
pub crowded_caused : {T : Type 0} (refused : Db → Type 0) (known : Option Db) (before now n : ℕ) (result : Result T ExpansionFault) → now ≡ before → ((db : Db) → known ≡ Some db → n ≤ 256)
    → IfErr result (IsCrowded n) → HasCause refused known before now result
crowded_caused {T} refused known before now n (Ok x) l few c = record { later = omega (arith, l); caused = l }
crowded_caused {T} refused known before now n (Err fault) l few c = record { later = omega (arith, l); caused = crowded_fails refused known before now n l few fault c }
