-- Why a call may answer a fault that comes of a call in it.
use Rattle.std.proofs.Common.{arith, ℕ, Option, ◌≡◌, ◌∙◌}
use Rattle.std.specs.Prelude.{OnErr, Result, Ok, Err}
use Rattle.am_traits.specs.Causes.{HasFileCause, IsAtFault}
use Rattle.base_trait.specs.declared.fault.BaseFault.{BaseFault}
use Rattle.disk_model.specs.Disk.{Image}
use Rattle.disk_model.specs.declared.disk.Addr.{Addr}
use Rattle.page_chain.proofs.Carried.{cause_earlier}

-- the answer is that of the last call, which has its cause; before it the count stayed
pub cause_on : {T : Type 0} (old mid : Option Image) (P Q : Image → Addr → Type 0) (before between now : ℕ) (result : Result T BaseFault) → between ≡ before
    → ((a : Addr) → IsAtFault mid P a → IsAtFault old Q a) → HasFileCause mid P between now result → HasFileCause old Q before now result
cause_on old mid P Q before between now (Ok x) calm turn its = record { later = omega (arith, calm, its.later); caused = its.caused ∙ calm }
cause_on {T} old mid P Q before between now (Err fault) calm turn its = cause_earlier {T = T} {U = T} old mid P Q before between now fault calm turn its

-- what holds in any case holds where the answer is an error
pub on_err : {A E P : Type 0} (r : Result A E) → P → OnErr r P
on_err (Ok x) h = tt
on_err (Err e) h = h
