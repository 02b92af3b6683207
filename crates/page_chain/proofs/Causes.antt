-- Faults that come of a call below.
use Rattle.std.proofs.Common.{◌≡◌, ◌∙◌, subst, ℕ, Option, Some, arith}
use Rattle.std.specs.Prelude.{Err}
use Rattle.fault_io.specs.Causes.{Rose}
use Rattle.disk_model.specs.Disk.{Image}
use Rattle.disk_model.specs.declared.disk.Addr.{Addr}
use Rattle.base_trait.specs.declared.fault.BaseFault.{BaseFault}
use Rattle.base_trait.specs.declared.fault.BaseFault.TheVariants as faults
use Rattle.am_traits.specs.Causes.{HasFileCause, MayFail}

-- what rose since then rose
rose_later : (before mid now : ℕ) → mid ≡ before → Rose mid now → Rose before now
rose_later before mid now calm = subst (λ n. Rose n now) calm

-- a fault may come for a weaker cause, after other calls that answered
pub may_fail_later : (known : Option Image) (P Q : Image → Addr → Type 0) (before mid now : ℕ) (fault : BaseFault) → mid ≡ before → ((m : Image) (a : Addr) → known ≡ Some m → P m a → Q m a)
    → MayFail known P mid now fault → MayFail known Q before now fault
may_fail_later known P Q before mid now faults.Disk calm weaker may = rose_later before mid now calm may
may_fail_later known P Q before mid now (faults.Damaged file page) calm weaker may = (λ m is. weaker m (record { file = file; page = page }) is (may.0 m is), may.1 ∙ calm)
may_fail_later known P Q before mid now faults.OutOfMemory calm weaker may = may ∙ calm

pub fault_later : {T U : Type 0} (known : Option Image) (P Q : Image → Addr → Type 0) (before mid now : ℕ) (fault : BaseFault) → mid ≡ before → ((m : Image) (a : Addr) → known ≡ Some m → P m a → Q m a)
    → HasFileCause {T = T} known P mid now (Err fault) → HasFileCause {T = U} known Q before now (Err fault)
fault_later known P Q before mid now fault calm weaker cause = record { later = omega (arith, calm, cause.later); caused = may_fail_later known P Q before mid now fault calm weaker cause.caused }
