-- What an opening answers.
use Rattle.std.proofs.Common.{◌≡◌, refl, sym, ◌∙◌, ℕ, Option, Some, None, Result, Err}
use Rattle.disk_model.specs.Disk.{Image}
use Rattle.base_trait.specs.declared.fault.BaseFault.{BaseFault}
use Rattle.base_trait.specs.declared.fault.BaseFault.TheVariants as faults
use Rattle.db_disk.specs.Load.{IsNoHead}
use Rattle.db_disk.specs.declared.load.LoadFault.TheVariants.{Base}

-- where pages are there once the batch is applied, a fault of the disk or want of memory came first
pub refused_first : (pages : Option Image) (m : Image) (fault : BaseFault) → pages ≡ Some m
    → ((file page : ℕ) → ◌≡◌ {A = Result (Unit {0}) BaseFault} (Err fault) (Err (faults.Damaged file page)) → pages ≡ None) → IsNoHead {T = Unit {0}} (Err (Base fault))
refused_first pages m faults.Disk is none = tt
refused_first pages m (faults.Damaged file page) is none = let bad : Some m ≡ None = sym is ∙ none file page refl in absurd (cc bad)
refused_first pages m faults.OutOfMemory is none = tt
