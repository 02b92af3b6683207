-- At which page an opening finds damage.
use Rattle.std.proofs.Common.{◌≡◌, ap, refl, subst, ℕ, Bool, ◌==◌, ◌&&◌, true, false, Option, Some, Result, Err}
use Rattle.std.specs.Prelude.{is_some}
use Rattle.base_trait.specs.declared.fault.BaseFault.{BaseFault}
use Rattle.base_trait.specs.declared.fault.BaseFault.TheVariants as faults
use Rattle.disk_model.specs.Disk.{Image}
use Rattle.disk_model.specs.declared.disk.Addr.{Addr}
use Rattle.am_traits.specs.Causes.{MayFail}
use Rattle.stored_database.specs.Denoting.{birth}
use Rattle.db_disk.specs.Held.{administrator, has_head}

-- damage that may come is at a page that is at fault
pub at_fault : (known : Option Image) (P : Image → Addr → Type 0) (before now : ℕ) (fault : BaseFault) → MayFail known P before now fault
    → (m : Image) (file page : ℕ) → known ≡ Some m → fault ≡ faults.Damaged file page → P m (record { file = file; page = page })
at_fault known P before now fault may m file page is same = (subst (λ (f : BaseFault). MayFail known P before now f) same may).0 m is

no_other : (a b : Bool) → b ≡ false → (a && b) ≡ false
no_other true b off = off
no_other false b off = refl

pub without_birth : (m : Image) → (birth m == 1) ≡ false → has_head m ≡ false
without_birth m unborn = no_other (is_some (administrator m)) (birth m == 1) unborn
