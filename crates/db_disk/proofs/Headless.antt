-- Which page shows that a disk holds no database.
use Rattle.std.proofs.Common.{◌≡◌, refl, sym, ap, subst, ◌∙◌, ℕ, ◌==◌, ◌&&◌, true, false, None, Result, Err, if◌then◌else◌}
use Rattle.std.specs.Prelude.{is_some}
use Rattle.base_trait.specs.declared.fault.BaseFault.{BaseFault}
use Rattle.base_trait.specs.declared.fault.BaseFault.TheVariants as faults
use Rattle.disk_model.specs.Disk.{Image}
use Rattle.stored_database.specs.Denoting.{birth}
use Rattle.db_disk.specs.Held.{administrator, has_head, headless_page}
use Rattle.db_disk.specs.Load.{as_base, base_fault, IsNoHead}
use Rattle.db_disk.specs.declared.load.LoadFault.{LoadFault}
use Rattle.db_disk.specs.declared.load.LoadFault.TheVariants as load

pub same_page : {T : Type 0} (one other : ℕ) → ◌≡◌ {A = Result T LoadFault} (Err (load.NoHead one)) (Err (load.NoHead other)) → other ≡ one
same_page one other is = let e : one ≡ other = cc is in sym e

pub at_header : (m : Image) (page : ℕ) → (birth m == 1) ≡ true → page ≡ 0 → page ≡ headless_page m
at_header m page born is = is ∙ ap (λ t. if t then 0 else 1) (sym born)

pub at_birth : (m : Image) (page : ℕ) → (birth m == 1) ≡ false → page ≡ 1 → page ≡ headless_page m
at_birth m page unborn is = is ∙ ap (λ t. if t then 0 else 1) (sym unborn)

pub without_header : (m : Image) → administrator m ≡ None → has_head m ≡ false
without_header m none = ap (λ o. is_some o && (birth m == 1)) none

-- the damage of an opening is the page that shows it
pub at_head_of : (T : Type 0) (m : Image) (fault : LoadFault) (of : BaseFault) (file page : ℕ) → of ≡ base_fault fault → IsNoHead {T = T} (Err fault)
    → ((p : ℕ) → fault ≡ load.NoHead p → p ≡ headless_page m) → of ≡ faults.Damaged file page → (file ≡ 0) × (page ≡ headless_page m)
at_head_of T m (load.NoHead p) of file page same no_head at e =
    let both : faults.Damaged 0 p ≡ faults.Damaged file page = sym same ∙ e in
    let files : 0 ≡ file = cc both in
    let pages : p ≡ page = cc both in
    (sym files, sym pages ∙ at p refl)
at_head_of T m (load.Base faults.Disk) of file page same no_head at e = let bad : faults.Disk ≡ faults.Damaged file page = sym same ∙ e in absurd (cc bad)
at_head_of T m (load.Base (faults.Damaged f p)) of file page same no_head at e = absurd no_head
at_head_of T m (load.Base faults.OutOfMemory) of file page same no_head at e = let bad : faults.OutOfMemory ≡ faults.Damaged file page = sym same ∙ e in absurd (cc bad)

pub same_err : {T : Type 0} (one other : BaseFault) → ◌≡◌ {A = Result T BaseFault} (Err one) (Err other) → one ≡ other
same_err one other is = cc is

-- the fault of a base is that of its opening
pub of_base : {T U : Type 0} (fault : LoadFault) (result : Result T LoadFault) (of : BaseFault) (file page : ℕ) → result ≡ Err fault → of ≡ base_fault fault → ◌≡◌ {A = Result U BaseFault} (Err of) (Err (faults.Damaged file page))
    → as_base result ≡ Err (faults.Damaged file page)
of_base {T} {U} fault result of file page is same e = ap as_base is ∙ ap (λ (f : BaseFault). Err f) (sym same ∙ same_err {T = U} of (faults.Damaged file page) e)

pub at_head_by : {T U : Type 0} (m : Image) (fault : LoadFault) (result : Result T LoadFault) (of : BaseFault) (file page : ℕ) → result ≡ Err fault → of ≡ base_fault fault → IsNoHead result
    → ((p : ℕ) → result ≡ Err (load.NoHead p) → p ≡ headless_page m) → ◌≡◌ {A = Result U BaseFault} (Err of) (Err (faults.Damaged file page)) → (file ≡ 0) × (page ≡ headless_page m)
at_head_by {T} {U} m fault result of file page is same no_head at e =
    at_head_of T m fault of file page same (subst (λ (r : Result T LoadFault). IsNoHead r) is no_head) (λ p so. at p (is ∙ ap (λ (f : LoadFault). Err f) so)) (same_err {T = U} of (faults.Damaged file page) e)
