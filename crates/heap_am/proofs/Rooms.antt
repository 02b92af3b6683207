-- As many bytes as rows, and a fault that was handed on as it is.
use Rattle.std.proofs.Common.{◌≡◌, ℕ, ◌+◌, ◌^◌, ◌<◌, ◌≤◌, List, Option, Result, Err, refl, sym, ap, subst, ◌∙◌, length, map, arith}
use Rattle.std.proofs.lemmas.List.{length-map}
use Rattle.std.specs.Result.{IsErrAnd}
use Rattle.calculus.specs.Rows.{Row}
use Rattle.calculus.specs.declared.value.Domain.{Domain}
use Rattle.disk_model.specs.Disk.{Image}
use Rattle.disk_model.specs.declared.disk.Addr.{Addr}
use Rattle.base_trait.specs.declared.fault.BaseFault.{BaseFault}
use Rattle.am_traits.specs.Causes.{HasFileCause, HasStoreCause, of_store}
use Rattle.am_traits.specs.declared.fault.StoreFault.{StoreFault}
use Rattle.page_cells.specs.RowBytes.{row_bytes}
use Rattle.page_chain.proofs.Carried.{cause_store}
use Rattle.heap_am.proofs.Outcomes.{handed_on}

-- where there is room for the rows there is room for their bytes
pub room_left : (used : ℕ) (items made : List (List ℕ)) (ds : List Domain) (rows : List Row) → items ≡ made → made ≡ map (λ row. row_bytes row ds) rows → used + length rows < 2 ^ 32 → used + length items < 2 ^ 32
room_left used items made ds rows e h room = subst (λ n. used + n < 2 ^ 32) (sym (ap length (e ∙ h) ∙ length-map rows (λ row. row_bytes row ds))) room

-- the same for those of a file that is made anew
pub room_anew : (items made : List (List ℕ)) (ds : List Domain) (rows : List Row) → items ≡ made → made ≡ map (λ row. row_bytes row ds) rows → length rows < 2 ^ 30 → 1 + length items < 2 ^ 32
room_anew items made ds rows e h few = subst (λ n. 1 + n < 2 ^ 32) (sym (ap length (e ∙ h) ∙ length-map rows (λ row. row_bytes row ds))) (omega (arith, few))

-- the fault of the one call
pub cause_same : {T U : Type 0} (known : Option Image) (P : Image → Addr → Type 0) (before now : ℕ) (s : Result U BaseFault) (e : BaseFault)
    → HasFileCause {T = T} known P before now (Err e) → IsErrAnd s (λ f. f ≡ e) → HasFileCause {T = U} known P before now s
cause_same known P before now s e h is = subst (HasFileCause known P before now) (sym (handed_on s e is)) (record { later = h.later; caused = h.caused })

-- the fault of a call of the store, where those before it answered
pub cause_put : {T U : Type 0} (known : Option Image) (P : Image → Addr → Type 0) (before between now : ℕ) (s : Result U BaseFault) (fault : StoreFault)
    → between ≡ before → HasStoreCause {T = T} between now (Err fault) → IsErrAnd s (λ e. e ≡ of_store fault) → HasFileCause {T = U} known P before now s
cause_put {T} {U} known P before between now s fault calm its is = subst (HasFileCause known P before now) (sym (handed_on s (of_store fault) is)) (cause_store {T = T} {U = U} known P before between now fault (of_store fault) calm refl its)
