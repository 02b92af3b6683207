use Rattle.std.proofs.Common.{sym, refl, subst, ◌∙◌, ◌+◌, ◌-◌, ◌≡◌, ℕ, [], ◌∷◌, ◌++◌, Option, IfSome, Result, Ok, Err, take, arith}
use Rattle.disk_model.specs.Disk.{Image}
use Rattle.disk_model.specs.declared.disk.Addr.{Addr}
use Rattle.base_trait.specs.declared.fault.BaseFault.{BaseFault}
use Rattle.am_traits.specs.Causes.{HasFileCause}
use Rattle.page_chain.specs.Chains.{OffPage, numbers_from}
use Rattle.page_chain.specs.Grown.{IsGrown}
use Rattle.page_chain.specs.Pages.{pages_of}
use Rattle.page_chain.specs.Renewed.{AllLie}
use Rattle.page_chain.proofs.Carried.{cause_carried}
use Rattle.page_chain.proofs.Replaced.{others_twice}
use Rattle.heap_am.specs.Heap.{HeapFault}
use Rattle.heap_am.specs.Near.{IsDoneNear}
use Rattle.heap_am.proofs.Changed.{are_there, rows_renewed, heap_chain_to, all_lie}
use Rattle.heap_am.proofs.DoneNear.{near_all, renewed_near, off_rest}
use Rattle.heap_am.proofs.Faults.{cause_later}
use Rattle.std.specs.Result.{OnOk}
use Rattle.am_traits.specs.Pages.{KeepsOthers}
use Rattle.heap_am.proofs.Rooms.{cause_same}
use Rattle.heap_am.proofs.heap.Heap.renew_first.Goals as goal

-- the answer of a later call
cause_since : {T : Type 0} (known since : Option Image) (P : Image → Addr → Type 0) (before later now : ℕ) (r : Result T BaseFault)
    → since ≡ known → later ≡ before → HasFileCause since P later now r → HasFileCause known P before now r
cause_since known since P before later now (Ok x) same calm h = let c = h.caused in record { later = omega (arith, calm, c); caused = c ∙ calm }
cause_since known since P before later now (Err e) same calm h = cause_later known since P before later now (Err e) e same calm h refl

pub returns-in_err-put_rest-in-Some-clause-cause : goal.returns-in_err-put_rest-in-Some-clause-cause
returns-in_err-put_rest-in-Some-clause-cause g c =
    let file = c.args.self.now.file in
    cause_carried (g.S.PageStore.pages c.args.store.now) (g.S.PageStore.pages c.renew_near.new.store) (OffPage file.file (file.used - 1) (file.used - 1 + 1)) (HeapFault file)
    (g.S.PageStore.faults c.args.store.now) (g.S.PageStore.faults c.renew_near.new.store) (g.S.PageStore.faults c.put_rest.new.store) c.in_err-put_rest-in-Some.field-0.0 c.in_ok-put.ensures.cause.caused
    (off_rest file c.args.going.now (take c.in-Some.put c.args.coming.now) (g.S.PageStore.pages c.args.store.now) (g.S.PageStore.pages c.renew_near.new.store) c.args.self.now.pages
    (λ m is. subst (λ done. IfSome done (λ put. IsDoneNear file.file file.used c.args.going.now (take put c.args.coming.now) m (g.S.PageStore.pages c.renew_near.new.store))) c.in-Some.is (c.in_ok-put.ensures.done m is)))
    c.in_err-put_rest-in-Some.ensures.cause c.from_residual-in_err-put_rest-in-Some.result c.from_residual-in_err-put_rest-in-Some.ensures.1

pub returns-in_ok-put_rest-in-Some-clause-known : goal.returns-in_ok-put_rest-in-Some-clause-known
returns-in_ok-put_rest-in-Some-clause-known g c m rows gone new t e go old co fresh differ once there =
    let file = c.args.self.now.file in
    let now = c.put_rest.new.self.file in
    let between = g.S.PageStore.pages c.renew_near.new.store in
    let later = g.S.PageStore.pages c.put_rest.new.store in
    let some = c.args.self.now.pages in
    let its = subst (λ done. IfSome done (λ put. IsDoneNear file.file file.used c.args.going.now (take put c.args.coming.now) m between)) c.in-Some.is (c.in_ok-put.ensures.done m t) in
    let chain = heap_chain_to file m rows (file.used - 1) (omega arith) e in
    let lie = subst (λ b. AllLie (pages_of m file.file) (numbers_from (file.used - 1) 0 ++ (file.used - 1) ∷ []) b) (sym old) (all_lie file m rows (file.used - 1) gone (omega arith) e go differ once there) in
    let same = c.in_ok-put_rest-in-Some.ensures.file in
    let behind = c.in_ok-put_rest-in-Some.ensures.behind in
    let renewed = renewed_near file.file file.used (file.used - 1) (now.used - 1) c.args.going.now c.args.coming.now c.in-Some.put m between later its (omega arith) chain lie
    (λ kept. subst (λ rows. IsGrown file.file file.used (numbers_from (file.used - 1) 0) (file.used - 1) (now.used - 1) rows its.done.image later) c.split_at.ensures.back
    (c.in_ok-put_rest-in-Some.ensures.grown its.done.image its.done.still_known (numbers_from (file.used - 1) 0) kept)) in (
      refl,
      rows_renewed file now m rows (now.used - 1) gone new c.args.going.now c.args.coming.now later same.file same.domains some (omega (arith, some, behind)) (omega (arith, behind)) e go old co fresh renewed,
    )

pub returns-in_ok-put_rest-in-Some-clause-others : goal.returns-in_ok-put_rest-in-Some-clause-others
returns-in_ok-put_rest-in-Some-clause-others g c =
    let file = c.args.self.now.file in
    others_twice file.file (g.S.PageStore.pages c.args.store.now) (g.S.PageStore.pages c.renew_near.new.store) (g.S.PageStore.pages c.put_rest.new.store)
    (λ m is. let its = subst (λ done. IfSome done (λ put. IsDoneNear file.file file.used c.args.going.now (take put c.args.coming.now) m (g.S.PageStore.pages c.renew_near.new.store))) c.in-Some.is (c.in_ok-put.ensures.done m is) in
    (its.done.image, its.done.still_known, its.done.elsewhere))
    c.in_ok-put_rest-in-Some.ensures.others

pub returns-in-None-clause-known : goal.returns-in-None-clause-known
returns-in-None-clause-known g c m rows gone new t e go old co fresh differ once there =
    c.renew.ensures.known m rows gone new (c.in_ok-put.ensures.none c.in-None.is ∙ t) e go old co fresh differ once there

pub returns-in-None-clause-cause : goal.returns-in-None-clause-cause
returns-in-None-clause-cause g c =
    cause_since (g.S.PageStore.pages c.args.store.now) (g.S.PageStore.pages c.renew_near.new.store) (HeapFault c.args.self.now.file) (g.S.PageStore.faults c.args.store.now) (g.S.PageStore.faults c.renew_near.new.store) (g.S.PageStore.faults c.renew.new.store)
    c.renew.result (c.in_ok-put.ensures.none c.in-None.is) c.in_ok-put.ensures.cause.caused c.renew.ensures.cause

pub returns-in_ok-put_rest-in-Some-clause-came : goal.returns-in_ok-put_rest-in-Some-clause-came
returns-in_ok-put_rest-in-Some-clause-came g c = λ s came. c.put_rest.ensures.came s (c.renew_near.ensures.came s came)

pub returns-in_err-put_rest-in-Some-clause-came : goal.returns-in_err-put_rest-in-Some-clause-came
returns-in_err-put_rest-in-Some-clause-came g c = λ s came. c.put_rest.ensures.came s (c.renew_near.ensures.came s came)

pub returns-in-None-clause-came : goal.returns-in-None-clause-came
returns-in-None-clause-came g c = λ s came. c.renew.ensures.came s (c.renew_near.ensures.came s came)

pub returns-in_err-put-clause-came : goal.returns-in_err-put-clause-came
returns-in_err-put-clause-came g c = c.renew_near.ensures.came

pub returns-in_err-put-clause-cause : goal.returns-in_err-put-clause-cause
returns-in_err-put-clause-cause g c =
    cause_same (g.S.PageStore.pages c.args.store.now) (HeapFault c.args.self.now.file) (g.S.PageStore.faults c.args.store.now) (g.S.PageStore.faults c.renew_near.new.store)
    c.from_residual.result c.in_err-put.field-0.0 c.in_err-put.ensures.cause c.from_residual.ensures.1

pub returns-in_ok-put_rest-in-Some-clause-file : goal.returns-in_ok-put_rest-in-Some-clause-file
returns-in_ok-put_rest-in-Some-clause-file g c = c.in_ok-put_rest-in-Some.ensures.file

pub returns-in_ok-put_rest-in-Some-clause-cause : goal.returns-in_ok-put_rest-in-Some-clause-cause
returns-in_ok-put_rest-in-Some-clause-cause g c = let first = c.renew_near.ensures.cause.later in let second = c.put_rest.ensures.cause.later in record { later = omega (arith, first, second); caused = c.in_ok-put_rest-in-Some.ensures.cause.caused ∙ c.in_ok-put.ensures.cause.caused }

pub returns-in-None-clause-file : goal.returns-in-None-clause-file
returns-in-None-clause-file g c = c.renew.ensures.file

pub returns-in-None-clause-others : goal.returns-in-None-clause-others
returns-in-None-clause-others g c =
    subst (λ known. OnOk c.renew.result (KeepsOthers c.args.self.now.file.file known (g.S.PageStore.pages c.renew.new.store))) (c.in_ok-put.ensures.none c.in-None.is) c.renew.ensures.others

pub returns-in_ok-put_rest-in-Some-clause-only : goal.returns-in_ok-put_rest-in-Some-clause-only
returns-in_ok-put_rest-in-Some-clause-only g c m rows gone t e go old differ once all =
    let file = c.args.self.now.file in
    let between = g.S.PageStore.pages c.renew_near.new.store in
    let some = c.args.self.now.pages in
    let its = subst (λ done. IfSome done (λ put. IsDoneNear file.file file.used c.args.going.now (take put c.args.coming.now) m between)) c.in-Some.is (c.in_ok-put.ensures.done m t) in
    are_there file m rows (file.used - 1) gone c.args.going.now (omega arith) e go old differ once (λ d o. near_all file.file file.used (file.used - 1) c.args.going.now (take c.in-Some.put c.args.coming.now) m between its (omega arith) d o)

pub returns-in-None-clause-only : goal.returns-in-None-clause-only
returns-in-None-clause-only g c m rows gone t e go old differ once =
    c.renew.ensures.only m rows gone (c.in_ok-put.ensures.none c.in-None.is ∙ t) e go old differ once
