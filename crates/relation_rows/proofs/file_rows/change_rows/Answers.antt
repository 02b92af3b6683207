use Rattle.std.proofs.Common.{All, IsTrue, ◌∙◌, sym, ap, subst, true≢false, arith, ◌≤◌, ◌<◌, ◌+◌, ◌^◌, length}
use Rattle.am_traits.specs.Pages.{KeepsOthers}
use Rattle.am_traits.specs.Placed.{SameButUsed}
use Rattle.calculus.specs.Replacement.{with_rows, without_rows}
use Rattle.calculus.specs.declared.schema.RelFile.{RelFile}
use Rattle.page_cells.specs.RowBytes.{is_row}
use Rattle.heap_am.specs.Heap.{heap_rows, HeapFault}
use Rattle.page_chain.proofs.Carried.{cause_carried}
use Rattle.relation_rows.specs.Sets.{HasNoneOf, HasSet}
use Rattle.relation_rows.proofs.Holding.{all_went, holds_none, set_after}
use Rattle.relation_rows.proofs.file_rows.change_rows.Goals as goal

pub returns-in_err-near-clause-cause : goal.returns-in_err-near-clause-cause
returns-in_err-near-clause-cause g c =
    let old = g.S.PageStore.pages c.args.store.now in
    let start = g.S.PageStore.faults c.args.store.now in
    cause_carried old old (HeapFault c.open_method-method.result.heap.file) (HasNoneOf c.args.file c.args.remove.now) start start (g.S.PageStore.faults c.pages_near.new.store) c.in_err-near.field-0.0 (omega arith)
    (λ a at m known. holds_none c.args.file c.args.remove.now m a (subst (λ file. HeapFault file m a) c.open_method-method.ensures (at m known)))
    c.in_err-near.ensures.cause c.from_residual.result c.from_residual.ensures.1

pub returns-in_err-replace_near-clause-cause : goal.returns-in_err-replace_near-clause-cause
returns-in_err-replace_near-clause-cause g c =
    let old = g.S.PageStore.pages c.args.store.now in
    let mid = g.S.PageStore.pages c.pages_near.new.store in
    cause_carried old mid (HeapFault c.open_method-method.result.heap.file) (HasNoneOf c.args.file c.args.remove.now) (g.S.PageStore.faults c.args.store.now) (g.S.PageStore.faults c.pages_near.new.store)
    (g.S.PageStore.faults c.replace_near.new.store) c.in_err-replace_near.field-0.0 c.in_ok-near.ensures.cause.caused
    (λ a at m known. holds_none c.args.file c.args.remove.now m a (subst (λ file. HeapFault file m a) c.open_method-method.ensures (at m (c.in_ok-near.ensures.same ∙ known))))
    c.in_err-replace_near.ensures.cause c.from_residual-in_err-replace_near.result c.from_residual-in_err-replace_near.ensures.1

pub returns-then-not-branch-clause-cause : goal.returns-then-not-branch-clause-cause
returns-then-not-branch-clause-cause g c = record {
  later = (let a = c.in_ok-near.ensures.cause.later in let b = c.in_ok-replace_near.ensures.cause.later in omega (arith, a, b));
  caused = (
    λ m t rows set differ there.
        true≢false (sym (all_went c.args.file c.replace_near.new.self.heap.file m rows c.args.remove.now c.args.add.now (g.S.PageStore.pages c.replace_near.new.store) c.in_ok-replace_near.field-0 set differ there
        (λ placed are. c.in_ok-replace_near.ensures.known m placed (c.in_ok-near.ensures.same ∙ t) (ap (λ file. heap_rows file m) c.open_method-method.ensures ∙ are))) ∙ c.if-not-branch.true),
    c.in_ok-replace_near.ensures.cause.caused ∙ c.in_ok-near.ensures.cause.caused,
  );
}

pub returns-clause-changed : goal.returns-clause-changed
returns-clause-changed g c m rows t set differ there once new =
    subst (λ used. HasSet c.args.file.domains c.args.file.file used (with_rows c.args.add.now (without_rows c.args.remove.now rows)) (g.S.PageStore.pages c.replace_near.new.store)) (ap (λ file. file.used) (sym c.info.ensures))
    (set_after c.args.file c.replace_near.new.self.heap.file m rows c.args.remove.now c.args.add.now (g.S.PageStore.pages c.replace_near.new.store) c.in_ok-replace_near.field-0 set differ there
    (λ placed are. c.in_ok-replace_near.ensures.known m placed (c.in_ok-near.ensures.same ∙ t) (ap (λ file. heap_rows file m) c.open_method-method.ensures ∙ are))
    (subst (λ file. SameButUsed file c.replace_near.new.self.heap.file) c.open_method-method.ensures c.in_ok-replace_near.ensures.file) once new)

pub returns-clause-others : goal.returns-clause-others
returns-clause-others g c =
    subst (λ file. KeepsOthers file (g.S.PageStore.pages c.args.store.now) (g.S.PageStore.pages c.replace_near.new.store)) (ap (λ file. file.file) c.open_method-method.ensures)
    (subst (λ known. KeepsOthers c.open_method-method.result.heap.file.file known (g.S.PageStore.pages c.replace_near.new.store)) c.in_ok-near.ensures.same c.in_ok-replace_near.ensures.others)

pub replace_near-requires-clause-going : goal.replace_near-requires-clause-going
replace_near-requires-clause-going g c = subst (λ (file : RelFile). All (λ row. IsTrue (is_row row file.domains)) c.args.remove.now) (sym c.open_method-method.ensures) c.requires.going

pub replace_near-requires-clause-coming : goal.replace_near-requires-clause-coming
replace_near-requires-clause-coming g c = subst (λ (file : RelFile). All (λ row. IsTrue (is_row row file.domains)) c.args.add.now) (sym c.open_method-method.ensures) c.requires.coming

pub returns-in_err-replace_near-clause-came : goal.returns-in_err-replace_near-clause-came
returns-in_err-replace_near-clause-came g c = λ s h. c.replace_near.ensures.came s (c.pages_near.ensures.came s h)

pub returns-then-not-branch-clause-came : goal.returns-then-not-branch-clause-came
returns-then-not-branch-clause-came g c = λ s h. c.replace_near.ensures.came s (c.pages_near.ensures.came s h)

pub returns-in_err-note-clause-came : goal.returns-in_err-note-clause-came
returns-in_err-note-clause-came g c = λ s h. c.replace_near.ensures.came s (c.pages_near.ensures.came s h)

pub returns-clause-came : goal.returns-clause-came
returns-clause-came g c = λ s h. c.replace_near.ensures.came s (c.pages_near.ensures.came s h)

pub returns-in_err-near-clause-came : goal.returns-in_err-near-clause-came
returns-in_err-near-clause-came g c = c.pages_near.ensures.came

pub returns-clause-some : goal.returns-clause-some
returns-clause-some g c = subst (λ (file : RelFile). 1 ≤ file.used) (sym c.info.ensures) c.replace_near.new.self.heap.pages

pub returns-clause-cause : goal.returns-clause-cause
returns-clause-cause g c = record { later = (let a = c.in_ok-near.ensures.cause.later in let b = c.in_ok-replace_near.ensures.cause.later in omega (arith, a, b)); caused = c.in_ok-replace_near.ensures.cause.caused ∙ c.in_ok-near.ensures.cause.caused }

pub replace_near-requires-clause-room : goal.replace_near-requires-clause-room
replace_near-requires-clause-room g c = subst (λ (file : RelFile). file.used + length c.args.add.now < 2 ^ 32) (sym c.open_method-method.ensures) (omega (arith, c.if-used-add.false))
