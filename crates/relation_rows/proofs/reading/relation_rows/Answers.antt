use Rattle.std.proofs.Common.{rules, ap, sym, subst, arith, ◌∙◌, ◌++◌, refl}
use Rattle.am_traits.specs.Causes.{HasFileCause}
use Rattle.am_traits.specs.Placed.{rows_from}
use Rattle.page_chain.specs.Lying.{place_of}
use Rattle.heap_am.specs.Heap.{HeapFault, heap_rows}
use Rattle.heap_am.proofs.Faults.{cause_later}
use Rattle.heap_am.proofs.Outcomes.{handed_on}
use Rattle.relation_rows.proofs.Pages.{is_read, none_read, one_stands}
use Rattle.relation_rows.proofs.reading.relation_rows.Goals as goal

pub returns-in_err-read_page-clause-cause : goal.returns-in_err-read_page-clause-cause
returns-in_err-read_page-clause-cause g c =
    subst (λ file. HasFileCause (g.S.PageStore.pages c.args.store.now) (HeapFault file) (g.S.PageStore.faults c.args.store.now) (g.S.PageStore.faults c.read_page.new.store) c.from_residual.result) c.open_method-method.ensures
    (cause_later (g.S.PageStore.pages c.args.store.now) (g.S.PageStore.pages c.pages.store) (HeapFault c.open_method-method.result.heap.file) (g.S.PageStore.faults c.args.store.now) (g.S.PageStore.faults c.pages.store) (g.S.PageStore.faults c.read_page.new.store) c.from_residual.result c.in_err-read_page.field-0.0
    c.pages.invariant.same c.pages.invariant.faults c.in_err-read_page.ensures.cause (handed_on c.from_residual.result c.in_err-read_page.field-0.0 c.from_residual.ensures.1))

pub returns-clause-exact : goal.returns-clause-exact
returns-clause-exact g c m t =
    is_read c.args.file m c.pages.number c.pages.rows.items c.of.result c.requires.pages (omega arith) c.of.ensures (λ placed e. c.pages.invariant.known m placed t e) (c.pages.invariant.stand m t)

pub pages-preserved : goal.pages-preserved
pages-preserved g c =
    let so_far = c.pages.invariant in
    let opened = c.open_method-method.ensures in
    record {
      known = λ m placed t e. so_far.known m placed t e ∙ c.in_ok-read_page.ensures.known m placed (so_far.same ∙ t) (ap (λ file. heap_rows file m) opened ∙ e);
      stand = λ m t. one_stands c.args.file c.open_method-method.result.heap.file m c.pages.number opened (so_far.stand m t) (c.in_ok-read_page.ensures.stands m (so_far.same ∙ t));
      same = c.read_page.ensures.same ∙ so_far.same;
      reads = (let one = c.read_page.ensures.reads in record { later = omega (arith, so_far.reads.later, one.later); at_most = omega (arith, so_far.reads.at_most, one.at_most) });
      came = λ s h. c.read_page.ensures.came s (so_far.came s h);
      only_read = λ s h. c.read_page.ensures.only_read s (so_far.only_read s h);
      faults = c.in_ok-read_page.ensures.cause.caused ∙ so_far.faults;
    }

pub pages-init : goal.pages-init
pages-init g c = record {
  known = λ m placed t e. sym (none_read c.args.file m placed c.requires.pages e) ∙ ap (λ rows. rows ++ rows_from placed (place_of 0 0)) (sym c.new-rows.ensures.items);
  stand = search rules;
  same = search rules;
  reads = search rules;
  came = λ s h. h;
  only_read = λ s h. h;
  faults = refl;
}

pub returns-clause-same : goal.returns-clause-same
returns-clause-same g c = c.pages.invariant.same

pub returns-clause-came : goal.returns-clause-came
returns-clause-came g c = c.pages.invariant.came

pub returns-clause-only_read : goal.returns-clause-only_read
returns-clause-only_read g c = c.pages.invariant.only_read

pub returns-clause-cause : goal.returns-clause-cause
returns-clause-cause g c = record { later = omega (arith, c.pages.invariant.faults); caused = c.pages.invariant.faults }

pub returns-in_err-read_page-clause-same : goal.returns-in_err-read_page-clause-same
returns-in_err-read_page-clause-same g c = c.read_page.ensures.same ∙ c.pages.invariant.same

pub returns-in_err-read_page-clause-came : goal.returns-in_err-read_page-clause-came
returns-in_err-read_page-clause-came g c = λ s h. c.read_page.ensures.came s (c.pages.invariant.came s h)

pub returns-in_err-read_page-clause-only_read : goal.returns-in_err-read_page-clause-only_read
returns-in_err-read_page-clause-only_read g c = λ s h. c.read_page.ensures.only_read s (c.pages.invariant.only_read s h)
