use Rattle.std.proofs.Common.{refl, ◌∙◌, arith}
use Rattle.heap_am.specs.Heap.{HeapFault}
use Rattle.heap_am.proofs.Faults.{cause_later}
use Rattle.heap_am.proofs.Outcomes.{handed_on}
use Rattle.relation_rows.proofs.unseen.see_range.Goals as goal

pub returns-in_err-see_page-clause-cause : goal.returns-in_err-see_page-clause-cause
returns-in_err-see_page-clause-cause g c =
    cause_later (g.S.PageStore.pages c.args.store.now) (g.S.PageStore.pages c.numbers.store) (HeapFault c.args.method.now.heap.file) (g.S.PageStore.faults c.args.store.now) (g.S.PageStore.faults c.numbers.store)
    (g.S.PageStore.faults c.see_page.new.store) c.from_residual.result c.in_err-see_page.field-0.0
    c.numbers.invariant.same c.numbers.invariant.faults c.in_err-see_page.ensures.cause (handed_on c.from_residual.result c.in_err-see_page.field-0.0 c.from_residual.ensures.1)

pub numbers-init : goal.numbers-init
numbers-init g c = record { same = refl; came = λ s h. h; faults = refl }

pub numbers-preserved : goal.numbers-preserved
numbers-preserved g c = record {
  same = c.see_page.ensures.same ∙ c.numbers.invariant.same;
  came = λ s h. c.see_page.ensures.came s (c.numbers.invariant.came s h);
  faults = c.in_ok-see_page.ensures.cause.caused ∙ c.numbers.invariant.faults;
}

pub returns-in_err-see_page-clause-same : goal.returns-in_err-see_page-clause-same
returns-in_err-see_page-clause-same g c = c.see_page.ensures.same ∙ c.numbers.invariant.same

pub returns-in_err-see_page-clause-came : goal.returns-in_err-see_page-clause-came
returns-in_err-see_page-clause-came g c = λ s h. c.see_page.ensures.came s (c.numbers.invariant.came s h)

pub returns-clause-same : goal.returns-clause-same
returns-clause-same g c = c.numbers.invariant.same

pub returns-clause-came : goal.returns-clause-came
returns-clause-came g c = c.numbers.invariant.came

pub returns-clause-cause : goal.returns-clause-cause
returns-clause-cause g c = record { later = omega (arith, c.numbers.invariant.faults); caused = c.numbers.invariant.faults }
