use Rattle.std.proofs.Common.{refl, ◌∙◌, arith}
use Rattle.heap_am.specs.Heap.{HeapFault}
use Rattle.heap_am.proofs.Faults.{cause_later}
use Rattle.heap_am.proofs.Outcomes.{handed_on}
use Rattle.relation_rows.proofs.unseen.see_all.Goals as goal

pub returns-in_err-see_range-clause-cause : goal.returns-in_err-see_range-clause-cause
returns-in_err-see_range-clause-cause g c =
    cause_later (g.S.PageStore.pages c.args.store.now) (g.S.PageStore.pages c.each.store) (HeapFault c.args.method.now.heap.file) (g.S.PageStore.faults c.args.store.now) (g.S.PageStore.faults c.each.store)
    (g.S.PageStore.faults c.see_range.new.store) c.from_residual.result c.in_err-see_range.field-0.0
    c.each.invariant.same c.each.invariant.faults c.in_err-see_range.ensures.cause (handed_on c.from_residual.result c.in_err-see_range.field-0.0 c.from_residual.ensures.1)

pub each-init : goal.each-init
each-init g c = record { same = refl; came = λ s h. h; faults = refl }

pub each-preserved : goal.each-preserved
each-preserved g c = record {
  same = c.see_range.ensures.same ∙ c.each.invariant.same;
  came = λ s h. c.see_range.ensures.came s (c.each.invariant.came s h);
  faults = c.in_ok-see_range.ensures.cause.caused ∙ c.each.invariant.faults;
}

pub returns-in_err-see_range-clause-same : goal.returns-in_err-see_range-clause-same
returns-in_err-see_range-clause-same g c = c.see_range.ensures.same ∙ c.each.invariant.same

pub returns-in_err-see_range-clause-came : goal.returns-in_err-see_range-clause-came
returns-in_err-see_range-clause-came g c = λ s h. c.see_range.ensures.came s (c.each.invariant.came s h)

pub returns-clause-same : goal.returns-clause-same
returns-clause-same g c = c.each.invariant.same

pub returns-clause-came : goal.returns-clause-came
returns-clause-came g c = c.each.invariant.came

pub returns-clause-cause : goal.returns-clause-cause
returns-clause-cause g c = record { later = omega (arith, c.each.invariant.faults); caused = c.each.invariant.faults }
