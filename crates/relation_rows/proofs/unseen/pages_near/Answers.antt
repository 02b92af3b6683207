use Rattle.heap_am.specs.Heap.{HeapFault}
use Rattle.heap_am.proofs.Faults.{cause_by}
use Rattle.heap_am.proofs.Outcomes.{handed_on}
use Rattle.relation_rows.proofs.unseen.pages_near.Goals as goal

pub returns-clause-came : goal.returns-clause-came
returns-clause-came g c = c.see_all.ensures.came

pub returns-in_err-see_all-clause-came : goal.returns-in_err-see_all-clause-came
returns-in_err-see_all-clause-came g c = c.see_all.ensures.came

pub returns-clause-same : goal.returns-clause-same
returns-clause-same g c = c.see_all.ensures.same

pub returns-in_err-see_all-clause-same : goal.returns-in_err-see_all-clause-same
returns-in_err-see_all-clause-same g c = c.see_all.ensures.same

pub returns-clause-cause : goal.returns-clause-cause
returns-clause-cause g c = record { later = c.see_all.ensures.cause.later; caused = c.in_ok-see_all.ensures.cause.caused }

pub returns-in_err-see_all-clause-cause : goal.returns-in_err-see_all-clause-cause
returns-in_err-see_all-clause-cause g c =
    cause_by (HeapFault c.args.method.now.heap.file) c.from_residual.result c.in_err-see_all.field-0.0 (λ m a off. off)
    c.in_err-see_all.ensures.cause (handed_on c.from_residual.result c.in_err-see_all.field-0.0 c.from_residual.ensures.1)
