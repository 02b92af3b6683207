use Rattle.heap_am.specs.Heap.{HeapFault}
use Rattle.heap_am.proofs.Faults.{cause_by}
use Rattle.heap_am.proofs.Outcomes.{handed_on}
use Rattle.relation_rows.proofs.unseen.see_page.Goals as goal

pub returns-clause-came : goal.returns-clause-came
returns-clause-came g c = c.page_rows.ensures.came

pub returns-in_err-found-clause-came : goal.returns-in_err-found-clause-came
returns-in_err-found-clause-came g c = c.page_rows.ensures.came

pub returns-clause-same : goal.returns-clause-same
returns-clause-same g c = c.page_rows.ensures.same

pub returns-in_err-found-clause-same : goal.returns-in_err-found-clause-same
returns-in_err-found-clause-same g c = c.page_rows.ensures.same

pub returns-clause-cause : goal.returns-clause-cause
returns-clause-cause g c = record { later = c.page_rows.ensures.cause.later; caused = c.in_ok-found.ensures.cause.caused }

pub returns-in_err-found-clause-cause : goal.returns-in_err-found-clause-cause
returns-in_err-found-clause-cause g c =
    cause_by (HeapFault c.args.method.now.heap.file) c.from_residual.result c.in_err-found.field-0.0 (λ m a off. off)
    c.in_err-found.ensures.cause (handed_on c.from_residual.result c.in_err-found.field-0.0 c.from_residual.ensures.1)
