use Rattle.relation_rows.proofs.Pages.{page_read}
use Rattle.heap_am.specs.Heap.{HeapFault}
use Rattle.heap_am.proofs.Faults.{cause_by}
use Rattle.heap_am.proofs.Outcomes.{handed_on}
use Rattle.relation_rows.proofs.reading.read_page.Goals as goal

pub returns-clause-came : goal.returns-clause-came
returns-clause-came g c = c.page_rows.ensures.came

pub returns-in_err-found-clause-came : goal.returns-in_err-found-clause-came
returns-in_err-found-clause-came g c = c.page_rows.ensures.came

pub returns-clause-only_read : goal.returns-clause-only_read
returns-clause-only_read g c = c.page_rows.ensures.only_read

pub returns-in_err-found-clause-only_read : goal.returns-in_err-found-clause-only_read
returns-in_err-found-clause-only_read g c = c.page_rows.ensures.only_read

pub returns-clause-same : goal.returns-clause-same
returns-clause-same g c = c.page_rows.ensures.same

pub returns-in_err-found-clause-same : goal.returns-in_err-found-clause-same
returns-in_err-found-clause-same g c = c.page_rows.ensures.same

pub returns-clause-reads : goal.returns-clause-reads
returns-clause-reads g c = c.page_rows.ensures.reads

pub returns-in_err-found-clause-reads : goal.returns-in_err-found-clause-reads
returns-in_err-found-clause-reads g c = c.page_rows.ensures.reads

pub returns-clause-known : goal.returns-clause-known
returns-clause-known g c m placed t e =
    page_read placed c.args.number c.in_ok-found.found c.args.rows.now.items c.put_behind.new.rows.items (c.in_ok-found.ensures.known m placed t e) c.in_ok-put_behind.ensures

pub returns-clause-stands : goal.returns-clause-stands
returns-clause-stands g c m t = c.in_ok-found.ensures.stands m t

pub returns-clause-cause : goal.returns-clause-cause
returns-clause-cause g c = record { later = c.page_rows.ensures.cause.later; caused = c.in_ok-found.ensures.cause.caused }

pub returns-in_err-found-clause-cause : goal.returns-in_err-found-clause-cause
returns-in_err-found-clause-cause g c =
    cause_by (HeapFault c.args.method.now.heap.file) c.from_residual.result c.in_err-found.field-0.0 (λ m a off. off)
    c.in_err-found.ensures.cause (handed_on c.from_residual.result c.in_err-found.field-0.0 c.from_residual.ensures.1)
