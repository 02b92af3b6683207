use Rattle.heap_am.proofs.Faults.{cause_of_page}
use Rattle.heap_am.proofs.heap.Heap.row_on_page.Goals as goal

pub returns-clause-known : goal.returns-clause-known
returns-clause-known g c m rows t e = c.line.ensures.known m rows e (c.in_ok-page.ensures.there m t)

pub returns-clause-cause : goal.returns-clause-cause
returns-clause-cause g c =
    cause_of_page (g.S.PageStore.pages c.args.store.now) c.args.self.now.file c.args.place.now.page c.page.new.out (g.S.PageStore.faults c.args.store.now) (g.S.PageStore.faults c.page.new.store) c.line.result
    c.in_ok-page.ensures.cause.caused c.in_ok-page.ensures.there c.line.ensures.fault

pub returns-clause-came : goal.returns-clause-came
returns-clause-came g c = c.page.ensures.came

pub returns-in_err-page-clause-came : goal.returns-in_err-page-clause-came
returns-in_err-page-clause-came g c = c.page.ensures.came

pub returns-clause-only_read : goal.returns-clause-only_read
returns-clause-only_read g c = c.page.ensures.only_read

pub returns-in_err-page-clause-only_read : goal.returns-in_err-page-clause-only_read
returns-in_err-page-clause-only_read g c = c.page.ensures.only_read

pub returns-clause-same : goal.returns-clause-same
returns-clause-same g c = c.page.ensures.same

pub returns-in_err-page-clause-same : goal.returns-in_err-page-clause-same
returns-in_err-page-clause-same g c = c.page.ensures.same

pub returns-clause-reads : goal.returns-clause-reads
returns-clause-reads g c = c.page.ensures.reads

pub returns-in_err-page-clause-reads : goal.returns-in_err-page-clause-reads
returns-in_err-page-clause-reads g c = c.page.ensures.reads
