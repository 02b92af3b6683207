use Rattle.heap_am.proofs.Faults.{cause_of_page}
use Rattle.heap_am.proofs.heap.Heap.next_read.Goals as goal

pub returns-clause-cause : goal.returns-clause-cause
returns-clause-cause g c =
    cause_of_page (g.S.PageStore.pages c.args.store.now) c.args.self.now.file c.args.at.now.page c.page.new.out (g.S.PageStore.faults c.args.store.now) (g.S.PageStore.faults c.page.new.store) c.next_on_page.result
    c.in_ok-page.ensures.cause.caused c.in_ok-page.ensures.there c.next_on_page.ensures.fault

pub returns-clause-known : goal.returns-clause-known
returns-clause-known g c m rows t e = c.next_on_page.ensures.known m rows e (c.in_ok-page.ensures.there m t)

pub returns-clause-place : goal.returns-clause-place
returns-clause-place g c m rows t e = c.next_on_page.ensures.place m rows e (c.in_ok-page.ensures.there m t)

pub returns-clause-page : goal.returns-clause-page
returns-clause-page g c = c.next_on_page.ensures.page

pub returns-clause-same : goal.returns-clause-same
returns-clause-same g c = c.page.ensures.same

pub returns-clause-came : goal.returns-clause-came
returns-clause-came g c = c.page.ensures.came

pub returns-clause-only_read : goal.returns-clause-only_read
returns-clause-only_read g c = c.page.ensures.only_read
