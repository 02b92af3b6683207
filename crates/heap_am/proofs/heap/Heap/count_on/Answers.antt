use Rattle.std.proofs.Common.{◌≡◌, ◌+◌, sym, subst, length}
use Rattle.page_chain.specs.Lying.{lying_on, staying}
use Rattle.heap_am.specs.Heap.{HeapFault}
use Rattle.heap_am.proofs.Rooms.{cause_same}
use Rattle.heap_am.proofs.heap.Heap.count_on.Goals as goal

pub returns-clause-came : goal.returns-clause-came
returns-clause-came g c = c.page.ensures.came

pub returns-in_err-page-clause-came : goal.returns-in_err-page-clause-came
returns-in_err-page-clause-came g c = c.page.ensures.came

pub returns-clause-same : goal.returns-clause-same
returns-clause-same g c = c.page.ensures.same

pub returns-in_err-page-clause-same : goal.returns-in_err-page-clause-same
returns-in_err-page-clause-same g c = c.page.ensures.same

pub returns-clause-most : goal.returns-clause-most
returns-clause-most g c = c.renew_page-done.ensures.most

pub returns-clause-cause : goal.returns-clause-cause
returns-clause-cause g c = record { later = c.page.ensures.cause.later; caused = c.in_ok-page.ensures.cause.caused }

pub returns-clause-count : goal.returns-clause-count
returns-clause-count g c m is =
    subst (λ page. c.renew_page-done.result.gone + length (staying c.args.going.now (lying_on c.args.number page)) ≡ length (lying_on c.args.number page)) (sym (c.in_ok-page.ensures.there m is)) (c.renew_page-done.ensures.gone c.args.number)

pub returns-in_err-page-clause-cause : goal.returns-in_err-page-clause-cause
returns-in_err-page-clause-cause g c =
    cause_same (g.S.PageStore.pages c.args.store.now) (HeapFault c.args.self.now.file) (g.S.PageStore.faults c.args.store.now) (g.S.PageStore.faults c.page.new.store)
    c.from_residual.result c.in_err-page.field-0.0 c.in_err-page.ensures.cause c.from_residual.ensures.1
