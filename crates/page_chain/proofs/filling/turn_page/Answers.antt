use Rattle.std.proofs.Common.{arith}
use Rattle.page_chain.proofs.Handed.{store_on}
use Rattle.page_chain.proofs.filling.turn_page.Goals as goal

pub returns-clause-came : goal.returns-clause-came
returns-clause-came g c = c.put.ensures.came

pub returns-in_err-put-clause-came : goal.returns-in_err-put-clause-came
returns-in_err-put-clause-came g c = c.put.ensures.came

pub returns-clause-linked : goal.returns-clause-linked
returns-clause-linked g c = λ m known. record {
  linked = c.set_next.new.p;
  is_page = c.set_next.ensures.page;
  same_slots = c.set_next.ensures.slots;
  goes_on = c.set_next.ensures.next;
  still_known = c.in_ok-put.ensures.page m known;
}

pub returns-clause-fresh : goal.returns-clause-fresh
returns-clause-fresh g c = c.fresh_page.ensures.slots

pub returns-clause-next : goal.returns-clause-next
returns-clause-next g c = c.fresh_page.ensures.next

pub returns-clause-page : goal.returns-clause-page
returns-clause-page g c = c.fresh_page.ensures.page

pub returns-clause-cause : goal.returns-clause-cause
returns-clause-cause g c = record { later = c.put.ensures.cause.later; caused = c.in_ok-put.ensures.cause.caused }

pub returns-in_err-put-clause-cause : goal.returns-in_err-put-clause-cause
returns-in_err-put-clause-cause g c =
    store_on (g.S.PageStore.faults c.args.store.now) (g.S.PageStore.faults c.args.store.now) (g.S.PageStore.faults c.put.new.self) c.in_err-put.field-0.0 (omega arith) c.in_err-put.ensures.cause c.from_residual.result c.from_residual.ensures.1
