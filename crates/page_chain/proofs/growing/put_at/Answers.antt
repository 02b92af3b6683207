use Rattle.std.proofs.Common.{◌∙◌, sym, length, arith, subst}
use Rattle.page_chain.proofs.Grown.{one_here}
use Rattle.std.specs.Prelude.{IfOk}
use Rattle.am_traits.specs.Pages.{with_page}
use Rattle.page_chain.specs.Filled.{OneLaid}
use Rattle.page_chain.specs.Pages.{page_at}
use Rattle.page_chain.proofs.Handed.{store_on}
use Rattle.page_chain.proofs.growing.put_at.Goals as goal

pub returns-in_ok-put-in-Some-clause-laid : goal.returns-in_ok-put-in-Some-clause-laid
returns-in_ok-put-in-Some-clause-laid g c m known =
    one_here c.args.file c.args.last c.args.page.now c.put_row.new.p (length c.args.row.now) c.in-Some.line c.args.row.now m (g.S.PageStore.pages c.put.new.self)
    c.in-Some.ensures.page (c.in-Some.ensures.next ∙ c.requires.ends) (sym c.in-Some.ensures.line) c.in-Some.ensures.slots (c.in_ok-put-in-Some.ensures.page m known)

pub returns-in-None-clause-laid : goal.returns-in-None-clause-laid
returns-in-None-clause-laid g c = λ m known.
    subst (λ p. IfOk c.put_behind.result (λ place. OneLaid c.args.file c.args.last place c.args.row.now (with_page (page_at c.args.file c.args.last) p m) (g.S.PageStore.pages c.put_behind.new.store)))
    c.in-None.ensures.none (c.put_behind.ensures.laid m known)

pub returns-in-None-clause-behind : goal.returns-in-None-clause-behind
returns-in-None-clause-behind g c = c.put_behind.ensures.behind

pub returns-in-None-clause-came : goal.returns-in-None-clause-came
returns-in-None-clause-came g c = c.put_behind.ensures.came

pub returns-in-None-clause-cause : goal.returns-in-None-clause-cause
returns-in-None-clause-cause g c = c.put_behind.ensures.cause

pub returns-in_ok-put-in-Some-clause-came : goal.returns-in_ok-put-in-Some-clause-came
returns-in_ok-put-in-Some-clause-came g c = c.put.ensures.came

pub returns-in_ok-put-in-Some-clause-behind : goal.returns-in_ok-put-in-Some-clause-behind
returns-in_ok-put-in-Some-clause-behind g c = (omega arith, omega arith)

pub returns-in_ok-put-in-Some-clause-cause : goal.returns-in_ok-put-in-Some-clause-cause
returns-in_ok-put-in-Some-clause-cause g c = record { later = c.put.ensures.cause.later; caused = c.in_ok-put-in-Some.ensures.cause.caused }

pub returns-in_err-put-in-Some-clause-came : goal.returns-in_err-put-in-Some-clause-came
returns-in_err-put-in-Some-clause-came g c = c.put.ensures.came

pub returns-in_err-put-in-Some-clause-cause : goal.returns-in_err-put-in-Some-clause-cause
returns-in_err-put-in-Some-clause-cause g c =
    store_on (g.S.PageStore.faults c.args.store.now) (g.S.PageStore.faults c.args.store.now) (g.S.PageStore.faults c.put.new.self) c.in_err-put-in-Some.field-0.0 (omega arith) c.in_err-put-in-Some.ensures.cause c.from_residual.result c.from_residual.ensures.1
