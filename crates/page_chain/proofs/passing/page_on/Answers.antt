use Rattle.std.proofs.Common.{arith}
use Rattle.page_chain.specs.Chains.{OffPage}
use Rattle.page_chain.specs.Passing.{OffChain}
use Rattle.page_chain.proofs.Carried.{cause_carried}
use Rattle.page_chain.proofs.Stepping.{off_any}
use Rattle.page_chain.proofs.passing.page_on.Goals as goal

pub returns-in_err-next-clause-cause : goal.returns-in_err-next-clause-cause
returns-in_err-next-clause-cause g c =
    cause_carried (g.S.PageStore.pages c.args.store.now) (g.S.PageStore.pages c.args.store.now)
    (OffPage c.args.chain.file c.args.number c.args.chain.bound) (OffChain c.args.chain.file c.args.number c.args.chain.bound c.args.chain.last)
    (g.S.PageStore.faults c.args.store.now) (g.S.PageStore.faults c.args.store.now) (g.S.PageStore.faults c.chain_page.new.store) c.in_err-next.field-0.0 (omega arith)
    (off_any c.args.chain.file c.args.number c.args.chain.bound c.args.chain.last (g.S.PageStore.pages c.args.store.now))
    c.in_err-next.ensures.cause c.from_residual.result c.from_residual.ensures.1

pub returns-clause-came : goal.returns-clause-came
returns-clause-came g c = c.chain_page.ensures.came

pub returns-in_err-next-clause-came : goal.returns-in_err-next-clause-came
returns-in_err-next-clause-came g c = c.chain_page.ensures.came

pub returns-clause-same : goal.returns-clause-same
returns-clause-same g c = c.chain_page.ensures.same

pub returns-in_err-next-clause-same : goal.returns-in_err-next-clause-same
returns-in_err-next-clause-same g c = c.chain_page.ensures.same

pub returns-clause-there : goal.returns-clause-there
returns-clause-there g c = c.in_ok-next.ensures.there

pub returns-clause-follows : goal.returns-clause-follows
returns-clause-follows g c = c.in_ok-next.ensures.follows

pub returns-clause-page : goal.returns-clause-page
returns-clause-page g c = c.in_ok-next.ensures.page

pub returns-clause-next : goal.returns-clause-next
returns-clause-next g c = c.in_ok-next.ensures.next

pub returns-clause-cause : goal.returns-clause-cause
returns-clause-cause g c = record { later = c.chain_page.ensures.cause.later; caused = c.in_ok-next.ensures.cause.caused }
