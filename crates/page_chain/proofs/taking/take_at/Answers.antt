use Rattle.std.proofs.Common.{sym, ◌∙◌, arith}
use Rattle.page_chain.proofs.Took.{page_took_line, page_stayed_line}
use Rattle.page_chain.specs.Chains.{OffPage}
use Rattle.page_chain.proofs.Carried.{cause_carried}
use Rattle.page_chain.proofs.Handed.{store_carried}
use Rattle.page_chain.proofs.taking.take_at.Goals as goal

pub returns-in_ok-put-clause-took : goal.returns-in_ok-put-clause-took
returns-in_ok-put-clause-took g c m is =
    page_took_line c.args.file c.args.bound c.args.number c.args.row.now c.take_row-line.result c.in_ok-next.next c.chain_page.new.out c.take_row-line.new.page m (g.S.PageStore.pages c.put.new.self)
    (sym c.is_some.ensures ∙ c.if-is_some.true) (c.in_ok-next.ensures.there m is) (c.in_ok-put.ensures.page m (c.chain_page.ensures.same ∙ is)) c.in_ok-next.ensures.follows
    c.take_row-line.ensures.page c.take_row-line.ensures.next c.take_row-line.ensures.took

pub returns-in_ok-put-clause-came : goal.returns-in_ok-put-clause-came
returns-in_ok-put-clause-came g c = λ s came. c.put.ensures.came s (c.chain_page.ensures.came s came)

pub returns-in_err-put-clause-came : goal.returns-in_err-put-clause-came
returns-in_err-put-clause-came g c = λ s came. c.put.ensures.came s (c.chain_page.ensures.came s came)

pub returns-in_err-next-clause-came : goal.returns-in_err-next-clause-came
returns-in_err-next-clause-came g c = c.chain_page.ensures.came

pub returns-else-is_some-clause-took : goal.returns-else-is_some-clause-took
returns-else-is_some-clause-took g c = λ m is.
    page_stayed_line c.args.file c.args.bound c.args.number c.args.row.now c.take_row-line.result c.in_ok-next.next c.chain_page.new.out m (g.S.PageStore.pages c.chain_page.new.store)
    (sym c.is_some.ensures ∙ c.if-is_some.false) (c.in_ok-next.ensures.there m is) (c.chain_page.ensures.same ∙ is) c.in_ok-next.ensures.follows c.take_row-line.ensures.none

pub returns-else-is_some-clause-same : goal.returns-else-is_some-clause-same
returns-else-is_some-clause-same g c = λ none. c.chain_page.ensures.same

pub returns-else-is_some-clause-came : goal.returns-else-is_some-clause-came
returns-else-is_some-clause-came g c = c.chain_page.ensures.came

pub returns-else-is_some-clause-cause : goal.returns-else-is_some-clause-cause
returns-else-is_some-clause-cause g c = record { later = c.chain_page.ensures.cause.later; caused = c.in_ok-next.ensures.cause.caused }

pub returns-in_ok-put-clause-cause : goal.returns-in_ok-put-clause-cause
returns-in_ok-put-clause-cause g c = record { later = omega (arith, c.chain_page.ensures.cause.later, c.put.ensures.cause.later); caused = c.in_ok-put.ensures.cause.caused ∙ c.in_ok-next.ensures.cause.caused }

pub returns-in_err-put-clause-cause : goal.returns-in_err-put-clause-cause
returns-in_err-put-clause-cause g c =
    store_carried (g.S.PageStore.pages c.args.store.now) (OffPage c.args.file c.args.number c.args.bound) (g.S.PageStore.faults c.args.store.now) (g.S.PageStore.faults c.chain_page.new.store) (g.S.PageStore.faults c.put.new.self) c.in_err-put.field-0.0 c.in_ok-next.ensures.cause.caused c.in_err-put.ensures.cause c.from_residual-in_err-put.result c.from_residual-in_err-put.ensures.1

pub returns-in_err-next-clause-cause : goal.returns-in_err-next-clause-cause
returns-in_err-next-clause-cause g c =
    cause_carried (g.S.PageStore.pages c.args.store.now) (g.S.PageStore.pages c.args.store.now) (OffPage c.args.file c.args.number c.args.bound) (OffPage c.args.file c.args.number c.args.bound) (g.S.PageStore.faults c.args.store.now) (g.S.PageStore.faults c.args.store.now) (g.S.PageStore.faults c.chain_page.new.store) c.in_err-next.field-0.0 (omega arith) (λ a fault. fault)
    c.in_err-next.ensures.cause c.from_residual.result c.from_residual.ensures.1
