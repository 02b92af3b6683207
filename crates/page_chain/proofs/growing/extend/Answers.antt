use Rattle.std.proofs.Common.{◌∙◌, arith, ◌+◌}
use Rattle.page_chain.proofs.Grown.{has_grown, laid_there, others_kept}
use Rattle.page_chain.specs.Chains.{OffPage}
use Rattle.page_chain.proofs.Carried.{cause_carried}
use Rattle.page_chain.proofs.Handed.{store_carried}
use Rattle.page_chain.proofs.growing.extend.Goals as goal

pub returns-clause-grown : goal.returns-clause-grown
returns-clause-grown g c m known bound earlier lt is =
    has_grown c.args.file bound earlier c.args.last c.in_ok-now.now c.args.rows.now m (g.S.PageStore.pages c.write_rows.new.store)
    (laid_there c.args.file c.args.last c.in_ok-now.now c.args.rows.now c.chain_page.new.out m (g.S.PageStore.pages c.write_rows.new.store) (c.in_ok-chain_page.ensures.there m known)
    (c.in_ok-now.ensures.laid m (c.in_ok-chain_page.ensures.same ∙ known))) is

pub returns-clause-others : goal.returns-clause-others
returns-clause-others g c =
    others_kept c.args.file c.args.last c.in_ok-now.now c.args.rows.now c.chain_page.new.out (g.S.PageStore.pages c.args.store.now) (g.S.PageStore.pages c.write_rows.new.store)
    (λ m known. c.in_ok-now.ensures.laid m (c.in_ok-chain_page.ensures.same ∙ known))

pub returns-clause-came : goal.returns-clause-came
returns-clause-came g c = λ s came. c.write_rows.ensures.came s (c.chain_page.ensures.came s came)

pub returns-in_err-now-clause-came : goal.returns-in_err-now-clause-came
returns-in_err-now-clause-came g c = λ s came. c.write_rows.ensures.came s (c.chain_page.ensures.came s came)

pub returns-in_err-chain_page-clause-came : goal.returns-in_err-chain_page-clause-came
returns-in_err-chain_page-clause-came g c = c.chain_page.ensures.came

pub returns-clause-behind : goal.returns-clause-behind
returns-clause-behind g c = c.in_ok-now.ensures.behind

pub returns-clause-cause : goal.returns-clause-cause
returns-clause-cause g c = record { later = omega (arith, c.chain_page.ensures.cause.later, c.write_rows.ensures.cause.later); caused = c.in_ok-now.ensures.cause.caused ∙ c.in_ok-chain_page.ensures.cause.caused }

pub returns-in_err-now-clause-cause : goal.returns-in_err-now-clause-cause
returns-in_err-now-clause-cause g c =
    store_carried (g.S.PageStore.pages c.args.store.now) (OffPage c.args.file c.args.last (c.args.last + 1)) (g.S.PageStore.faults c.args.store.now) (g.S.PageStore.faults c.chain_page.new.store) (g.S.PageStore.faults c.write_rows.new.store) c.in_err-now.field-0.0 c.in_ok-chain_page.ensures.cause.caused c.in_err-now.ensures.cause c.from_residual-in_err-now.result c.from_residual-in_err-now.ensures.1

pub returns-in_err-chain_page-clause-cause : goal.returns-in_err-chain_page-clause-cause
returns-in_err-chain_page-clause-cause g c =
    cause_carried (g.S.PageStore.pages c.args.store.now) (g.S.PageStore.pages c.args.store.now) (OffPage c.args.file c.args.last (c.args.last + 1)) (OffPage c.args.file c.args.last (c.args.last + 1)) (g.S.PageStore.faults c.args.store.now) (g.S.PageStore.faults c.args.store.now) (g.S.PageStore.faults c.chain_page.new.store) c.in_err-chain_page.field-0.0 (omega arith) (λ a fault. fault)
    c.in_err-chain_page.ensures.cause c.from_residual.result c.from_residual.ensures.1
