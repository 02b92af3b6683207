use Rattle.std.proofs.Common.{◌∙◌, arith}
use Rattle.page_chain.proofs.Hands.{hand_more}
use Rattle.page_chain.proofs.Handed.{store_on}
use Rattle.page_chain.proofs.filling.write_page.Goals as goal

pub returns-clause-hand : goal.returns-clause-hand
returns-clause-hand g c first rows m hand =
    hand_more c.args.file first c.args.at c.args.page.now c.turn_page.new.page c.fill.new.page c.fill.result c.args.left.now rows m (g.S.PageStore.pages c.args.store.now) (g.S.PageStore.pages c.turn_page.new.store) hand
    c.in_ok-turn_page.ensures.linked c.in_ok-turn_page.ensures.fresh c.fill.ensures.filled c.fill.ensures.page (c.fill.ensures.next ∙ c.in_ok-turn_page.ensures.next)

pub returns-clause-came : goal.returns-clause-came
returns-clause-came g c = c.turn_page.ensures.came

pub returns-in_err-turn_page-clause-came : goal.returns-in_err-turn_page-clause-came
returns-in_err-turn_page-clause-came g c = c.turn_page.ensures.came

pub returns-clause-some : goal.returns-clause-some
returns-clause-some g c = c.fill.ensures.some c.in_ok-turn_page.ensures.fresh

pub returns-clause-count : goal.returns-clause-count
returns-clause-count g c = c.fill.ensures.count

pub returns-clause-page : goal.returns-clause-page
returns-clause-page g c = c.fill.ensures.page

pub returns-clause-cause : goal.returns-clause-cause
returns-clause-cause g c = record { later = c.turn_page.ensures.cause.later; caused = c.in_ok-turn_page.ensures.cause.caused }

pub returns-in_err-turn_page-clause-cause : goal.returns-in_err-turn_page-clause-cause
returns-in_err-turn_page-clause-cause g c =
    store_on (g.S.PageStore.faults c.args.store.now) (g.S.PageStore.faults c.args.store.now) (g.S.PageStore.faults c.turn_page.new.store) c.in_err-turn_page.field-0.0 (omega arith) c.in_err-turn_page.ensures.cause c.from_residual.result c.from_residual.ensures.1
