use Rattle.std.proofs.Common.{◌∙◌, arith}
use Rattle.page_chain.proofs.Grown.{one_behind}
use Rattle.page_chain.proofs.Handed.{store_on}
use Rattle.page_chain.proofs.growing.put_behind.Goals as goal

pub returns-clause-laid : goal.returns-clause-laid
returns-clause-laid g c m known =
    one_behind c.args.file c.args.last c.args.page.now c.turn_page.new.page c.put_row.new.p c.put_row.result c.args.row.now m (g.S.PageStore.pages c.turn_page.new.store) (g.S.PageStore.pages c.put.new.self)
    c.requires.page c.requires.ends (c.in_ok-turn_page.ensures.linked m known) c.in_ok-turn_page.ensures.fresh c.requires.short.most c.put_row.ensures.line c.put_row.ensures.slots c.put_row.ensures.page
    (c.put_row.ensures.next ∙ c.in_ok-turn_page.ensures.next) c.in_ok-put.ensures.page

pub returns-clause-came : goal.returns-clause-came
returns-clause-came g c = λ s came. c.put.ensures.came s (c.turn_page.ensures.came s came)

pub returns-in_err-put-clause-came : goal.returns-in_err-put-clause-came
returns-in_err-put-clause-came g c = λ s came. c.put.ensures.came s (c.turn_page.ensures.came s came)

pub returns-in_err-turn_page-clause-came : goal.returns-in_err-turn_page-clause-came
returns-in_err-turn_page-clause-came g c = c.turn_page.ensures.came

pub returns-clause-behind : goal.returns-clause-behind
returns-clause-behind g c = (omega arith, omega arith)

pub returns-clause-cause : goal.returns-clause-cause
returns-clause-cause g c = record { later = omega (arith, c.turn_page.ensures.cause.later, c.put.ensures.cause.later); caused = c.in_ok-put.ensures.cause.caused ∙ c.in_ok-turn_page.ensures.cause.caused }

pub returns-in_err-put-clause-cause : goal.returns-in_err-put-clause-cause
returns-in_err-put-clause-cause g c =
    store_on (g.S.PageStore.faults c.args.store.now) (g.S.PageStore.faults c.turn_page.new.store) (g.S.PageStore.faults c.put.new.self) c.in_err-put.field-0.0 c.in_ok-turn_page.ensures.cause.caused c.in_err-put.ensures.cause c.from_residual-in_err-put.result c.from_residual-in_err-put.ensures.1

pub returns-in_err-turn_page-clause-cause : goal.returns-in_err-turn_page-clause-cause
returns-in_err-turn_page-clause-cause g c =
    store_on (g.S.PageStore.faults c.args.store.now) (g.S.PageStore.faults c.args.store.now) (g.S.PageStore.faults c.turn_page.new.store) c.in_err-turn_page.field-0.0 (omega arith) c.in_err-turn_page.ensures.cause c.from_residual.result c.from_residual.ensures.1
