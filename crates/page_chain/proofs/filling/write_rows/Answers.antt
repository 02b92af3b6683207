use Rattle.std.proofs.Common.{◌∙◌, subst, sym, arith}
use Rattle.am_traits.specs.Pages.{with_page}
use Rattle.page_chain.specs.Filled.{InHand}
use Rattle.page_chain.specs.Pages.{page_at}
use Rattle.page_chain.proofs.Hands.{hand_first, hand_put}
use Rattle.page_chain.proofs.Handed.{store_on}
use Rattle.page_chain.proofs.filling.write_rows.Goals as goal

pub returns-clause-laid : goal.returns-clause-laid
returns-clause-laid g c m known =
    let before = with_page (page_at c.args.file c.args.first) c.args.page.now m in
    hand_put c.args.file c.args.first c.in_ok-at.at c.write_pages.new.page c.args.rows.now before (g.S.PageStore.pages c.write_pages.new.store) (g.S.PageStore.pages c.put.new.self)
    (c.in_ok-at.ensures.hand c.args.first c.args.rows.now before
    (subst (λ l. InHand c.args.file c.args.first c.args.first c.fill.new.page l c.args.rows.now before (g.S.PageStore.pages c.args.store.now)) (sym c.split_at.ensures.back)
    (hand_first c.args.file c.args.first c.args.page.now c.fill.new.page c.fill.result c.args.rows.now m (g.S.PageStore.pages c.args.store.now) known c.fill.ensures.filled c.fill.ensures.page (c.fill.ensures.next ∙ c.requires.ends))))
    c.in_ok-put.ensures.page

pub returns-clause-came : goal.returns-clause-came
returns-clause-came g c = λ s came. c.put.ensures.came s (c.write_pages.ensures.came s came)

pub returns-in_err-put-clause-came : goal.returns-in_err-put-clause-came
returns-in_err-put-clause-came g c = λ s came. c.put.ensures.came s (c.write_pages.ensures.came s came)

pub returns-in_err-at-clause-came : goal.returns-in_err-at-clause-came
returns-in_err-at-clause-came g c = c.write_pages.ensures.came

pub returns-clause-behind : goal.returns-clause-behind
returns-clause-behind g c =
    let up = c.in_ok-at.ensures.behind in
    (up.0, omega (arith, up.1, c.split_at.ensures.back_len))

pub returns-clause-cause : goal.returns-clause-cause
returns-clause-cause g c = record { later = omega (arith, c.write_pages.ensures.cause.later, c.put.ensures.cause.later); caused = c.in_ok-put.ensures.cause.caused ∙ c.in_ok-at.ensures.cause.caused }

pub returns-in_err-put-clause-cause : goal.returns-in_err-put-clause-cause
returns-in_err-put-clause-cause g c =
    store_on (g.S.PageStore.faults c.args.store.now) (g.S.PageStore.faults c.write_pages.new.store) (g.S.PageStore.faults c.put.new.self) c.in_err-put.field-0.0 c.in_ok-at.ensures.cause.caused c.in_err-put.ensures.cause c.from_residual-in_err-put.result c.from_residual-in_err-put.ensures.1

pub returns-in_err-at-clause-cause : goal.returns-in_err-at-clause-cause
returns-in_err-at-clause-cause g c =
    store_on (g.S.PageStore.faults c.args.store.now) (g.S.PageStore.faults c.args.store.now) (g.S.PageStore.faults c.write_pages.new.store) c.in_err-at.field-0.0 (omega arith) c.in_err-at.ensures.cause c.from_residual.result c.from_residual.ensures.1
