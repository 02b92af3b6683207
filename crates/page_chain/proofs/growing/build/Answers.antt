use Rattle.page_chain.specs.Grown.{IsNever}
use Rattle.page_chain.proofs.Grown.{is_built, others_kept}
use Rattle.std.proofs.Common.{arith}
use Rattle.page_chain.proofs.Handed.{store_carried}
use Rattle.page_chain.proofs.growing.build.Goals as goal

pub returns-clause-built : goal.returns-clause-built
returns-clause-built g c m known =
    is_built c.args.file c.in_ok-last.last c.args.rows.now c.fresh_page.new.out m (g.S.PageStore.pages c.write_rows.new.store) c.fresh_page.ensures.slots (c.in_ok-last.ensures.laid m known)

pub returns-clause-others : goal.returns-clause-others
returns-clause-others g c =
    others_kept c.args.file 0 c.in_ok-last.last c.args.rows.now c.fresh_page.new.out (g.S.PageStore.pages c.args.store.now) (g.S.PageStore.pages c.write_rows.new.store) c.in_ok-last.ensures.laid

pub returns-clause-came : goal.returns-clause-came
returns-clause-came g c = c.write_rows.ensures.came

pub returns-in_err-last-clause-came : goal.returns-in_err-last-clause-came
returns-in_err-last-clause-came g c = c.write_rows.ensures.came

pub returns-clause-cause : goal.returns-clause-cause
returns-clause-cause g c = record { later = c.write_rows.ensures.cause.later; caused = c.in_ok-last.ensures.cause.caused }

pub returns-in_err-last-clause-cause : goal.returns-in_err-last-clause-cause
returns-in_err-last-clause-cause g c =
    store_carried (g.S.PageStore.pages c.args.store.now) IsNever (g.S.PageStore.faults c.args.store.now) (g.S.PageStore.faults c.args.store.now) (g.S.PageStore.faults c.write_rows.new.store) c.in_err-last.field-0.0 (omega arith) c.in_err-last.ensures.cause c.from_residual.result c.from_residual.ensures.1
