use Rattle.heap_am.proofs.Changed.{rows_built}
use Rattle.page_chain.specs.Grown.{IsNever}
use Rattle.heap_am.proofs.Rooms.{cause_same}
use Rattle.heap_am.proofs.heap.Heap.build.Goals as goal

pub returns-clause-known : goal.returns-clause-known
returns-clause-known g c m t = rows_built _ c.args.rows.now (g.S.PageStore.pages c.pages_built.new.store) c.in_ok-file.ensures.some c.requires.fit (c.in_ok-file.ensures.built m t)

pub returns-clause-came : goal.returns-clause-came
returns-clause-came g c = c.pages_built.ensures.came

pub returns-clause-others : goal.returns-clause-others
returns-clause-others g c = c.in_ok-file.ensures.others

pub returns-clause-cause : goal.returns-clause-cause
returns-clause-cause g c = record { later = c.pages_built.ensures.cause.later; caused = c.in_ok-file.ensures.cause.caused }

pub returns-in_err-file-clause-came : goal.returns-in_err-file-clause-came
returns-in_err-file-clause-came g c = c.pages_built.ensures.came

pub returns-in_err-file-clause-cause : goal.returns-in_err-file-clause-cause
returns-in_err-file-clause-cause g c =
    cause_same (g.S.PageStore.pages c.args.store.now) IsNever (g.S.PageStore.faults c.args.store.now) (g.S.PageStore.faults c.pages_built.new.store)
    c.from_residual.result c.in_err-file.field-0.0 c.in_err-file.ensures.cause c.from_residual.ensures.1
