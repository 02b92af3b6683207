use Rattle.std.proofs.Common.{◌≤◌, sym, subst}
use Rattle.calculus.specs.declared.schema.RelFile.{RelFile}
use Rattle.calculus.specs.Rows.{set_of}
use Rattle.relation_rows.specs.Sets.{HasSet}
use Rattle.relation_rows.proofs.Holding.{set_built}
use Rattle.relation_rows.proofs.file_rows.build_rows.Goals as goal

pub returns-clause-came : goal.returns-clause-came
returns-clause-came g c = c.build.ensures.came

pub returns-clause-built : goal.returns-clause-built
returns-clause-built g c m t differ =
    subst (λ (made : RelFile). HasSet c.args.file.domains c.args.file.file made.used (set_of c.args.rows.now) (g.S.PageStore.pages c.build.new.store)) (sym c.info.ensures)
    (set_built c.args.file c.in_ok-heap.heap.file c.args.rows.now (g.S.PageStore.pages c.build.new.store) c.in_ok-heap.ensures.file differ (c.in_ok-heap.ensures.known m t))

pub returns-clause-some : goal.returns-clause-some
returns-clause-some g c = subst (λ (made : RelFile). 1 ≤ made.used) (sym c.info.ensures) c.in_ok-heap.heap.pages

pub returns-clause-others : goal.returns-clause-others
returns-clause-others g c = c.in_ok-heap.ensures.others

pub returns-clause-cause : goal.returns-clause-cause
returns-clause-cause g c = record { later = c.build.ensures.cause.later; caused = c.in_ok-heap.ensures.cause.caused }
