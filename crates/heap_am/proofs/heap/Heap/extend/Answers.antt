use Rattle.std.proofs.Common.{refl, ◌-◌, arith}
use Rattle.heap_am.specs.Heap.{HeapFault}
use Rattle.heap_am.proofs.Outcomes.{handed_on}
use Rattle.page_chain.specs.Chains.{numbers_from}
use Rattle.heap_am.proofs.Faults.{cause_by, off_last}
use Rattle.heap_am.proofs.Changed.{rows_extended, heap_chain_to}
use Rattle.heap_am.proofs.heap.Heap.extend.Goals as goal

pub returns-in_err-last-clause-cause : goal.returns-in_err-last-clause-cause
returns-in_err-last-clause-cause g c =
    cause_by (HeapFault c.args.self.now.file) c.from_residual.result c.in_err-last.field-0.0
    (λ m a off. off_last c.args.self.now.file m a c.args.self.now.pages off) c.in_err-last.ensures.cause (handed_on c.from_residual.result c.in_err-last.field-0.0 c.from_residual.ensures.1)

pub returns-clause-known : goal.returns-clause-known
returns-clause-known g c m rows new t e all is =
    let file = c.args.self.now.file in
    let some = c.args.self.now.pages in
    rows_extended file _ m rows c.in_ok-last.last new c.args.coming.now (g.S.PageStore.pages c.extend.new.store) refl refl some refl c.in_ok-last.ensures.behind.0 e all is
    (c.in_ok-last.ensures.grown m t file.used (numbers_from (file.used - 1) 0) (omega arith) (heap_chain_to file m rows (file.used - 1) (omega arith) e))

pub returns-clause-came : goal.returns-clause-came
returns-clause-came g c = c.extend.ensures.came

pub returns-in_err-last-clause-came : goal.returns-in_err-last-clause-came
returns-in_err-last-clause-came g c = c.extend.ensures.came

pub returns-clause-others : goal.returns-clause-others
returns-clause-others g c = c.in_ok-last.ensures.others

pub returns-clause-cause : goal.returns-clause-cause
returns-clause-cause g c = record { later = c.extend.ensures.cause.later; caused = c.in_ok-last.ensures.cause.caused }
