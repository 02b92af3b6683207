use Rattle.std.proofs.Common.{subst, suc, ◌-◌, arith}
use Rattle.heap_am.specs.Heap.{HeapFault}
use Rattle.heap_am.proofs.Outcomes.{if_ok}
use Rattle.page_chain.specs.Chains.{numbers_from}
use Rattle.page_chain.specs.Renewed.{TookOne}
use Rattle.heap_am.proofs.Faults.{cause_any, no_chain}
use Rattle.heap_am.proofs.Changed.{one_removed, heap_chain, row_bytes_are}
use Rattle.heap_am.proofs.heap.Heap.take_row.Goals as goal

pub returns-clause-known : goal.returns-clause-known
returns-clause-known g c m rows t e =
    let file = c.args.self.now.file in
    let some = c.args.self.now.pages in
    let b = row_bytes_are c.items-2.result.now c.in_ok-bytes.bytes c.items.result.now c.args.self.now.file.domains c.args.row.now c.items-2.ensures c.items.ensures c.in_ok-bytes.ensures in
    if_ok c.take_one.result (c.take_one.ensures.took m t) (λ place took.
    one_removed file m rows (file.used - 1) place c.args.row.now (g.S.PageStore.pages c.take_one.new.store) (omega arith) e c.requires.fits
    (subst (λ r. TookOne file.file file.used (numbers_from (suc (file.used - 1)) 0) r place m (g.S.PageStore.pages c.take_one.new.store)) b
    (took (numbers_from (file.used - 1) 1) (heap_chain file m rows (file.used - 1) (omega arith) e))))

pub returns-clause-cause : goal.returns-clause-cause
returns-clause-cause g c = cause_any (HeapFault c.args.self.now.file) c.take_one.result (λ m a off. no_chain c.args.self.now.file m a off) c.take_one.ensures.cause

pub returns-clause-came : goal.returns-clause-came
returns-clause-came g c = c.take_one.ensures.came
