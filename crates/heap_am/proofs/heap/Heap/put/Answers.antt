use Rattle.std.proofs.Common.{sym, refl, subst, ◌-◌, [], ◌∷◌, arith}
use Rattle.heap_am.specs.Heap.{HeapFault}
use Rattle.heap_am.proofs.Outcomes.{handed_on}
use Rattle.page_chain.specs.Chains.{numbers_from}
use Rattle.page_chain.specs.Grown.{IsGrown, IsOneMore}
use Rattle.page_chain.specs.Lying.{IsShort}
use Rattle.heap_am.proofs.Faults.{cause_by, off_last}
use Rattle.heap_am.proofs.Changed.{one_added, heap_chain_to, row_bytes_are}
use Rattle.heap_am.proofs.RowLaws.{row_is_short}
use Rattle.heap_am.proofs.heap.Heap.put.Goals as goal

pub put_one-requires-clause-short : goal.put_one-requires-clause-short
put_one-requires-clause-short g c =
    subst IsShort (sym (row_bytes_are c.items-2.result.now c.in_ok-bytes.bytes c.items.result.now c.args.self.now.file.domains c.args.row.now c.items-2.ensures c.items.ensures c.in_ok-bytes.ensures))
    (row_is_short c.args.row.now c.args.self.now.file.domains c.requires.fits c.args.self.now.some c.args.self.now.most)

pub returns-in_err-place-clause-cause : goal.returns-in_err-place-clause-cause
returns-in_err-place-clause-cause g c =
    cause_by (HeapFault c.args.self.now.file) c.from_residual-in_err-place.result c.in_err-place.field-0.0
    (λ m a off. off_last c.args.self.now.file m a c.args.self.now.pages off) c.in_err-place.ensures.cause (handed_on c.from_residual-in_err-place.result c.in_err-place.field-0.0 c.from_residual-in_err-place.ensures.1)

pub returns-clause-known : goal.returns-clause-known
returns-clause-known g c m rows t e =
    let file = c.args.self.now.file in
    let some = c.args.self.now.pages in
    let b = row_bytes_are c.items-2.result.now c.in_ok-bytes.bytes c.items.result.now c.args.self.now.file.domains c.args.row.now c.items-2.ensures c.items.ensures c.in_ok-bytes.ensures in
    let chain = heap_chain_to file m rows (file.used - 1) (omega arith) e in
    one_added file _ m rows (file.used - 1) c.in_ok-place.place c.args.row.now (g.S.PageStore.pages c.put_one.new.store) refl refl (omega arith) refl c.in_ok-place.ensures.behind.0 e c.requires.fits
    (subst (λ r. IsGrown file.file file.used (numbers_from (file.used - 1) 0) (file.used - 1) c.in_ok-place.place.page (r ∷ []) m (g.S.PageStore.pages c.put_one.new.store)) b
    (c.in_ok-place.ensures.grown m t file.used (numbers_from (file.used - 1) 0) (omega arith) chain))
    (subst (λ r. IsOneMore file.file (numbers_from (file.used - 1) 0) (file.used - 1) c.in_ok-place.place r m (g.S.PageStore.pages c.put_one.new.store)) b
    (c.in_ok-place.ensures.place m t file.used (numbers_from (file.used - 1) 0) (omega arith) chain))

pub returns-clause-came : goal.returns-clause-came
returns-clause-came g c = c.put_one.ensures.came

pub returns-in_err-place-clause-came : goal.returns-in_err-place-clause-came
returns-in_err-place-clause-came g c = c.put_one.ensures.came

pub returns-clause-others : goal.returns-clause-others
returns-clause-others g c = c.in_ok-place.ensures.others

pub returns-clause-cause : goal.returns-clause-cause
returns-clause-cause g c = record { later = c.put_one.ensures.cause.later; caused = c.in_ok-place.ensures.cause.caused }
