use Rattle.std.proofs.Common.{sym, ◌∙◌, Some}
use Rattle.heap_am.specs.Heap.{HeapFault}
use Rattle.heap_am.proofs.Counting.{goes_to}
use Rattle.heap_am.proofs.Faults.{cause_by, cause_damaged, off_page, bad_next}
use Rattle.heap_am.proofs.Outcomes.{handed_on}
use Rattle.heap_am.proofs.heap.Heap.page.Goals as goal

pub returns-in_err-next-clause-cause : goal.returns-in_err-next-clause-cause
returns-in_err-next-clause-cause g c =
    cause_by (HeapFault c.args.self.now.file) c.from_residual.result c.in_err-next.field-0.0
    (λ m a off. off_page c.args.self.now.file m a c.args.number c.requires.below off) c.in_err-next.ensures.cause (handed_on c.from_residual.result c.in_err-next.field-0.0 c.from_residual.ensures.1)

pub returns-then-next-behind-clause-cause : goal.returns-then-next-behind-clause-cause
returns-then-next-behind-clause-cause g c =
    cause_damaged (g.S.PageStore.pages c.args.store.now) c.args.self.now.file c.args.number (g.S.PageStore.faults c.args.store.now) (g.S.PageStore.faults c.chain_page.new.store) c.damaged.result c.damaged.ensures c.in_ok-next.ensures.cause.caused
    (λ m e. bad_next c.args.self.now.file m c.args.number c.in_ok-next.next c.chain_page.new.out c.requires.below (c.in_ok-next.ensures.there m e) c.in_ok-next.ensures.follows (λ same. c.if-next-behind.true (same ∙ sym c.behind.ensures)))

pub returns-clause-goes : goal.returns-clause-goes
returns-clause-goes g c = goes_to c.args.self.now.file.used c.args.number (Some c.chain_page.new.out) c.in_ok-next.next c.in_ok-next.ensures.follows (c.if-next-behind.false ∙ c.behind.ensures)

pub returns-clause-came : goal.returns-clause-came
returns-clause-came g c = c.chain_page.ensures.came

pub returns-clause-only_read : goal.returns-clause-only_read
returns-clause-only_read g c = c.chain_page.ensures.only_read

pub returns-clause-same : goal.returns-clause-same
returns-clause-same g c = c.chain_page.ensures.same

pub returns-clause-reads : goal.returns-clause-reads
returns-clause-reads g c = c.chain_page.ensures.reads

pub returns-in_err-next-clause-came : goal.returns-in_err-next-clause-came
returns-in_err-next-clause-came g c = c.chain_page.ensures.came

pub returns-in_err-next-clause-only_read : goal.returns-in_err-next-clause-only_read
returns-in_err-next-clause-only_read g c = c.chain_page.ensures.only_read

pub returns-in_err-next-clause-same : goal.returns-in_err-next-clause-same
returns-in_err-next-clause-same g c = c.chain_page.ensures.same

pub returns-in_err-next-clause-reads : goal.returns-in_err-next-clause-reads
returns-in_err-next-clause-reads g c = c.chain_page.ensures.reads

pub returns-clause-kept : goal.returns-clause-kept
returns-clause-kept g c = c.chain_page.ensures.kept

pub returns-in_err-next-clause-kept : goal.returns-in_err-next-clause-kept
returns-in_err-next-clause-kept g c = c.chain_page.ensures.kept

pub returns-clause-there : goal.returns-clause-there
returns-clause-there g c = c.in_ok-next.ensures.there

pub returns-clause-page : goal.returns-clause-page
returns-clause-page g c = c.in_ok-next.ensures.page

pub returns-clause-last : goal.returns-clause-last
returns-clause-last g c = c.in_ok-next.ensures.last

pub returns-clause-cause : goal.returns-clause-cause
returns-clause-cause g c = record { later = c.chain_page.ensures.cause.later; caused = c.in_ok-next.ensures.cause.caused }

pub returns-then-next-behind-clause-same : goal.returns-then-next-behind-clause-same
returns-then-next-behind-clause-same g c = c.chain_page.ensures.same

pub returns-then-next-behind-clause-reads : goal.returns-then-next-behind-clause-reads
returns-then-next-behind-clause-reads g c = c.chain_page.ensures.reads

pub returns-then-next-behind-clause-kept : goal.returns-then-next-behind-clause-kept
returns-then-next-behind-clause-kept g c = c.chain_page.ensures.kept

pub returns-then-next-behind-clause-came : goal.returns-then-next-behind-clause-came
returns-then-next-behind-clause-came g c = c.chain_page.ensures.came

pub returns-then-next-behind-clause-only_read : goal.returns-then-next-behind-clause-only_read
returns-then-next-behind-clause-only_read g c = c.chain_page.ensures.only_read
