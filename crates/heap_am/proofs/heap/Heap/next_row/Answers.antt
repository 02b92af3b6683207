use Rattle.std.proofs.Common.{◌∙◌, refl, subst, Ok, arith}
use Rattle.std.proofs.Math.Nat.{le_trans}
use Rattle.am_traits.specs.Placed.{GivesBefore}
use Rattle.heap_am.specs.Heap.{HeapFault}
use Rattle.heap_am.specs.Met.{MetBefore}
use Rattle.heap_am.proofs.Faults.{cause_later}
use Rattle.heap_am.proofs.Meeting.{heap_over}
use Rattle.heap_am.proofs.Outcomes.{handed_on}
use Rattle.heap_am.proofs.heap.Heap.next_row.Goals as goal

pub returns-in_err-row-clause-cause : goal.returns-in_err-row-clause-cause
returns-in_err-row-clause-cause g c =
    cause_later (g.S.PageStore.pages c.args.store.now) (g.S.PageStore.pages c.pages.store) (HeapFault c.args.self.now.file) (g.S.PageStore.faults c.args.store.now) (g.S.PageStore.faults c.pages.store) (g.S.PageStore.faults c.next_read.new.store) c.from_residual.result c.in_err-row.field-0.0
    c.pages.invariant.same c.pages.invariant.faults c.in_err-row.ensures.cause (handed_on c.from_residual.result c.in_err-row.field-0.0 c.from_residual.ensures.1)

pub returns-clause-known : goal.returns-clause-known
returns-clause-known g c m rows t e =
    c.pages.invariant.known m rows t e ∙ heap_over c.args.self.now.file m rows c.args.probe.now c.pages.at c.args.self.now.pages e c.pages-test.false

pub returns-clause-over : goal.returns-clause-over
returns-clause-over g c m rows t e = heap_over c.args.self.now.file m rows c.args.probe.now c.pages.at c.args.self.now.pages e c.pages-test.false

pub pages-preserved : goal.pages-preserved
pages-preserved g c = record {
  known = λ m rows t e. c.pages.invariant.known m rows t e ∙ subst (MetBefore rows c.args.probe.now c.pages.at c.next_read.new.at) c.in_default.is (c.in_ok-row.ensures.known m rows (c.pages.invariant.same ∙ t) e);
  same = c.next_read.ensures.same ∙ c.pages.invariant.same;
  came = λ s came. c.next_read.ensures.came s (c.pages.invariant.came s came);
  only_read = λ s read. c.next_read.ensures.only_read s (c.pages.invariant.only_read s read);
  reads = le_trans c.in_ok-row.ensures.reads c.pages.invariant.reads;
  faults = c.in_ok-row.ensures.cause.caused ∙ c.pages.invariant.faults;
}

pub pages-init : goal.pages-init
pages-init g c = record {
  known = λ m rows t e. refl;
  same = refl;
  came = λ s came. came;
  only_read = λ s read. read;
  reads = omega arith;
  faults = refl;
}

pub returns-clause-same : goal.returns-clause-same
returns-clause-same g c = c.pages.invariant.same

pub returns-clause-came : goal.returns-clause-came
returns-clause-came g c = c.pages.invariant.came

pub returns-clause-only_read : goal.returns-clause-only_read
returns-clause-only_read g c = c.pages.invariant.only_read

pub returns-clause-reads : goal.returns-clause-reads
returns-clause-reads g c = c.pages.invariant.reads

pub returns-clause-cause : goal.returns-clause-cause
returns-clause-cause g c = record { later = omega (arith, c.pages.invariant.faults); caused = c.pages.invariant.faults }

pub returns-in_err-row-clause-same : goal.returns-in_err-row-clause-same
returns-in_err-row-clause-same g c = c.next_read.ensures.same ∙ c.pages.invariant.same

pub returns-in_err-row-clause-came : goal.returns-in_err-row-clause-came
returns-in_err-row-clause-came g c = λ s came. c.next_read.ensures.came s (c.pages.invariant.came s came)

pub returns-in_err-row-clause-only_read : goal.returns-in_err-row-clause-only_read
returns-in_err-row-clause-only_read g c = λ s read. c.next_read.ensures.only_read s (c.pages.invariant.only_read s read)

pub returns-in-Some-clause-same : goal.returns-in-Some-clause-same
returns-in-Some-clause-same g c = c.next_read.ensures.same ∙ c.pages.invariant.same

pub returns-in-Some-clause-came : goal.returns-in-Some-clause-came
returns-in-Some-clause-came g c = λ s came. c.next_read.ensures.came s (c.pages.invariant.came s came)

pub returns-in-Some-clause-only_read : goal.returns-in-Some-clause-only_read
returns-in-Some-clause-only_read g c = λ s read. c.next_read.ensures.only_read s (c.pages.invariant.only_read s read)

pub returns-in-Some-clause-reads : goal.returns-in-Some-clause-reads
returns-in-Some-clause-reads g c = le_trans c.in_ok-row.ensures.reads c.pages.invariant.reads

pub returns-in-Some-clause-cause : goal.returns-in-Some-clause-cause
returns-in-Some-clause-cause g c = let calm = c.in_ok-row.ensures.cause.caused ∙ c.pages.invariant.faults in record { later = omega (arith, calm); caused = calm }

pub returns-in-Some-clause-known : goal.returns-in-Some-clause-known
returns-in-Some-clause-known g c m rows t e =
    c.pages.invariant.known m rows t e ∙ subst (MetBefore rows c.args.probe.now c.pages.at c.next_read.new.at) c.in-Some.is (c.in_ok-row.ensures.known m rows (c.pages.invariant.same ∙ t) e)

pub returns-in-Some-clause-place : goal.returns-in-Some-clause-place
returns-in-Some-clause-place g c m rows t e =
    subst (λ row. GivesBefore rows c.next_read.new.at (Ok row)) c.in-Some.is (c.in_ok-row.ensures.place m rows (c.pages.invariant.same ∙ t) e)
