use Rattle.std.proofs.Common.{◌≡◌, ◌+◌, ◌<◌, ◌∙◌, sym, refl, subst, get_or, length, take, arith}
use Rattle.std.proofs.lemmas.List.{take_more}
use Rattle.page_chain.specs.Lying.{lying, staying}
use Rattle.page_chain.specs.Pages.{pages_of}
use Rattle.heap_am.specs.Heap.{HeapFault}
use Rattle.heap_am.proofs.DoneNear.{count_nowhere, count_more}
use Rattle.heap_am.proofs.Faults.{cause_later}
use Rattle.heap_am.proofs.Outcomes.{handed_on}
use Rattle.heap_am.proofs.Rising.{rising_at}
use Rattle.heap_am.proofs.heap.Heap.count_near.Goals as goal

pub numbers-init : goal.numbers-init
numbers-init g c = record {
  few = omega arith;
  count = λ m is. count_nowhere (pages_of m c.args.self.now.file.file) c.args.going.now;
  same = refl;
  came = λ s h. h;
  faults = refl;
}

pub count_on-requires : goal.count_on-requires
count_on-requires g c = record { below = (rising_at 0 c.args.self.now.file.used c.numbers.number-index c.args.numbers.now c.requires.rising (omega (arith, c.numbers-test.true))).1 }

pub returns-in_err-count-clause-cause : goal.returns-in_err-count-clause-cause
returns-in_err-count-clause-cause g c =
    cause_later (g.S.PageStore.pages c.args.store.now) (g.S.PageStore.pages c.numbers.store) (HeapFault c.args.self.now.file) (g.S.PageStore.faults c.args.store.now) (g.S.PageStore.faults c.numbers.store) (g.S.PageStore.faults c.count_on.new.store) c.from_residual.result c.in_err-count.field-0.0
    c.numbers.invariant.same c.numbers.invariant.faults c.in_err-count.ensures.cause (handed_on c.from_residual.result c.in_err-count.field-0.0 c.from_residual.ensures.1)

pub overflow_add-count : goal.overflow_add-count
overflow_add-count g c =
    let at = rising_at 0 c.args.self.now.file.used c.numbers.number-index c.args.numbers.now c.requires.rising (omega (arith, c.numbers-test.true)) in
    omega (arith, at.0, c.numbers.invariant.few, c.in_ok-count.ensures.most, c.type_inv.numbers c.numbers.number-index)

pub numbers-preserved : goal.numbers-preserved
numbers-preserved g c =
    let lt : c.numbers.number-index < length c.args.numbers.now = omega (arith, c.numbers-test.true) in
    let number = get_or c.args.numbers.now c.numbers.number-index 0 in
    record {
      few = omega (arith, c.numbers.invariant.few, c.in_ok-count.ensures.most);
      count = λ m is.
          subst (λ ns. c.numbers.count + c.in_ok-count.field-0 + length (staying c.args.going.now (lying (pages_of m c.args.self.now.file.file) ns)) ≡ length (lying (pages_of m c.args.self.now.file.file) ns))
          (sym (take_more c.args.numbers.now c.numbers.number-index 0 lt))
          (count_more (pages_of m c.args.self.now.file.file) c.args.going.now (take c.numbers.number-index c.args.numbers.now) number c.numbers.count c.in_ok-count.field-0
          (c.numbers.invariant.count m is) (c.in_ok-count.ensures.count m (c.numbers.invariant.same ∙ is)));
      same = c.count_on.ensures.same ∙ c.numbers.invariant.same;
      came = λ s h. c.count_on.ensures.came s (c.numbers.invariant.came s h);
      faults = c.in_ok-count.ensures.cause.caused ∙ c.numbers.invariant.faults;
    }

pub returns-clause-came : goal.returns-clause-came
returns-clause-came g c = c.numbers.invariant.came

pub returns-clause-cause : goal.returns-clause-cause
returns-clause-cause g c = record { later = omega (arith, c.numbers.invariant.faults); caused = c.numbers.invariant.faults }

pub returns-in_err-count-clause-came : goal.returns-in_err-count-clause-came
returns-in_err-count-clause-came g c = λ s h. c.count_on.ensures.came s (c.numbers.invariant.came s h)

pub returns-clause-same : goal.returns-clause-same
returns-clause-same g c = c.numbers.invariant.same

pub returns-in_err-count-clause-same : goal.returns-in_err-count-clause-same
returns-in_err-count-clause-same g c = c.count_on.ensures.same ∙ c.numbers.invariant.same
