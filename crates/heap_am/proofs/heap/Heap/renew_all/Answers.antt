use Rattle.std.proofs.Common.{◌+◌, ◌<◌, sym, subst, ◌∷◌, [], ◌++◌, get_or, length, take, arith, refl, ◌∙◌}
use Rattle.std.proofs.lemmas.List.{take_more, take_all}
use Rattle.page_chain.specs.Chains.{OffPage}
use Rattle.page_chain.proofs.Carried.{cause_carried}
use Rattle.page_chain.proofs.Reaching.{first_both}
use Rattle.heap_am.specs.Heap.{HeapFault}
use Rattle.heap_am.specs.Near.{IsDoneOn}
use Rattle.heap_am.proofs.DoneNear.{done_nowhere, done_more, off_next}
use Rattle.heap_am.proofs.Rising.{rising_at, rising_new}
use Rattle.heap_am.proofs.heap.Heap.renew_all.Goals as goal

pub numbers-init : goal.numbers-init
numbers-init g c = record {
  put = omega arith;
  done = λ m is. done_nowhere c.args.self.now.file.file c.args.self.now.file.used c.args.going.now m (g.S.PageStore.pages c.args.store.now) is;
  came = λ s h. h;
  faults = refl;
}

pub returns-in_err-put-clause-cause : goal.returns-in_err-put-clause-cause
returns-in_err-put-clause-cause g c =
    let number = get_or c.args.numbers.now c.numbers.number-index 0 in
    let at = rising_at 0 c.args.self.now.file.used c.numbers.number-index c.args.numbers.now c.requires.rising (omega (arith, c.numbers-test.true)) in
    cause_carried (g.S.PageStore.pages c.args.store.now) (g.S.PageStore.pages c.numbers.store) (OffPage c.args.self.now.file.file number c.args.self.now.file.used) (HeapFault c.args.self.now.file)
    (g.S.PageStore.faults c.args.store.now) (g.S.PageStore.faults c.numbers.store) (g.S.PageStore.faults c.renew_on.new.store) c.in_err-put.field-0.0 c.numbers.invariant.faults
    (off_next c.args.self.now.file number (take c.numbers.number-index c.args.numbers.now) c.args.going.now (take c.numbers.put c.args.coming.now) (g.S.PageStore.pages c.args.store.now) (g.S.PageStore.pages c.numbers.store) at.1 c.numbers.invariant.done)
    c.in_err-put.ensures.cause c.from_residual.result c.from_residual.ensures.1

pub numbers-preserved : goal.numbers-preserved
numbers-preserved g c =
    let lt : c.numbers.number-index < length c.args.numbers.now = omega (arith, c.numbers-test.true) in
    let number = get_or c.args.numbers.now c.numbers.number-index 0 in
    let file = c.args.self.now.file in
    record {
      put = omega (arith, c.numbers.invariant.put, c.in_ok-put.ensures.put, c.split_at.ensures.back_len);
      done = λ m is. let so_far = c.numbers.invariant.done m is in
          subst (λ ns. IsDoneOn file.file file.used ns c.args.going.now (take (c.numbers.put + c.in_ok-put.field-0) c.args.coming.now) m (g.S.PageStore.pages c.renew_on.new.store))
          (sym (take_more c.args.numbers.now c.numbers.number-index 0 lt))
          (subst (λ rows. IsDoneOn file.file file.used (take c.numbers.number-index c.args.numbers.now ++ number ∷ []) c.args.going.now rows m (g.S.PageStore.pages c.renew_on.new.store))
          (first_both c.numbers.put c.in_ok-put.field-0 c.args.coming.now c.split_at.result.1.now c.split_at.ensures.back)
          (done_more file.file file.used (take c.numbers.number-index c.args.numbers.now) number c.args.going.now (take c.numbers.put c.args.coming.now) (take c.in_ok-put.field-0 c.split_at.result.1.now)
          m (g.S.PageStore.pages c.numbers.store) (g.S.PageStore.pages c.renew_on.new.store) so_far (c.in_ok-put.ensures.done so_far.image so_far.still_known)
          (rising_new 0 file.used c.numbers.number-index c.args.numbers.now c.requires.rising lt)));
      came = λ s h. c.renew_on.ensures.came s (c.numbers.invariant.came s h);
      faults = c.in_ok-put.ensures.cause.caused ∙ c.numbers.invariant.faults;
    }

pub returns-clause-done : goal.returns-clause-done
returns-clause-done g c m is =
    subst (λ ns. IsDoneOn c.args.self.now.file.file c.args.self.now.file.used ns c.args.going.now (take c.numbers.put c.args.coming.now) m (g.S.PageStore.pages c.numbers.store))
    (take_all c.numbers.number-index c.args.numbers.now (omega (arith, c.numbers-test.false))) (c.numbers.invariant.done m is)

pub returns-clause-came : goal.returns-clause-came
returns-clause-came g c = c.numbers.invariant.came

pub returns-clause-cause : goal.returns-clause-cause
returns-clause-cause g c = record { later = omega (arith, c.numbers.invariant.faults); caused = c.numbers.invariant.faults }

pub returns-in_err-put-clause-came : goal.returns-in_err-put-clause-came
returns-in_err-put-clause-came g c = λ s h. c.renew_on.ensures.came s (c.numbers.invariant.came s h)
