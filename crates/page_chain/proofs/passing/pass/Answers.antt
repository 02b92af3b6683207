use Rattle.std.proofs.Common.{◌+◌, ◌<◌, inl, inr, subst, take, arith, refl, ◌∙◌}
use Rattle.page_chain.specs.Chains.{NoChainTo}
use Rattle.page_chain.specs.Passing.{OffChain, Passed}
use Rattle.page_chain.proofs.Carried.{cause_carried}
use Rattle.page_chain.proofs.Reaching.{Reached, reached_start, reached_next, passed, off_reached, first_both, reads_chain, reads_first}
use Rattle.page_chain.proofs.passing.pass.Goals as goal
use Rattle.page_chain.proofs.passing.pass.Goals.{then-step-eq0-via-then-step-eq0, then-step-eq0-via-else-step-eq0+then-gone-wanted}

pub pages-init : goal.pages-init
pages-init g c = record {
  below = omega arith;
  few = omega arith;
  put = omega arith;
  reached = λ m is. reached_start c.args.chain.file c.args.chain.bound c.args.going.now m (g.S.PageStore.pages c.args.store.now) (g.S.PageStore.reads c.args.store.now) is;
  unmet = λ some. some;
  came = λ s h. h;
  faults = refl;
}

pub returns-in_err-step-clause-cause : goal.returns-in_err-step-clause-cause
returns-in_err-step-clause-cause g c =
    cause_carried (g.S.PageStore.pages c.args.store.now) (g.S.PageStore.pages c.pages.store)
    (OffChain c.args.chain.file c.pages.number c.args.chain.bound c.args.chain.last) (NoChainTo c.args.chain.file c.args.chain.bound c.args.chain.last)
    (g.S.PageStore.faults c.args.store.now) (g.S.PageStore.faults c.pages.store) (g.S.PageStore.faults c.renew_at.new.store) c.in_err-step.field-0.0 c.pages.invariant.faults
    (λ a fault m is. let so_far = c.pages.invariant.reached m is in
    off_reached c.args.chain.file c.args.chain.bound c.pages.number c.args.chain.last c.args.going.now (take c.pages.put c.args.coming.now) c.pages.gone m (g.S.PageStore.pages c.pages.store) (g.S.PageStore.reads c.args.store.now) (g.S.PageStore.reads c.pages.store) so_far a (fault so_far.image so_far.still_known))
    c.in_err-step.ensures.cause c.from_residual.result c.from_residual.ensures.1

pub returns-then-step-eq0-clause-passed : goal.returns-then-step-eq0-clause-passed
returns-then-step-eq0-clause-passed g c m is =
    let so_far = c.pages.invariant.reached m is in
    subst (λ rows. Passed c.args.chain.file c.args.chain.bound c.args.going.now rows (c.pages.gone + c.in_ok-step.step.gone) m (g.S.PageStore.pages c.renew_at.new.store))
    (first_both c.pages.put c.in_ok-step.step.put c.args.coming.now c.split_at.result.1.now c.split_at.ensures.back)
    (passed c.args.chain.file c.args.chain.bound c.pages.number c.args.going.now (take c.pages.put c.args.coming.now) (take c.in_ok-step.step.put c.split_at.result.1.now)
    c.pages.gone c.in_ok-step.step.gone c.in_ok-step.step.next m (g.S.PageStore.pages c.pages.store) (g.S.PageStore.pages c.renew_at.new.store) (g.S.PageStore.reads c.args.store.now) (g.S.PageStore.reads c.pages.store) (g.S.PageStore.reads c.renew_at.new.store) so_far
    (c.in_ok-step.ensures.renewed so_far.image so_far.still_known) c.renew_at.ensures.reads
    (elim c.then-step-eq0.branch [
      | then-step-eq0-via-then-step-eq0 w ↦ inl w.if-step-eq0.true
      | then-step-eq0-via-else-step-eq0+then-gone-wanted w ↦ inr (omega (arith, w.if-gone-wanted.true, c.len-wanted.ensures))
    ]))

pub pages-preserved : goal.pages-preserved
pages-preserved g c =
    let some : 0 < c.in_ok-step.step.next = omega arith in
    let up = c.in_ok-step.ensures.next some in
    record {
      below = up.1;
      few = omega (arith, c.pages.invariant.few, c.in_ok-step.ensures.most, up.0);
      put = omega (arith, c.pages.invariant.put, c.in_ok-step.ensures.put, c.split_at.ensures.back_len);
      reached = λ m is. let so_far = c.pages.invariant.reached m is in
          subst (λ rows. Reached c.args.chain.file c.args.chain.bound c.in_ok-step.step.next c.args.going.now rows (c.pages.gone + c.in_ok-step.step.gone) m (g.S.PageStore.pages c.renew_at.new.store) (g.S.PageStore.reads c.args.store.now) (g.S.PageStore.reads c.renew_at.new.store))
          (first_both c.pages.put c.in_ok-step.step.put c.args.coming.now c.split_at.result.1.now c.split_at.ensures.back)
          (reached_next c.args.chain.file c.args.chain.bound c.pages.number c.args.going.now (take c.pages.put c.args.coming.now) (take c.in_ok-step.step.put c.split_at.result.1.now)
          c.pages.gone c.in_ok-step.step.gone c.in_ok-step.step.next m (g.S.PageStore.pages c.pages.store) (g.S.PageStore.pages c.renew_at.new.store) (g.S.PageStore.reads c.args.store.now) (g.S.PageStore.reads c.pages.store) (g.S.PageStore.reads c.renew_at.new.store) so_far
          (c.in_ok-step.ensures.renewed so_far.image so_far.still_known) c.renew_at.ensures.reads some);
      unmet = λ some. omega (arith, c.if-gone-wanted.false, c.len-wanted.ensures);
      came = λ s h. c.renew_at.ensures.came s (c.pages.invariant.came s h);
      faults = c.in_ok-step.ensures.cause.caused ∙ c.pages.invariant.faults;
    }

pub returns-then-step-eq0-clause-put : goal.returns-then-step-eq0-clause-put
returns-then-step-eq0-clause-put g c = omega (arith, c.pages.invariant.put, c.in_ok-step.ensures.put, c.split_at.ensures.back_len)

pub returns-then-step-eq0-clause-came : goal.returns-then-step-eq0-clause-came
returns-then-step-eq0-clause-came g c = λ s h. c.renew_at.ensures.came s (c.pages.invariant.came s h)

pub returns-then-step-eq0-clause-cause : goal.returns-then-step-eq0-clause-cause
returns-then-step-eq0-clause-cause g c = record { later = omega (arith, c.pages.invariant.faults, c.renew_at.ensures.cause.later); caused = c.in_ok-step.ensures.cause.caused ∙ c.pages.invariant.faults }

pub returns-in_err-step-clause-came : goal.returns-in_err-step-clause-came
returns-in_err-step-clause-came g c = λ s h. c.renew_at.ensures.came s (c.pages.invariant.came s h)

pub returns-then-step-eq0-clause-reads : goal.returns-then-step-eq0-clause-reads
returns-then-step-eq0-clause-reads g c = λ m numbers is.
    reads_chain c.args.chain.file c.args.chain.bound c.pages.number c.args.going.now (take c.pages.put c.args.coming.now) c.pages.gone m (g.S.PageStore.pages c.pages.store)
    (g.S.PageStore.reads c.args.store.now) (g.S.PageStore.reads c.pages.store) (g.S.PageStore.reads c.renew_at.new.store) (c.pages.invariant.reached m is) c.renew_at.ensures.reads numbers

pub returns-then-step-eq0-clause-ends : goal.returns-then-step-eq0-clause-ends
returns-then-step-eq0-clause-ends g c = λ m first rest is some first_is chain lie.
    reads_first c.args.chain.file c.args.chain.bound c.pages.number c.args.going.now (take c.pages.put c.args.coming.now) c.pages.gone m (g.S.PageStore.pages c.pages.store)
    (g.S.PageStore.reads c.args.store.now) (g.S.PageStore.reads c.pages.store) (g.S.PageStore.reads c.renew_at.new.store) (c.pages.invariant.reached m is) c.renew_at.ensures.reads first rest first_is chain lie
    (c.pages.invariant.unmet some)

pub returns-in_err-step-clause-reads : goal.returns-in_err-step-clause-reads
returns-in_err-step-clause-reads g c = λ m numbers is.
    reads_chain c.args.chain.file c.args.chain.bound c.pages.number c.args.going.now (take c.pages.put c.args.coming.now) c.pages.gone m (g.S.PageStore.pages c.pages.store)
    (g.S.PageStore.reads c.args.store.now) (g.S.PageStore.reads c.pages.store) (g.S.PageStore.reads c.renew_at.new.store) (c.pages.invariant.reached m is) c.renew_at.ensures.reads numbers

pub returns-in_err-step-clause-ends : goal.returns-in_err-step-clause-ends
returns-in_err-step-clause-ends g c = λ m first rest is some first_is chain lie.
    reads_first c.args.chain.file c.args.chain.bound c.pages.number c.args.going.now (take c.pages.put c.args.coming.now) c.pages.gone m (g.S.PageStore.pages c.pages.store)
    (g.S.PageStore.reads c.args.store.now) (g.S.PageStore.reads c.pages.store) (g.S.PageStore.reads c.renew_at.new.store) (c.pages.invariant.reached m is) c.renew_at.ensures.reads first rest first_is chain lie
    (c.pages.invariant.unmet some)
