use Rattle.std.proofs.Common.{refl, ◌<◌, ◌∙◌, ◌∷◌, subst, arith}
use Rattle.am_traits.specs.Causes.{IsAtFault}
use Rattle.page_chain.specs.Chains.{OffPage, NoChain}
use Rattle.page_chain.specs.Passing.{PageTook}
use Rattle.page_chain.proofs.Carried.{cause_carried}
use Rattle.page_chain.proofs.Took.{searched_start, searched_next, took_none, took_found, others_took, off_searched}
use Rattle.page_chain.proofs.replacing.take_one.Goals as goal

pub pages-init : goal.pages-init
pages-init g c = record {
  below = omega arith;
  same = refl;
  searched = λ m is. searched_start c.args.file c.args.bound c.args.row.now m;
  came = λ s h. h;
  faults = refl;
}

pub returns-in_err-taken-clause-cause : goal.returns-in_err-taken-clause-cause
returns-in_err-taken-clause-cause g c =
    cause_carried (g.S.PageStore.pages c.args.store.now) (g.S.PageStore.pages c.pages.store)
    (OffPage c.args.file c.pages.number c.args.bound) (NoChain c.args.file c.args.bound)
    (g.S.PageStore.faults c.args.store.now) (g.S.PageStore.faults c.pages.store) (g.S.PageStore.faults c.take_at.new.store) c.in_err-taken.field-0.0 c.pages.invariant.faults
    (λ a fault. off_searched c.args.file c.args.bound c.pages.number c.args.row.now (g.S.PageStore.pages c.args.store.now) c.pages.invariant.searched a
    (subst (λ known. IsAtFault known (OffPage c.args.file c.pages.number c.args.bound) a) c.pages.invariant.same fault))
    c.in_err-taken.ensures.cause c.from_residual.result c.from_residual.ensures.1

pub returns-in-Some-clause-took : goal.returns-in-Some-clause-took
returns-in-Some-clause-took g c m is numbers chain =
    took_found c.args.file c.args.bound c.pages.number c.args.row.now c.in-Some.line c.in_ok-taken.taken.next m (g.S.PageStore.pages c.take_at.new.store) (c.pages.invariant.searched m is)
    (subst (λ line. PageTook c.args.file c.args.bound c.pages.number c.args.row.now line c.in_ok-taken.taken.next m (g.S.PageStore.pages c.take_at.new.store)) c.in-Some.is
    (c.in_ok-taken.ensures.took m (c.pages.invariant.same ∙ is)))
    (0 ∷ numbers) refl chain

pub returns-in-Some-clause-others : goal.returns-in-Some-clause-others
returns-in-Some-clause-others g c =
    others_took c.args.file c.args.bound c.pages.number c.args.row.now c.in_ok-taken.taken.line c.in_ok-taken.taken.next (g.S.PageStore.pages c.args.store.now) (g.S.PageStore.pages c.take_at.new.store)
    (λ m is. c.in_ok-taken.ensures.took m (c.pages.invariant.same ∙ is))

pub returns-then-taken-eq0-clause-took : goal.returns-then-taken-eq0-clause-took
returns-then-taken-eq0-clause-took g c m is numbers chain =
    took_none c.args.file c.args.bound c.pages.number c.args.row.now c.in_ok-taken.taken.next m (g.S.PageStore.pages c.take_at.new.store) (g.S.PageStore.pages c.take_at.new.store) (c.pages.invariant.searched m is)
    (subst (λ line. PageTook c.args.file c.args.bound c.pages.number c.args.row.now line c.in_ok-taken.taken.next m (g.S.PageStore.pages c.take_at.new.store)) c.in_default.is
    (c.in_ok-taken.ensures.took m (c.pages.invariant.same ∙ is)))
    c.if-taken-eq0.true (c.in_ok-taken.ensures.same c.in_default.is ∙ c.pages.invariant.same ∙ is) (0 ∷ numbers) refl chain

pub pages-preserved : goal.pages-preserved
pages-preserved g c =
    let some : 0 < c.in_ok-taken.taken.next = omega arith in
    record {
      below = (c.in_ok-taken.ensures.next some).1;
      same = c.in_ok-taken.ensures.same c.in_default.is ∙ c.pages.invariant.same;
      searched = λ m is. searched_next c.args.file c.args.bound c.pages.number c.args.row.now c.in_ok-taken.taken.next m (g.S.PageStore.pages c.take_at.new.store) (c.pages.invariant.searched m is)
          (subst (λ line. PageTook c.args.file c.args.bound c.pages.number c.args.row.now line c.in_ok-taken.taken.next m (g.S.PageStore.pages c.take_at.new.store)) c.in_default.is
          (c.in_ok-taken.ensures.took m (c.pages.invariant.same ∙ is))) some;
      came = λ s h. c.take_at.ensures.came s (c.pages.invariant.came s h);
      faults = c.in_ok-taken.ensures.cause.caused ∙ c.pages.invariant.faults;
    }

pub returns-in-Some-clause-came : goal.returns-in-Some-clause-came
returns-in-Some-clause-came g c = λ s h. c.take_at.ensures.came s (c.pages.invariant.came s h)

pub returns-in-Some-clause-cause : goal.returns-in-Some-clause-cause
returns-in-Some-clause-cause g c = record { later = omega (arith, c.pages.invariant.faults, c.take_at.ensures.cause.later); caused = c.in_ok-taken.ensures.cause.caused ∙ c.pages.invariant.faults }

pub returns-then-taken-eq0-clause-came : goal.returns-then-taken-eq0-clause-came
returns-then-taken-eq0-clause-came g c = λ s h. c.take_at.ensures.came s (c.pages.invariant.came s h)

pub returns-then-taken-eq0-clause-cause : goal.returns-then-taken-eq0-clause-cause
returns-then-taken-eq0-clause-cause g c = record { later = omega (arith, c.pages.invariant.faults, c.take_at.ensures.cause.later); caused = c.in_ok-taken.ensures.cause.caused ∙ c.pages.invariant.faults }

pub returns-in_err-taken-clause-came : goal.returns-in_err-taken-clause-came
returns-in_err-taken-clause-came g c = λ s h. c.take_at.ensures.came s (c.pages.invariant.came s h)

pub returns-then-taken-eq0-clause-others : goal.returns-then-taken-eq0-clause-others
returns-then-taken-eq0-clause-others g c =
    others_took c.args.file c.args.bound c.pages.number c.args.row.now c.in_ok-taken.taken.line c.in_ok-taken.taken.next (g.S.PageStore.pages c.args.store.now) (g.S.PageStore.pages c.take_at.new.store)
    (λ m is. c.in_ok-taken.ensures.took m (c.pages.invariant.same ∙ is))
