use Rattle.std.proofs.Common.{◌≡◌, ◌<◌, ℕ, List, refl, sym, subst, ◌∙◌, Some, arith}
use Rattle.std.specs.Prelude.{Err}
use Rattle.am_traits.specs.Causes.{HasFileCause}
use Rattle.page_chain.specs.Chains.{NoChain, OffPage}
use Rattle.page_chain.specs.Found.{Found}
use Rattle.page_chain.specs.Pages.{pages_of, next_of}
use Rattle.page_chain.proofs.Causes.{fault_later}
use Rattle.page_chain.proofs.Linking.{may_below}
use Rattle.page_chain.proofs.Reading.{count_starts, count_more, count_ends}
use Rattle.page_chain.proofs.Walking.{IsWalked, walk_starts, walk_more, walk_ends, no_chain}
use Rattle.page_chain.proofs.chains.walk.Goals as goal

pub pages-init : goal.pages-init
pages-init g c = record {
  below = omega arith;
  walked = λ m known. walk_starts c.args.bound (pages_of m c.args.file) c.args.rows.now.items c.requires.none;
  counted = λ m numbers known is. count_starts c.args.bound (pages_of m c.args.file) numbers (g.S.PageStore.reads c.args.store.now) is;
  same = refl;
  came = λ s came. came;
  only_read = λ s only. only;
  faults = refl;
}

pub returns-in-Ok-eq0-clause-found : goal.returns-in-Ok-eq0-clause-found
returns-in-Ok-eq0-clause-found g c m known =
    let still = c.pages.invariant.same ∙ known in
    let follows = c.in-Ok-eq0.ensures.follows m still in
    let ends : next_of c.args.bound c.pages.at (pages_of m c.args.file c.pages.at) ≡ Some 0 = cc in
    subst (λ l. Found c.args.bound (pages_of m c.args.file) l c.pages.at) (sym {A = List (List ℕ)} (c.in-Ok-eq0.ensures.rows m still))
    (walk_ends c.args.bound (pages_of m c.args.file) c.pages.at c.pages.rows.items c.pages.invariant.below (c.pages.invariant.walked m known) ends)

pub returns-in-Ok-eq0-clause-reads : goal.returns-in-Ok-eq0-clause-reads
returns-in-Ok-eq0-clause-reads g c m numbers known is =
    count_ends c.args.bound (pages_of m c.args.file) numbers c.pages.at (g.S.PageStore.reads c.args.store.now) (g.S.PageStore.reads c.pages.store) (g.S.PageStore.reads c.copy_page.new.store)
    (c.pages.invariant.counted m numbers known is) c.in-Ok-eq0.ensures.reads

pub pages-preserved : goal.pages-preserved
pages-preserved g c =
    let some : 0 < c.in-Ok.next = omega arith in
    record {
      below = (may_below c.args.bound c.pages.at c.in-Ok.next some c.in-Ok.ensures.may).1;
      walked = λ m known. subst (IsWalked c.args.bound (pages_of m c.args.file) c.in-Ok.next) (sym {A = List (List ℕ)} (c.in-Ok.ensures.rows m (c.pages.invariant.same ∙ known)))
          (walk_more c.args.bound (pages_of m c.args.file) c.pages.at c.pages.rows.items c.pages.invariant.below c.in-Ok.next (c.pages.invariant.walked m known) some (c.in-Ok.ensures.follows m (c.pages.invariant.same ∙ known)));
      counted = λ m numbers known is.
          count_more c.args.bound (pages_of m c.args.file) numbers c.pages.at (g.S.PageStore.reads c.args.store.now) (g.S.PageStore.reads c.pages.store) (g.S.PageStore.reads c.copy_page.new.store)
          (c.pages.invariant.counted m numbers known is) c.in-Ok.ensures.reads c.in-Ok.next some (c.in-Ok.ensures.follows m (c.pages.invariant.same ∙ known));
      same = c.in-Ok.ensures.same ∙ c.pages.invariant.same;
      came = λ s came. c.in-Ok.ensures.came s (c.pages.invariant.came s came);
      only_read = λ s only. c.in-Ok.ensures.only_read s (c.pages.invariant.only_read s only);
      faults = c.in-Ok.ensures.cause.caused ∙ c.pages.invariant.faults;
    }

pub returns-in-Err-clause-cause : goal.returns-in-Err-clause-cause
returns-in-Err-clause-cause g c =
    fault_later {T = ℕ} {U = ℕ} (g.S.PageStore.pages c.args.store.now) (OffPage c.args.file c.pages.at c.args.bound) (NoChain c.args.file c.args.bound)
    (g.S.PageStore.faults c.args.store.now) (g.S.PageStore.faults c.pages.store) (g.S.PageStore.faults c.copy_page.new.store) c.in-Err.fault c.pages.invariant.faults
    (λ m a known off. no_chain c.args.bound (pages_of m c.args.file) c.pages.at c.pages.rows.items c.pages.invariant.below c.args.file m a refl (c.pages.invariant.walked m known) off)
    (subst (λ known. HasFileCause {T = ℕ} known (OffPage c.args.file c.pages.at c.args.bound) (g.S.PageStore.faults c.pages.store) (g.S.PageStore.faults c.copy_page.new.store) (Err c.in-Err.fault)) c.pages.invariant.same c.in-Err.ensures.cause)

pub returns-in-Err-clause-reads : goal.returns-in-Err-clause-reads
returns-in-Err-clause-reads g c m numbers known is =
    count_ends c.args.bound (pages_of m c.args.file) numbers c.pages.at (g.S.PageStore.reads c.args.store.now) (g.S.PageStore.reads c.pages.store) (g.S.PageStore.reads c.copy_page.new.store)
    (c.pages.invariant.counted m numbers known is) c.in-Err.ensures.reads
