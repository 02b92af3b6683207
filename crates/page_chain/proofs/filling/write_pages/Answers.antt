use borrow.Author.Tests.{tests}
use Rattle.std.proofs.Common.{rules, ◌+◌, ◌<◌, ◌≡◌, ◌==◌, Bool, false, true, List, [], ◌∷◌, length, refl, sym, subst, arith, ◌∙◌}
use Rattle.std.proofs.lemmas.Bool.Decides.{nat_tests}
use Rattle.page_chain.specs.Filled.{InHand}
use Rattle.page_chain.proofs.filling.write_pages.Goals as goal

nothing_left : {T : Type 0} (rows : List T) (b : Bool) → b ≡ (length rows == 0) → b ≡ true → rows ≡ []
nothing_left [] b e f = refl
nothing_left (x ∷ xs) b e f = let t : (length (x ∷ xs) == 0) ≡ false = grind (arith, nat_tests) in cc

pub returns-clause-hand : goal.returns-clause-hand
returns-clause-hand g c begin all m first =
    subst (λ left. InHand c.args.file begin c.pages.at c.pages.page left all m (g.S.PageStore.pages c.pages.store))
    (nothing_left c.pages.left.now c.is_empty.result c.is_empty.ensures c.pages-test.false) (c.pages.invariant.hand begin all m first)

pub pages-preserved : goal.pages-preserved
pages-preserved g c = record {
  page = c.in_ok-count.ensures.page;
  short = search rules;
  forth = omega arith;
  count =
      let some : 0 < length c.pages.left.now = search (tests, rules, c.pages-test.ensures) in
      omega (arith, c.split_at.ensures.back_len, c.in_ok-count.ensures.count, c.in_ok-count.ensures.some some, c.pages.invariant.count);
  hand = λ begin all m first.
      subst (λ l. InHand c.args.file begin (c.pages.at + 1) c.write_page.new.page l all m (g.S.PageStore.pages c.write_page.new.store)) (sym c.split_at.ensures.back)
      (c.in_ok-count.ensures.hand begin all m (c.pages.invariant.hand begin all m first));
  came = λ s came. c.write_page.ensures.came s (c.pages.invariant.came s came);
  faults = c.in_ok-count.ensures.cause.caused ∙ c.pages.invariant.faults;
  reads = c.write_page.ensures.reads ∙ c.pages.invariant.reads;
}
