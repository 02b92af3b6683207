use Rattle.std.proofs.Common.{◌||◌, ap, ◌∙◌, arith, length}
use Rattle.calculus.specs.Assignments.{is_changed}
use Rattle.calculus.specs.Lists.{is_any}
use Rattle.calculus.specs.Sizes.{measure_within}
use Rattle.calculus.specs.Used.{used_in_query}
use Rattle.view_sizes.proofs.Counting.{count_more, count_all, vars_is}
use Rattle.view_sizes.proofs.expanded.counted_variables.Goals as goal

pub loop-key-preserved : goal.loop-key-preserved
loop-key-preserved g c = record {
  place = omega (arith, c.loop-key.invariant.place, c.saturating_add-place.ensures);
  known = λ db h all few.
      count_more (λ v. is_any (used_in_query v c.args.u.now.query) || is_changed c.args.u.now v) (λ key. (measure_within 16 db key).variables) c.items-key-items.result.now c.loop-key.key-index c.key-item.result
      c.loop-key.place c.loop-key.count c.in_ok-more.more c.saturating_add-count.result c.loop-key-test.true c.key-item.is few c.loop-key.invariant.place
      (c.loop-key.invariant.known db h all (omega arith)) (c.in_ok-more.ensures.known db (c.loop-key.invariant.stays _ h) (c.loop-key.invariant.found db h all)) c.saturating_add-count.ensures;
  found = λ db h all. c.in_ok-more.ensures.found db (c.loop-key.invariant.stays _ h) (c.loop-key.invariant.found db h all);
  kept = c.in_ok-more.ensures.kept ∙ c.loop-key.invariant.kept;
  stays = λ s h. c.in_ok-more.ensures.stays s (c.loop-key.invariant.stays s h);
  asked = λ b was. c.in_ok-more.ensures.asked b (c.loop-key.invariant.asked b was);
  faults = c.in_ok-more.ensures.cause.caused ∙ c.loop-key.invariant.faults;
}

pub returns-clause-known : goal.returns-clause-known
returns-clause-known g c = λ db h all few.
    count_all (λ v. is_any (used_in_query v c.args.u.now.query) || is_changed c.args.u.now v) (λ key. (measure_within 16 db key).variables) c.items-key-items.result.now _ c.loop-key.key-index
    c.loop-key.count (c.items-key-items.ensures ∙ vars_is c.args.u.now.query) c.loop-key-test.false
    (c.loop-key.invariant.known db h all (omega (arith, ap length (c.items-key-items.ensures ∙ vars_is c.args.u.now.query), c.loop-key.auto.key-index-end, few)))
