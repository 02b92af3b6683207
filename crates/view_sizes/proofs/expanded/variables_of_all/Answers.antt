use Rattle.std.proofs.Common.{ap, ◌∙◌, ◌-◌, ◌^◌, min, sum_by}
use Rattle.std.proofs.lemmas.List.{take_all}
use Rattle.calculus.specs.Sizes.{measure_within, source_variables}
use Rattle.view_sizes.specs.Listing.{source_lists_few}
use Rattle.view_sizes.proofs.Counting.{sum_more}
use Rattle.view_sizes.proofs.Enlarged.{each_at}
use Rattle.view_sizes.proofs.expanded.variables_of_all.Goals as goal

pub loop-aggregate-preserved : goal.loop-aggregate-preserved
loop-aggregate-preserved g c = record {
  known = λ db h all few.
      sum_more (λ g. source_variables (measure_within 16 db) g.now.source) c.args.aggregates.now c.loop-aggregate.aggregate-index c.aggregate-item.result c.loop-aggregate.count c.in_ok-more.more
      c.saturating_add-count.result c.loop-aggregate-test.true c.aggregate-item.is (c.loop-aggregate.invariant.known db h all few)
      (c.in_ok-more.ensures.known db (c.loop-aggregate.invariant.stays _ h) (c.loop-aggregate.invariant.found db h all) (each_at (λ g. source_lists_few g.now.source) c.args.aggregates.now c.loop-aggregate.aggregate-index c.aggregate-item.result c.loop-aggregate-test.true c.aggregate-item.is few))
      c.saturating_add-count.ensures;
  found = λ db h all. c.in_ok-more.ensures.found db (c.loop-aggregate.invariant.stays _ h) (c.loop-aggregate.invariant.found db h all);
  kept = c.in_ok-more.ensures.kept ∙ c.loop-aggregate.invariant.kept;
  stays = λ s h. c.in_ok-more.ensures.stays s (c.loop-aggregate.invariant.stays s h);
  asked = λ b was. c.in_ok-more.ensures.asked b (c.loop-aggregate.invariant.asked b was);
  faults = c.in_ok-more.ensures.cause.caused ∙ c.loop-aggregate.invariant.faults;
}

pub returns-clause-known : goal.returns-clause-known
returns-clause-known g c = λ db h all few.
    c.loop-aggregate.invariant.known db h all few
    ∙ ap (λ gs. min (sum_by (λ g. source_variables (measure_within 16 db) g.now.source) gs) (2 ^ 64 - 1)) (take_all c.loop-aggregate.aggregate-index c.args.aggregates.now c.loop-aggregate-test.false)
