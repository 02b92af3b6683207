use Rattle.std.proofs.Common.{ap, ◌∙◌, ◌-◌, ◌^◌, min, sum_by}
use Rattle.std.proofs.lemmas.List.{take_all}
use Rattle.calculus.specs.Sizes.{measure_within}
use Rattle.view_sizes.proofs.Counting.{sum_more}
use Rattle.view_sizes.proofs.variables.variables_under_found.Goals as goal

pub loop-key-preserved : goal.loop-key-preserved
loop-key-preserved g c = record {
  known = λ db h all.
      sum_more (λ key. (measure_within 16 db key).variables) c.args.vars.now c.loop-key.key-index c.key-item.result c.loop-key.count c.in_ok-more.more
      c.saturating_add-count.result c.loop-key-test.true c.key-item.is (c.loop-key.invariant.known db h all)
      (c.in_ok-more.ensures.known db (c.loop-key.invariant.stays _ h) (c.loop-key.invariant.found db h all)) c.saturating_add-count.ensures;
  found = λ db h all. c.in_ok-more.ensures.found db (c.loop-key.invariant.stays _ h) (c.loop-key.invariant.found db h all);
  kept = c.in_ok-more.ensures.kept ∙ c.loop-key.invariant.kept;
  stays = λ s h. c.in_ok-more.ensures.stays s (c.loop-key.invariant.stays s h);
  asked = λ b was. c.in_ok-more.ensures.asked b (c.loop-key.invariant.asked b was);
  faults = c.in_ok-more.ensures.cause.caused ∙ c.loop-key.invariant.faults;
}

pub returns-clause-known : goal.returns-clause-known
returns-clause-known g c = λ db h all.
    c.loop-key.invariant.known db h all ∙ ap (λ keys. min (sum_by (λ key. (measure_within 16 db key).variables) keys) (2 ^ 64 - 1)) (take_all c.loop-key.key-index c.args.vars.now c.loop-key-test.false)
