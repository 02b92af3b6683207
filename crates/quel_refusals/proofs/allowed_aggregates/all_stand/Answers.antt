use Rattle.std.proofs.Common.{◌≡◌, sym, ap, ◌∙◌, true, false, ◌&&◌}
use Rattle.std.specs.List.{list_all}
use Rattle.std.proofs.lemmas.List.{take_all}
use Rattle.std.proofs.lemmas.List.Folds.{list_all_more, list_all_at}
use Rattle.quel_check.specs.Known.{front}
use Rattle.quel_meaning.specs.Aggregates.{aggregate_allowed}
use Rattle.quel_meaning.specs.WrittenParts.{aggregate_vars}
use Rattle.quel_names.specs.Ranging.{each_ranges}
use Rattle.quel_refusals.proofs.Aggregated.{one_passes}
use Rattle.quel_refusals.proofs.allowed_aggregates.all_stand.Goals as goal

pub loop-aggregate-preserved : goal.loop-aggregate-preserved
loop-aggregate-preserved g c = record {
  known = λ s h r each.
      let on : c.in_ok-stands.stands ≡ true = cc (c.if-not-stands.false) in
      let one = one_passes (λ a. each_ranges s (front (aggregate_vars a))) (λ a. a.now) c.args.aggregates.now c.loop-aggregate.aggregate-index c.aggregate-item.result c.loop-aggregate-test.true c.aggregate-item.is each in
      list_all_more (λ a. aggregate_allowed s a.now) c.args.aggregates.now c.loop-aggregate.aggregate-index c.aggregate-item.result c.loop-aggregate-test.true
      ∙ (λ i. c.loop-aggregate.invariant.known s h r each i && (ap (λ a. aggregate_allowed s a.now) (sym c.aggregate-item.is) ∙ sym (c.in_ok-stands.ensures.known s (c.loop-aggregate.invariant.stays _ h) r one) ∙ on) i);
  kept = c.in_ok-stands.ensures.kept ∙ c.loop-aggregate.invariant.kept;
  stays = λ s h. c.in_ok-stands.ensures.stays s (c.loop-aggregate.invariant.stays s h);
  asked = λ b was. c.in_ok-stands.ensures.asked b (c.loop-aggregate.invariant.asked b was);
  faults = c.in_ok-stands.ensures.cause.caused ∙ c.loop-aggregate.invariant.faults;
}

pub returns-then-not-stands-clause-known : goal.returns-then-not-stands-clause-known
returns-then-not-stands-clause-known g c = λ s h r each.
    let off : c.in_ok-stands.stands ≡ false = cc (c.if-not-stands.true) in
    let one = one_passes (λ a. each_ranges s (front (aggregate_vars a))) (λ a. a.now) c.args.aggregates.now c.loop-aggregate.aggregate-index c.aggregate-item.result c.loop-aggregate-test.true c.aggregate-item.is each in
    sym (list_all_at (λ a. aggregate_allowed s a.now) c.args.aggregates.now c.loop-aggregate.aggregate-index c.aggregate-item.result c.loop-aggregate-test.true
    (ap (λ a. aggregate_allowed s a.now) (sym c.aggregate-item.is) ∙ sym (c.in_ok-stands.ensures.known s (c.loop-aggregate.invariant.stays _ h) r one) ∙ off))

pub returns-clause-known : goal.returns-clause-known
returns-clause-known g c = λ s h r each. sym (c.loop-aggregate.invariant.known s h r each) ∙ ap (list_all (λ a. aggregate_allowed s a.now)) (take_all c.loop-aggregate.aggregate-index c.args.aggregates.now c.loop-aggregate-test.false)
