use Rattle.std.proofs.Common.{◌≡◌, sym, ap, ◌∙◌, true, false, ◌&&◌}
use Rattle.std.specs.List.{list_all}
use Rattle.std.proofs.lemmas.List.{take_all}
use Rattle.std.proofs.lemmas.List.Folds.{list_all_more, list_all_at}
use Rattle.quel_meaning.specs.FitQueries.{kept_alone, source_fits}
use Rattle.tree_check.proofs.sources.all_sources_fit.Goals as goal

pub loop-aggregate-preserved : goal.loop-aggregate-preserved
loop-aggregate-preserved g c = record {
  known = λ db h.
      let on : c.in_ok-fit.fit ≡ true = cc (c.if-not-fit.false) in
      list_all_more (λ g. source_fits (kept_alone db) db g.now.source) c.args.aggregates.now c.loop-aggregate.aggregate-index c.aggregate-item.result c.loop-aggregate-test.true
      ∙ (λ i. c.loop-aggregate.invariant.known db h i && (ap (λ g. source_fits (kept_alone db) db g.now.source) (sym c.aggregate-item.is) ∙ sym (c.in_ok-fit.ensures.known db (c.loop-aggregate.invariant.stays db h)) ∙ on) i);
  kept = c.in_ok-fit.ensures.kept ∙ c.loop-aggregate.invariant.kept;
  stays = λ s h. c.in_ok-fit.ensures.stays s (c.loop-aggregate.invariant.stays s h);
  asked = λ b was. c.in_ok-fit.ensures.asked b (c.loop-aggregate.invariant.asked b was);
  faults = c.in_ok-fit.ensures.cause.caused ∙ c.loop-aggregate.invariant.faults;
}

pub returns-then-not-fit-clause-known : goal.returns-then-not-fit-clause-known
returns-then-not-fit-clause-known g c = λ db h.
    let off : c.in_ok-fit.fit ≡ false = cc (c.if-not-fit.true) in
    sym (list_all_at (λ g. source_fits (kept_alone db) db g.now.source) c.args.aggregates.now c.loop-aggregate.aggregate-index c.aggregate-item.result c.loop-aggregate-test.true
    (ap (λ g. source_fits (kept_alone db) db g.now.source) (sym c.aggregate-item.is) ∙ sym (c.in_ok-fit.ensures.known db (c.loop-aggregate.invariant.stays db h)) ∙ off))

pub returns-clause-known : goal.returns-clause-known
returns-clause-known g c = λ db h. sym (c.loop-aggregate.invariant.known db h) ∙ ap (list_all (λ g. source_fits (kept_alone db) db g.now.source)) (take_all c.loop-aggregate.aggregate-index c.args.aggregates.now c.loop-aggregate-test.false)
