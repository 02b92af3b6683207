use Rattle.std.proofs.Common.{◌≡◌, sym, ap, ◌∙◌, true, false, ◌&&◌}
use Rattle.std.specs.List.{list_all}
use Rattle.std.proofs.lemmas.List.{take_all}
use Rattle.std.proofs.lemmas.List.Folds.{list_all_more, list_all_at}
use Rattle.quel_meaning.specs.FitQueries.{asked_fits, kept_alone}
use Rattle.tree_check.proofs.asking.all_asked_fit.Goals as goal

pub loop-one-preserved : goal.loop-one-preserved
loop-one-preserved g c = record {
  known = λ db h.
      let on : c.in_ok-fit.fit ≡ true = cc (c.if-not-fit.false) in
      list_all_more (asked_fits (kept_alone db) db) c.args.asked.now c.loop-one.one-index c.one-item.result c.loop-one-test.true
      ∙ (λ i. c.loop-one.invariant.known db h i && (ap (asked_fits (kept_alone db) db) (sym c.one-item.is) ∙ sym (c.in_ok-fit.ensures.known db (c.loop-one.invariant.stays db h)) ∙ on) i);
  kept = c.in_ok-fit.ensures.kept ∙ c.loop-one.invariant.kept;
  stays = λ s h. c.in_ok-fit.ensures.stays s (c.loop-one.invariant.stays s h);
  asked = λ b was. c.in_ok-fit.ensures.asked b (c.loop-one.invariant.asked b was);
  faults = c.in_ok-fit.ensures.cause.caused ∙ c.loop-one.invariant.faults;
}

pub returns-then-not-fit-clause-known : goal.returns-then-not-fit-clause-known
returns-then-not-fit-clause-known g c = λ db h.
    let off : c.in_ok-fit.fit ≡ false = cc (c.if-not-fit.true) in
    sym (list_all_at (asked_fits (kept_alone db) db) c.args.asked.now c.loop-one.one-index c.one-item.result c.loop-one-test.true
    (ap (asked_fits (kept_alone db) db) (sym c.one-item.is) ∙ sym (c.in_ok-fit.ensures.known db (c.loop-one.invariant.stays db h)) ∙ off))

pub returns-clause-known : goal.returns-clause-known
returns-clause-known g c = λ db h. sym (c.loop-one.invariant.known db h) ∙ ap (list_all (asked_fits (kept_alone db) db)) (take_all c.loop-one.one-index c.args.asked.now c.loop-one-test.false)
