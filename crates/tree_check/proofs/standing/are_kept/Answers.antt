use Rattle.std.proofs.Common.{◌≡◌, sym, ap, ◌∙◌, true, false, ◌&&◌}
use Rattle.std.specs.List.{list_all}
use Rattle.std.proofs.lemmas.List.{take_all}
use Rattle.std.proofs.lemmas.List.Folds.{list_all_more, list_all_at}
use Rattle.quel_meaning.specs.FitQueries.{is_kept}
use Rattle.tree_check.proofs.standing.are_kept.Goals as goal

pub loop-key-preserved : goal.loop-key-preserved
loop-key-preserved g c = record {
  known = λ db h.
      let on : c.in_ok-kept.kept ≡ true = cc (c.if-not-kept.false) in
      list_all_more (is_kept db) c.args.keys.now c.loop-key.key-index c.key-item.result c.loop-key-test.true
      ∙ (λ i. c.loop-key.invariant.known db h i && (ap (is_kept db) (sym c.key-item.is) ∙ sym (c.in_ok-kept.ensures.known db (c.loop-key.invariant.stays db h)) ∙ on) i);
  kept = c.in_ok-kept.ensures.kept ∙ c.loop-key.invariant.kept;
  stays = λ s h. c.in_ok-kept.ensures.stays s (c.loop-key.invariant.stays s h);
  asked = λ b was. c.in_ok-kept.ensures.asked b (c.loop-key.invariant.asked b was);
  faults = c.in_ok-kept.ensures.cause.caused ∙ c.loop-key.invariant.faults;
}

pub returns-then-not-kept-clause-known : goal.returns-then-not-kept-clause-known
returns-then-not-kept-clause-known g c = λ db h.
    let off : c.in_ok-kept.kept ≡ false = cc (c.if-not-kept.true) in
    sym (list_all_at (is_kept db) c.args.keys.now c.loop-key.key-index c.key-item.result c.loop-key-test.true
    (ap (is_kept db) (sym c.key-item.is) ∙ sym (c.in_ok-kept.ensures.known db (c.loop-key.invariant.stays db h)) ∙ off))

pub returns-clause-known : goal.returns-clause-known
returns-clause-known g c = λ db h. sym (c.loop-key.invariant.known db h) ∙ ap (list_all (is_kept db)) (take_all c.loop-key.key-index c.args.keys.now c.loop-key-test.false)
