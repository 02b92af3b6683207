use Rattle.std.proofs.Common.{◌≡◌, sym, ap, ◌∙◌, true, false, ◌&&◌}
use Rattle.std.specs.List.{list_all}
use Rattle.std.proofs.lemmas.List.{take_all}
use Rattle.std.proofs.lemmas.List.Folds.{list_all_more, list_all_at}
use Rattle.quel_meaning.specs.Fit.{is_entry}
use Rattle.tree_check.proofs.standing.are_entries.Goals as goal

pub loop-key-preserved : goal.loop-key-preserved
loop-key-preserved g c = record {
  known = λ db h.
      let on : c.in_ok-there.there ≡ true = cc (c.if-not-there.false) in
      list_all_more (is_entry db) c.args.keys.now c.loop-key.key-index c.key-item.result c.loop-key-test.true
      ∙ (λ i. c.loop-key.invariant.known db h i && (ap (is_entry db) (sym c.key-item.is) ∙ sym (c.in_ok-there.ensures.known db (c.loop-key.invariant.stays db h)) ∙ on) i);
  kept = c.in_ok-there.ensures.kept ∙ c.loop-key.invariant.kept;
  stays = λ s h. c.in_ok-there.ensures.stays s (c.loop-key.invariant.stays s h);
  asked = λ b was. c.in_ok-there.ensures.asked b (c.loop-key.invariant.asked b was);
  faults = c.in_ok-there.ensures.cause.caused ∙ c.loop-key.invariant.faults;
}

pub returns-then-not-there-clause-known : goal.returns-then-not-there-clause-known
returns-then-not-there-clause-known g c = λ db h.
    let off : c.in_ok-there.there ≡ false = cc (c.if-not-there.true) in
    sym (list_all_at (is_entry db) c.args.keys.now c.loop-key.key-index c.key-item.result c.loop-key-test.true
    (ap (is_entry db) (sym c.key-item.is) ∙ sym (c.in_ok-there.ensures.known db (c.loop-key.invariant.stays db h)) ∙ off))

pub returns-clause-known : goal.returns-clause-known
returns-clause-known g c = λ db h. sym (c.loop-key.invariant.known db h) ∙ ap (list_all (is_entry db)) (take_all c.loop-key.key-index c.args.keys.now c.loop-key-test.false)
