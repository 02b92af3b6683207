use Rattle.std.proofs.Common.{◌≡◌, sym, ap, ◌∙◌, true, false, ◌||◌}
use Rattle.std.specs.List.{list_any}
use Rattle.std.proofs.lemmas.List.{take_all}
use Rattle.std.proofs.lemmas.List.Folds.{list_any_more, list_any_at}
use Rattle.change_laws.specs.Fit.{is_named_outside}
use Rattle.change_check.proofs.destroying.some_named.Goals as goal

pub loop-key-preserved : goal.loop-key-preserved
loop-key-preserved g c = record {
  known = λ db h.
      let on : c.in_ok-named.named ≡ false = cc (c.if-named.false) in
      list_any_more (is_named_outside db c.args.all.now) c.args.rels.now c.loop-key.key-index c.key-item.result c.loop-key-test.true
      ∙ (λ i. c.loop-key.invariant.known db h i || (ap (is_named_outside db c.args.all.now) (sym c.key-item.is) ∙ sym (c.in_ok-named.ensures.known db (c.loop-key.invariant.stays db h)) ∙ on) i);
  kept = c.in_ok-named.ensures.kept ∙ c.loop-key.invariant.kept;
  stays = λ s h. c.in_ok-named.ensures.stays s (c.loop-key.invariant.stays s h);
  asked = λ b was. c.in_ok-named.ensures.asked b (c.loop-key.invariant.asked b was);
  faults = c.in_ok-named.ensures.cause.caused ∙ c.loop-key.invariant.faults;
}

pub returns-then-named-clause-known : goal.returns-then-named-clause-known
returns-then-named-clause-known g c = λ db h.
    let off : c.in_ok-named.named ≡ true = cc (c.if-named.true) in
    sym (list_any_at (is_named_outside db c.args.all.now) c.args.rels.now c.loop-key.key-index c.key-item.result c.loop-key-test.true
    (ap (is_named_outside db c.args.all.now) (sym c.key-item.is) ∙ sym (c.in_ok-named.ensures.known db (c.loop-key.invariant.stays db h)) ∙ off))

pub returns-clause-known : goal.returns-clause-known
returns-clause-known g c = λ db h. sym (c.loop-key.invariant.known db h) ∙ ap (list_any (is_named_outside db c.args.all.now)) (take_all c.loop-key.key-index c.args.rels.now c.loop-key-test.false)
