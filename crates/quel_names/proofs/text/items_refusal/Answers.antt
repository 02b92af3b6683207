use Rattle.std.proofs.Common.{sym, ap, ◌∙◌, is_some}
use Rattle.quel_meaning.specs.Naming.{item_mentions, mention_refusal}
use Rattle.quel_names.proofs.Numbers.{part_stops, part_passes}
use Rattle.quel_names.proofs.KnownAs.{none_if}
use Rattle.quel_names.specs.Asking.{scope_of}
use Rattle.quel_names.specs.Roles.{meant_by}
use Rattle.quel_names.proofs.text.items_refusal.Goals as goal

pub returns-then-is_some-clause-known : goal.returns-then-is_some-clause-known
returns-then-is_some-clause-known g c = λ db h.
    let known = c.in_ok-refusal.ensures.known db (c.loop-item.invariant.stays db h) in
    known
    ∙ part_stops (mention_refusal (scope_of db c.args.user.now c.args.ranges.now)) (item_mentions (scope_of db c.args.user.now c.args.ranges.now) (meant_by c.args.role.now)) c.args.items.now
    c.loop-item.item-index c.item-item.result c.loop-item-test.true c.item-item.is (sym (ap is_some known) ∙ sym c.is_some.ensures ∙ c.if-is_some.true)
    ∙ c.loop-item.invariant.known db h

pub loop-item-preserved : goal.loop-item-preserved
loop-item-preserved g c = record {
  known = λ db h.
      part_passes (mention_refusal (scope_of db c.args.user.now c.args.ranges.now)) (item_mentions (scope_of db c.args.user.now c.args.ranges.now) (meant_by c.args.role.now)) c.args.items.now
      c.loop-item.item-index c.item-item.result c.loop-item-test.true c.item-item.is
      (sym (c.in_ok-refusal.ensures.known db (c.loop-item.invariant.stays db h)) ∙ none_if c.in_ok-refusal.refusal (sym c.is_some.ensures ∙ c.if-is_some.false))
      ∙ c.loop-item.invariant.known db h;
  kept = c.in_ok-refusal.ensures.kept ∙ c.loop-item.invariant.kept;
  stays = λ s h. c.in_ok-refusal.ensures.stays s (c.loop-item.invariant.stays s h);
  asked = λ b was. c.in_ok-refusal.ensures.asked b (c.loop-item.invariant.asked b was);
  faults = c.in_ok-refusal.ensures.cause.caused ∙ c.loop-item.invariant.faults;
}
