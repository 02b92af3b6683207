use Rattle.std.proofs.Common.{sym, ap, ◌∙◌, is_some}
use Rattle.quel_check.specs.Seen.{seen}
use Rattle.quel_meaning.specs.Naming.{mention_refusal}
use Rattle.quel_names.proofs.Numbers.{one_stops, one_passes}
use Rattle.quel_names.proofs.KnownAs.{none_if}
use Rattle.quel_names.specs.Asking.{scope_of}
use Rattle.quel_names.proofs.mentioned.first_refusal.Goals as goal

pub returns-then-is_some-clause-known : goal.returns-then-is_some-clause-known
returns-then-is_some-clause-known g c = λ db h.
    let known = c.in_ok-refusal.ensures.known db (c.loop-mention.invariant.stays db h) in
    known
    ∙ one_stops (mention_refusal (scope_of db c.args.user.now c.args.ranges.now)) seen c.args.mentions.now c.loop-mention.mention-index c.mention-item.result c.loop-mention-test.true c.mention-item.is
    (sym (ap is_some known) ∙ sym c.is_some.ensures ∙ c.if-is_some.true)
    ∙ c.loop-mention.invariant.known db h

pub loop-mention-preserved : goal.loop-mention-preserved
loop-mention-preserved g c = record {
  known = λ db h.
      one_passes (mention_refusal (scope_of db c.args.user.now c.args.ranges.now)) seen c.args.mentions.now c.loop-mention.mention-index c.mention-item.result c.loop-mention-test.true c.mention-item.is
      (sym (c.in_ok-refusal.ensures.known db (c.loop-mention.invariant.stays db h)) ∙ none_if c.in_ok-refusal.refusal (sym c.is_some.ensures ∙ c.if-is_some.false))
      ∙ c.loop-mention.invariant.known db h;
  kept = c.in_ok-refusal.ensures.kept ∙ c.loop-mention.invariant.kept;
  stays = λ s h. c.in_ok-refusal.ensures.stays s (c.loop-mention.invariant.stays s h);
  asked = λ b was. c.in_ok-refusal.ensures.asked b (c.loop-mention.invariant.asked b was);
  faults = c.in_ok-refusal.ensures.cause.caused ∙ c.loop-mention.invariant.faults;
}
