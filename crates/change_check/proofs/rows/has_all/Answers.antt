use Rattle.std.proofs.Common.{◌≡◌, sym, ap, ◌∙◌, true, false, ◌&&◌}
use Rattle.std.specs.List.{list_all}
use Rattle.std.proofs.lemmas.List.{take_all}
use Rattle.std.proofs.lemmas.List.Folds.{list_all_more, list_all_at}
use Rattle.calculus.specs.Rows.{has}
use Rattle.calculus.specs.Stored.{rows_at}
use Rattle.change_check.proofs.rows.has_all.Goals as goal

pub loop-row-preserved : goal.loop-row-preserved
loop-row-preserved g c = record {
  so_far = λ db h.
      let on : c.in_ok-there.there ≡ true = cc (c.if-not-there.false) in
      list_all_more (has (rows_at db c.args.rel.now)) c.args.rows.now c.loop-row.row-index c.row-item.result c.loop-row-test.true
      ∙ (λ i. c.loop-row.invariant.so_far db h i && (ap (has (rows_at db c.args.rel.now)) (sym c.row-item.is) ∙ sym (c.in_ok-there.ensures.known db (c.loop-row.invariant.kept ∙ h)) ∙ on) i);
  kept = c.in_ok-there.ensures.kept ∙ c.loop-row.invariant.kept;
  stays = λ s h. c.in_ok-there.ensures.stays s (c.loop-row.invariant.stays s h);
  asked = λ b was. c.in_ok-there.ensures.asked b (c.loop-row.invariant.asked b was);
  faults = c.in_ok-there.ensures.cause.caused ∙ c.loop-row.invariant.faults;
}

pub returns-then-not-there-clause-known : goal.returns-then-not-there-clause-known
returns-then-not-there-clause-known g c = λ db h.
    let off : c.in_ok-there.there ≡ false = cc (c.if-not-there.true) in
    sym (list_all_at (has (rows_at db c.args.rel.now)) c.args.rows.now c.loop-row.row-index c.row-item.result c.loop-row-test.true
    (ap (has (rows_at db c.args.rel.now)) (sym c.row-item.is) ∙ sym (c.in_ok-there.ensures.known db (c.loop-row.invariant.kept ∙ h)) ∙ off))

pub returns-clause-known : goal.returns-clause-known
returns-clause-known g c = λ db h. sym (c.loop-row.invariant.so_far db h) ∙ ap (list_all (has (rows_at db c.args.rel.now))) (take_all c.loop-row.row-index c.args.rows.now c.loop-row-test.false)
