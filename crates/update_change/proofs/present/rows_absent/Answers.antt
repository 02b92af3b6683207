use Rattle.std.proofs.Common.{◌∙◌, sym, cond, not, [], ◌∷◌, ◌++◌}
use Rattle.std.proofs.lemmas.List.Elements.{filter-append}
use Rattle.calculus.specs.Rows.{has}
use Rattle.calculus.specs.Stored.{rows_at}
use Rattle.update_change.proofs.present.rows_absent.Goals as goal

pub loop-row-preserved : goal.loop-row-preserved
loop-row-preserved g c = record {
  kept = c.in_ok-is_there.ensures.kept ∙ c.loop-row.invariant.kept;
  stays = λ s e. c.in_ok-is_there.ensures.stays s (c.loop-row.invariant.stays s e);
  asked = λ b was. c.in_ok-is_there.ensures.asked b (c.loop-row.invariant.asked b was);
  faults = c.in_ok-is_there.ensures.cause.caused ∙ c.loop-row.invariant.faults;
  so_far = λ db e.
      c.in_ok-put_if.ensures
      ∙ (λ j. c.loop-row.invariant.so_far db e j ++ cond (not (c.in_ok-is_there.ensures.known db (c.loop-row.invariant.kept ∙ e) j)) (c.in-Some.row ∷ []) [])
      ∙ sym (filter-append (λ row. not (has (rows_at db c.args.key.now) row)) c.loop-row.yielded (c.in-Some.row ∷ []));
}
