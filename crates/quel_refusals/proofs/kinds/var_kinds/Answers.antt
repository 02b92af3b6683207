use Rattle.std.proofs.Common.{sym, ap, ◌∙◌, map, ◌++◌, ◌∷◌, []}
use Rattle.std.proofs.lemmas.List.{take_all, map_more}
use Rattle.calculus.specs.Stored.{kinds_at}
use Rattle.quel_refusals.proofs.kinds.var_kinds.Goals as goal

pub loop-key-preserved : goal.loop-key-preserved
loop-key-preserved g c = record {
  known = λ db h.
      c.in_ok-put_behind.ensures
      ∙ (λ i. c.loop-key.invariant.known db h i ++ (c.in_ok-more.ensures.known db (c.loop-key.invariant.stays _ h) ∙ ap (kinds_at db) c.key-item.is) i ∷ [])
      ∙ sym (map_more (kinds_at db) c.args.vars.now c.loop-key.key-index c.key-item.result c.loop-key-test.true);
  kept = c.in_ok-more.ensures.kept ∙ c.loop-key.invariant.kept;
  stays = λ s h. c.in_ok-more.ensures.stays s (c.loop-key.invariant.stays s h);
  asked = λ b was. c.in_ok-more.ensures.asked b (c.loop-key.invariant.asked b was);
  faults = c.in_ok-more.ensures.cause.caused ∙ c.loop-key.invariant.faults;
}

pub returns-clause-known : goal.returns-clause-known
returns-clause-known g c = λ db h. c.loop-key.invariant.known db h ∙ ap (map (kinds_at db)) (take_all c.loop-key.key-index c.args.vars.now c.loop-key-test.false)
