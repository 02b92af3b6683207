use Rattle.std.proofs.Common.{◌∙◌, ◌++◌, ◌∷◌, [], sym, ap, map}
use Rattle.std.proofs.lemmas.List.{take_all, map_more}
use Rattle.calculus.specs.Finding.{found}
use Rattle.quel_meaning.specs.Resolved.{whole}
use Rattle.utility_trees.proofs.printed.wholes.Goals as goal

pub loop-name-preserved : goal.loop-name-preserved
loop-name-preserved g c = record {
  known = λ db h.
      c.in_ok-push.ensures.behind
      ∙ (λ i. c.loop-name.invariant.known db h i ++ (c.in_ok-one.ensures.known db (c.loop-name.invariant.stays _ h) ∙ ap (λ name. whole (found db c.args.user.now name)) c.name-item.is) i ∷ [])
      ∙ sym (map_more (λ name. whole (found db c.args.user.now name)) c.args.names.now c.loop-name.name-index c.name-item.result c.loop-name-test.true);
  kept = c.in_ok-one.ensures.kept ∙ c.loop-name.invariant.kept;
  stays = λ s h. c.in_ok-one.ensures.stays s (c.loop-name.invariant.stays s h);
  asked = λ b was. c.in_ok-one.ensures.asked b (c.loop-name.invariant.asked b was);
  faults = c.in_ok-one.ensures.cause.caused ∙ c.loop-name.invariant.faults;
}

pub returns-clause-known : goal.returns-clause-known
returns-clause-known g c = λ db h.
    c.loop-name.invariant.known db h ∙ ap (map (λ name. whole (found db c.args.user.now name))) (take_all c.loop-name.name-index c.args.names.now c.loop-name-test.false)
