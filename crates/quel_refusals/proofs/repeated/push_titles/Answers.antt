use Rattle.std.proofs.Common.{sym, ap, ◌∙◌, map, ◌++◌, ◌∷◌, []}
use Rattle.std.proofs.lemmas.List.{take_all, map_more, map_push}
use Rattle.quel_refusals.proofs.repeated.push_titles.Goals as goal

pub loop-target-preserved : goal.loop-target-preserved
loop-target-preserved c =
    ap (map (λ n. n.now)) c.in_ok-push.ensures.items ∙ map_push (λ n. n.now) _ _ ∙ (λ i. c.loop-target.invariant i ++ (c.target-item.is i).name ∷ [])
    ∙ sym (map_more (λ t. t.name) c.args.targets.now c.loop-target.target-index c.target-item.result c.loop-target-test.true)

pub returns : goal.returns
returns c = c.loop-target.invariant ∙ ap (map (λ t. t.name)) (take_all c.loop-target.target-index c.args.targets.now c.loop-target-test.false)
