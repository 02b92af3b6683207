use Rattle.std.proofs.Common.{sym, ap, ◌∙◌, map, ◌++◌, ◌∷◌, []}
use Rattle.std.proofs.lemmas.List.{take_all, map_more}
use Rattle.ovqp.proofs.kinds.target_kinds.Goals as goal

pub loop-target-preserved : goal.loop-target-preserved
loop-target-preserved c =
    c.in_ok-push.ensures.items ∙ (λ i. c.loop-target.invariant i ++ (c.target-item.is i).kind ∷ [])
    ∙ sym (map_more (λ t. t.kind) c.args.targets.now c.loop-target.target-index c.target-item.result c.loop-target-test.true)

pub returns : goal.returns
returns c = c.loop-target.invariant ∙ ap (map (λ t. t.kind)) (take_all c.loop-target.target-index c.args.targets.now c.loop-target-test.false)
