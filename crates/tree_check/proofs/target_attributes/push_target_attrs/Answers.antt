use Rattle.std.proofs.Common.{sym, ap, ◌∙◌, map, ◌++◌, ◌∷◌, []}
use Rattle.std.proofs.lemmas.List.{take_all, map_more}
use Rattle.quel_meaning.specs.Planned.{target_attr}
use Rattle.tree_check.proofs.target_attributes.push_target_attrs.Goals as goal

pub loop-target-preserved : goal.loop-target-preserved
loop-target-preserved c =
    c.in_ok-push.ensures.items ∙ (λ i. c.loop-target.invariant i ++ (c.in_ok-target_attr.ensures ∙ ap target_attr c.target-item.is) i ∷ [])
    ∙ sym (map_more target_attr c.args.targets.now c.loop-target.target-index c.target-item.result c.loop-target-test.true)

pub returns : goal.returns
returns c = c.loop-target.invariant ∙ ap (map target_attr) (take_all c.loop-target.target-index c.args.targets.now c.loop-target-test.false)
