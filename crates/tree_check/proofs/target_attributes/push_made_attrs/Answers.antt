use Rattle.std.proofs.Common.{sym, ap, ◌∙◌, map, ◌++◌, ◌∷◌, []}
use Rattle.std.proofs.lemmas.List.{take_all, map_more}
use Rattle.calculus.specs.Replacement.{made_attr}
use Rattle.tree_check.proofs.target_attributes.push_made_attrs.Goals as goal

pub loop-target-preserved : goal.loop-target-preserved
loop-target-preserved c =
    c.in_ok-push.ensures.items ∙ (λ i. c.loop-target.invariant i ++ (c.in_ok-made_attr.ensures ∙ ap made_attr c.target-item.is) i ∷ [])
    ∙ sym (map_more made_attr c.args.targets.now c.loop-target.target-index c.target-item.result c.loop-target-test.true)

pub returns : goal.returns
returns c = c.loop-target.invariant ∙ ap (map made_attr) (take_all c.loop-target.target-index c.args.targets.now c.loop-target-test.false)
