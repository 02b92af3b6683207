use Rattle.std.proofs.Common.{sym, ap, ◌∙◌, map, ◌++◌, ◌∷◌, []}
use Rattle.std.proofs.lemmas.List.{take_all, map_more}
use Rattle.quel_meaning.specs.Resolved.{stored_attr}
use Rattle.quel_resolve.proofs.written_trees.stored_attrs.Goals as goal

pub loop-name-preserved : goal.loop-name-preserved
loop-name-preserved c =
    c.in_ok-push.ensures.behind ∙ (λ i. c.loop-name.invariant i ++ (c.in_ok-attr.ensures ∙ ap stored_attr c.loop-name-item.is) i ∷ [])
    ∙ sym (map_more (stored_attr) c.args.attrs.now c.loop-name.name-index c.loop-name-item.result c.loop-name-test.true)

pub returns : goal.returns
returns c = c.loop-name.invariant ∙ ap (map (stored_attr)) (take_all c.loop-name.name-index c.args.attrs.now c.loop-name-test.false)
