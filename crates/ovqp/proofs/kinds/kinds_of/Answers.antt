use Rattle.std.proofs.Common.{sym, ap, ◌∙◌, map, ◌++◌, ◌∷◌, []}
use Rattle.std.proofs.lemmas.List.{take_all, map_more}
use Rattle.ovqp.proofs.kinds.kinds_of.Goals as goal

pub loop-attr-preserved : goal.loop-attr-preserved
loop-attr-preserved c =
    c.in_ok-push.ensures.items ∙ (λ i. c.loop-attr.invariant i ++ (c.attr-item.is i).kind ∷ [])
    ∙ sym (map_more (λ a. a.kind) c.args.attrs.now c.loop-attr.attr-index c.attr-item.result c.loop-attr-test.true)

pub returns : goal.returns
returns c = c.loop-attr.invariant ∙ ap (map (λ a. a.kind)) (take_all c.loop-attr.attr-index c.args.attrs.now c.loop-attr-test.false)
