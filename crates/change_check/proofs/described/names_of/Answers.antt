use Rattle.std.proofs.Common.{sym, ap, ◌∙◌, map, ◌++◌, ◌∷◌, []}
use Rattle.std.proofs.lemmas.List.{take_all, map_more, map_push}
use Rattle.change_check.proofs.described.names_of.Goals as goal

pub loop-attr-preserved : goal.loop-attr-preserved
loop-attr-preserved c =
    ap (map (λ n. n.now)) c.in_ok-push.ensures.items ∙ map_push (λ n. n.now) _ _ ∙ (λ i. c.loop-attr.invariant i ++ (c.attr-item.is i).name ∷ [])
    ∙ sym (map_more (λ a. a.name) c.args.attrs.now c.loop-attr.attr-index c.attr-item.result c.loop-attr-test.true)

pub returns : goal.returns
returns c = c.loop-attr.invariant ∙ ap (map (λ a. a.name)) (take_all c.loop-attr.attr-index c.args.attrs.now c.loop-attr-test.false)
