use Rattle.std.proofs.Common.{sym, ap, ◌∙◌, map, ◌++◌, ◌∷◌, []}
use Rattle.std.proofs.lemmas.List.{take_all, map_more}
use Rattle.quel_resolve.proofs.known.keys_of.Goals as goal

pub loop-info-preserved : goal.loop-info-preserved
loop-info-preserved c =
    c.in_ok-push.ensures.items ∙ (λ i. c.loop-info.invariant i ++ (c.in_ok-copy.ensures ∙ ap (λ info. info.key) c.info-item.is) i ∷ [])
    ∙ sym (map_more (λ info. info.key) c.args.infos.now c.loop-info.info-index c.info-item.result c.loop-info-test.true)

pub returns : goal.returns
returns c = c.loop-info.invariant ∙ ap (map (λ info. info.key)) (take_all c.loop-info.info-index c.args.infos.now c.loop-info-test.false)
