use Rattle.std.proofs.Common.{sym, ap, ◌∙◌, map, vec_items, ◌++◌, ◌∷◌, []}
use Rattle.std.proofs.lemmas.List.{take_all, map_more, map_push}
use Rattle.quel_resolve.specs.Targets.{kinds_in}
use Rattle.quel_resolve.proofs.known.kinds_of.Goals as goal

pub loop-info-preserved : goal.loop-info-preserved
loop-info-preserved c =
    ap (map vec_items) c.in_ok-push.ensures.items ∙ map_push vec_items _ _
    ∙ (λ i. c.loop-info.invariant i ++ (c.in_ok-kinds_of_attrs.ensures ∙ ap (map (λ a. a.kind)) c.items.ensures ∙ ap (λ info. map (λ a. a.kind) info.attrs) c.info-item.is) i ∷ [])
    ∙ sym (map_more (λ info. map (λ a. a.kind) info.attrs) c.args.infos.now c.loop-info.info-index c.info-item.result c.loop-info-test.true)

pub returns : goal.returns
returns c = c.loop-info.invariant ∙ ap kinds_in (take_all c.loop-info.info-index c.args.infos.now c.loop-info-test.false)
