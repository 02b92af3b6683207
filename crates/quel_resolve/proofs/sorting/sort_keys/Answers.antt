use Rattle.std.proofs.Common.{sym, ap, ◌∙◌, map, ◌++◌, ◌∷◌, []}
use Rattle.std.proofs.lemmas.List.{take_all, map_more}
use Rattle.quel_meaning.specs.Resolved.{sort_key}
use Rattle.quel_resolve.proofs.sorting.sort_keys.Goals as goal

pub loop-title-preserved : goal.loop-title-preserved
loop-title-preserved c = λ few.
    c.in_ok-push.ensures.items ∙ (λ i. c.loop-title.invariant few i ++ (c.sort_key.ensures few ∙ ap (sort_key c.args.targets.now) c.loop-title-item.is) i ∷ [])
    ∙ sym (map_more (sort_key c.args.targets.now) c.args.sort.now c.loop-title.title-index c.loop-title-item.result c.loop-title-test.true)

pub returns : goal.returns
returns c = λ few. c.loop-title.invariant few ∙ ap (map (sort_key c.args.targets.now)) (take_all c.loop-title.title-index c.args.sort.now c.loop-title-test.false)
