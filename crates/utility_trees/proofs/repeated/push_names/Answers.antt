use Rattle.std.proofs.Common.{sym, ap, ◌∙◌, map, ◌++◌, ◌∷◌, []}
use Rattle.std.proofs.lemmas.List.{take_all, take_more, map_push}
use Rattle.utility_trees.proofs.repeated.push_names.Goals as goal

pub loop-name-preserved : goal.loop-name-preserved
loop-name-preserved c =
    ap (map (λ n. n.now)) c.in_ok-push.ensures.items ∙ map_push (λ n. n.now) _ _ ∙ (λ i. c.loop-name.invariant i ++ c.name-item.is i ∷ [])
    ∙ sym (take_more c.args.more.now c.loop-name.name-index c.name-item.result c.loop-name-test.true)

pub returns : goal.returns
returns c = c.loop-name.invariant ∙ take_all c.loop-name.name-index c.args.more.now c.loop-name-test.false
