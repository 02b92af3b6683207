use Rattle.std.proofs.Common.{sym, ap, ◌∙◌, map, ◌++◌, ◌∷◌, []}
use Rattle.std.proofs.lemmas.List.{take_all, map_more, map_push}
use Rattle.utility_trees.proofs.repeated.push_columns.Goals as goal

pub loop-name-preserved : goal.loop-name-preserved
loop-name-preserved c =
    ap (map (λ n. n.now)) c.in_ok-push.ensures.items ∙ map_push (λ n. n.now) _ _ ∙ (λ i. c.loop-name.invariant i ++ (c.loop-name-item.is i).0 ∷ [])
    ∙ sym (map_more (λ t. t.0) c.args.columns.now c.loop-name.name-index c.loop-name-item.result c.loop-name-test.true)

pub returns : goal.returns
returns c = c.loop-name.invariant ∙ ap (map (λ t. t.0)) (take_all c.loop-name.name-index c.args.columns.now c.loop-name-test.false)
