use Rattle.std.proofs.Common.{◌++◌, sym, ap, ◌∙◌, map, flat_map, take, get_or, append_assoc, []}
use Rattle.std.proofs.lemmas.List.{take_all, take_more, flat_map_more}
use Rattle.calculus.specs.QueryParts.{term_aggregates}
use Rattle.ovqp.proofs.aggregates.push_targets.Goals as goal

pub loop-target-preserved : goal.loop-target-preserved
loop-target-preserved c =
    c.in_ok-push_term.ensures ∙ (λ i. c.loop-target.invariant i ++ term_aggregates (c.target-item.is i).term)
    ∙ append_assoc (map (λ g. g.now) c.args.found.now.items) (flat_map (λ t. term_aggregates t.term) (take c.loop-target.target-index c.args.targets.now)) (term_aggregates (get_or c.args.targets.now c.loop-target.target-index c.target-item.result).term)
    ∙ ap (λ ys. map (λ g. g.now) c.args.found.now.items ++ ys)
    (flat_map_more (λ t. term_aggregates t.term) [] (take c.loop-target.target-index c.args.targets.now) (get_or c.args.targets.now c.loop-target.target-index c.target-item.result)
    ∙ ap (flat_map (λ t. term_aggregates t.term)) (sym (take_more c.args.targets.now c.loop-target.target-index c.target-item.result c.loop-target-test.true)))

pub returns : goal.returns
returns c = c.loop-target.invariant ∙ ap (λ ys. map (λ g. g.now) c.args.found.now.items ++ flat_map (λ t. term_aggregates t.term) ys) (take_all c.loop-target.target-index c.args.targets.now c.loop-target-test.false)
