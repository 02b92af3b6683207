use Rattle.std.proofs.Common.{sym, ap, ◌∙◌, ◌-◌, ◌^◌, min, map, ◌++◌, ◌∷◌, []}
use Rattle.std.proofs.lemmas.List.{take_all, map_more}
use Rattle.calculus.specs.Sizes.{term_size}
use Rattle.view_sizes.specs.Measured.{held}
use Rattle.view_sizes.proofs.measures.target_sizes.Goals as goal

pub loop-target-preserved : goal.loop-target-preserved
loop-target-preserved c =
    c.in_ok-push.ensures.items
    ∙ (λ i. c.loop-target.invariant i ++ (c.term_size.ensures ∙ ap (λ t. min (term_size (map held c.args.vars.now) t.term) (2 ^ 64 - 1)) c.target-item.is) i ∷ [])
    ∙ sym (map_more (λ t. min (term_size (map held c.args.vars.now) t.term) (2 ^ 64 - 1)) c.args.targets.now c.loop-target.target-index c.target-item.result c.loop-target-test.true)

pub returns : goal.returns
returns c = c.loop-target.invariant ∙ ap (map (λ t. min (term_size (map held c.args.vars.now) t.term) (2 ^ 64 - 1))) (take_all c.loop-target.target-index c.args.targets.now c.loop-target-test.false)
