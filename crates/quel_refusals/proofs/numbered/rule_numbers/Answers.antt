use Rattle.std.proofs.Common.{sym, ap, ◌∙◌, map, ◌++◌, ◌∷◌, []}
use Rattle.std.proofs.lemmas.List.{take_all, map_more}
use Rattle.quel_refusals.proofs.numbered.rule_numbers.Goals as goal

pub loop-rule-preserved : goal.loop-rule-preserved
loop-rule-preserved c =
    c.in_ok-push.ensures.items ∙ (λ i. c.loop-rule.invariant i ++ (c.rule-item.is i).number ∷ [])
    ∙ sym (map_more (λ r. r.number) c.args.rules.now c.loop-rule.rule-index c.rule-item.result c.loop-rule-test.true)

pub returns : goal.returns
returns c = c.loop-rule.invariant ∙ ap (map (λ r. r.number)) (take_all c.loop-rule.rule-index c.args.rules.now c.loop-rule-test.false)
