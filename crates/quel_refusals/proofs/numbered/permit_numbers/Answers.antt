use Rattle.std.proofs.Common.{sym, ap, ◌∙◌, map, ◌++◌, ◌∷◌, []}
use Rattle.std.proofs.lemmas.List.{take_all, map_more}
use Rattle.quel_refusals.proofs.numbered.permit_numbers.Goals as goal

pub loop-permit-preserved : goal.loop-permit-preserved
loop-permit-preserved c =
    c.in_ok-push.ensures.items ∙ (λ i. c.loop-permit.invariant i ++ (c.permit-item.is i).number ∷ [])
    ∙ sym (map_more (λ p. p.number) c.args.permits.now c.loop-permit.permit-index c.permit-item.result c.loop-permit-test.true)

pub returns : goal.returns
returns c = c.loop-permit.invariant ∙ ap (map (λ p. p.number)) (take_all c.loop-permit.permit-index c.args.permits.now c.loop-permit-test.false)
