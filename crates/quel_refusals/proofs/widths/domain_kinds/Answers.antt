use Rattle.std.proofs.Common.{sym, ap, ◌∙◌, map, ◌++◌, ◌∷◌, []}
use Rattle.std.proofs.lemmas.List.{take_all, map_more}
use Rattle.calculus.specs.declared.value.Kind.TheVariants.{Of}
use Rattle.quel_refusals.proofs.widths.domain_kinds.Goals as goal

pub loop-domain-preserved : goal.loop-domain-preserved
loop-domain-preserved c =
    c.in_ok-push.ensures.items ∙ (λ i. c.loop-domain.invariant i ++ Of (c.loop-domain-item.is i).1 ∷ [])
    ∙ sym (map_more (λ a. Of a.1) c.args.attrs.now c.loop-domain.domain-index c.loop-domain-item.result c.loop-domain-test.true)

pub returns : goal.returns
returns c = c.loop-domain.invariant ∙ ap (map (λ a. Of a.1)) (take_all c.loop-domain.domain-index c.args.attrs.now c.loop-domain-test.false)
