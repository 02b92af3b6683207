use Rattle.std.proofs.Common.{◌≤◌, ◌∷◌, ◌++◌, [], List, sym, ap, ◌∙◌, arith, ℕ}
use Rattle.std.proofs.lemmas.List.{take_all}
use Rattle.calculus.specs.declared.query.QTerm.TheVariants as qterm
use Rattle.calculus.specs.declared.schema.Attr.{Attr}
use Rattle.quel_meaning.specs.WrittenQuery.{attr_targets}
use Rattle.utility_trees.proofs.Asking.{numbered_next}
use Rattle.utility_trees.proofs.asked.targets_of.Goals as goal

pub loop-place-preserved : goal.loop-place-preserved
loop-place-preserved c = λ few.
    let fits : c.loop-place.place ≤ 255 = omega arith in
    c.in_ok-push.ensures.behind ∙ (λ i. c.loop-place.invariant few i ++ c.in_ok-target.ensures fits i ∷ [])
    ∙ sym (numbered_next (λ (p : ℕ × Attr). record { name = p.1.name; kind = p.1.kind; term = qterm.Attr 0 p.0 }) c.args.attrs.now c.loop-place.place c.index-attrs-place.result c.loop-place-test.true c.index-attrs-place.is)

pub returns : goal.returns
returns c = λ few. c.loop-place.invariant few ∙ ap (λ (attrs : List Attr). attr_targets 0 attrs) (take_all c.loop-place.place c.args.attrs.now c.loop-place-test.false)
