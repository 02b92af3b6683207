use Rattle.std.proofs.Common.{◌≤◌, ◌∷◌, ◌++◌, [], List, take, sym, ap, ◌∙◌, append_assoc, arith, ℕ}
use Rattle.std.proofs.lemmas.List.{take_all}
use Rattle.calculus.specs.declared.query.QTerm.TheVariants as qterm
use Rattle.calculus.specs.declared.query.Target.{Target}
use Rattle.calculus.specs.declared.schema.Attr.{Attr}
use Rattle.quel_meaning.specs.WrittenQuery.{attr_targets}
use Rattle.quel_resolve.proofs.Putting.{numbered_next}
use Rattle.quel_resolve.proofs.targets.push_attrs.Goals as goal

pub loop-place-preserved : goal.loop-place-preserved
loop-place-preserved c = λ few.
    let front : List Target = attr_targets c.args.var (take c.loop-place.place c.args.attrs.now) in
    let fits : c.loop-place.place ≤ 255 = omega arith in
    c.in_ok-push.ensures.behind ∙ ap (λ (ts : List Target). ts ++ c.in_ok-target.target ∷ []) (c.loop-place.invariant few)
    ∙ append_assoc c.args.targets.now.items front (c.in_ok-target.target ∷ [])
    ∙ ap (λ (ts : List Target). c.args.targets.now.items ++ ts)
    (ap (λ (t : Target). front ++ t ∷ []) (c.in_ok-target.ensures fits)
    ∙ sym (numbered_next (λ (p : ℕ × Attr). record { name = p.1.name; kind = p.1.kind; term = qterm.Attr c.args.var p.0 }) c.args.attrs.now c.loop-place.place c.index-attrs-place.result c.loop-place-test.true c.index-attrs-place.is))

pub returns : goal.returns
returns c = λ few.
    c.loop-place.invariant few ∙ ap (λ (attrs : List Attr). c.args.targets.now.items ++ attr_targets c.args.var attrs) (take_all c.loop-place.place c.args.attrs.now c.loop-place-test.false)
