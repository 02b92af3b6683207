use Rattle.std.proofs.Common.{◌≤◌, ◌++◌, ◌∷◌, [], ℕ, List, sym, ap, ◌∙◌, map, arith}
use Rattle.std.specs.List.{enumerate_from}
use Rattle.std.proofs.lemmas.List.{take_all}
use Rattle.quel_resolve.proofs.Updating.{numbers_next}
use Rattle.quel_resolve.proofs.updates.places_in_order.Goals as goal

pub loop-place-preserved : goal.loop-place-preserved
loop-place-preserved c = λ few.
    let fits : c.loop-place.place ≤ 255 = omega arith in
    c.in_ok-push.ensures.items ∙ ap (λ (n : ℕ). c.loop-place.places.items ++ n ∷ []) (c.byte.ensures fits)
    ∙ ap (λ (ns : List ℕ). ns ++ c.loop-place.place ∷ []) (c.loop-place.invariant few)
    ∙ sym (numbers_next c.args.targets.now c.loop-place.place c.loop-place-test.true)

pub returns : goal.returns
returns c = λ few.
    c.loop-place.invariant few ∙ ap (λ ts. map (λ p. p.0) (enumerate_from 0 ts)) (take_all c.loop-place.place c.args.targets.now c.loop-place-test.false)
