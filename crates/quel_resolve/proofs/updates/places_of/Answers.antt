use Rattle.std.proofs.Common.{◌≤◌, length, sym, ap, ◌∙◌, subst, map, Some, ◌++◌, ◌∷◌, []}
use Rattle.std.specs.Option.{unwrap_or}
use Rattle.std.proofs.lemmas.List.{take_all, map_more}
use Rattle.quel_meaning.specs.Scope.{attr_place, place_found}
use Rattle.quel_resolve.proofs.updates.places_of.Goals as goal

pub loop-target-preserved : goal.loop-target-preserved
loop-target-preserved c = λ few.
    let place =
    c.attr_place.ensures (subst (λ attrs. length attrs ≤ 256) (sym c.items.ensures) few) ∙ ap (λ attrs. unwrap_or (attr_place attrs c.target-item.result.name) 0) c.items.ensures
    ∙ ap (λ t. place_found (Some c.args.info.now) t.name) c.target-item.is in
    c.in_ok-push.ensures.items ∙ (λ i. c.loop-target.invariant few i ++ place i ∷ [])
    ∙ sym (map_more (λ t. place_found (Some c.args.info.now) t.name) c.args.targets.now c.loop-target.target-index c.target-item.result c.loop-target-test.true)

pub returns : goal.returns
returns c = λ few.
    c.loop-target.invariant few ∙ ap (map (λ t. place_found (Some c.args.info.now) t.name)) (take_all c.loop-target.target-index c.args.targets.now c.loop-target-test.false)
