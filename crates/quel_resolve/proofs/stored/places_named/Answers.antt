use Rattle.std.proofs.Common.{◌≤◌, length, sym, ap, ◌∙◌, subst, map, Some, ◌++◌, ◌∷◌, []}
use Rattle.std.specs.Option.{unwrap_or}
use Rattle.std.proofs.lemmas.List.{take_all, map_more}
use Rattle.quel_meaning.specs.Scope.{attr_place, place_found}
use Rattle.quel_resolve.proofs.stored.places_named.Goals as goal

pub loop-name-preserved : goal.loop-name-preserved
loop-name-preserved c = λ few.
    let place =
    c.attr_place.ensures (subst (λ attrs. length attrs ≤ 256) (sym c.items.ensures) few) ∙ ap (λ attrs. unwrap_or (attr_place attrs c.name-item.result) 0) c.items.ensures
    ∙ ap (place_found (Some c.args.info.now)) c.name-item.is in
    c.in_ok-push.ensures.items ∙ (λ i. c.loop-name.invariant few i ++ place i ∷ [])
    ∙ sym (map_more (place_found (Some c.args.info.now)) c.args.names.now c.loop-name.name-index c.name-item.result c.loop-name-test.true)

pub returns : goal.returns
returns c = λ few.
    c.loop-name.invariant few ∙ ap (map (place_found (Some c.args.info.now))) (take_all c.loop-name.name-index c.args.names.now c.loop-name-test.false)
