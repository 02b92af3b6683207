use Rattle.std.proofs.Common.{sym, ap, ◌∙◌, map, Some, ◌++◌, ◌∷◌, []}
use Rattle.std.proofs.lemmas.List.{take_all, map_more}
use Rattle.quel_meaning.specs.Scope.{place_found}
use Rattle.utility_trees.proofs.places.places_of.Goals as goal

pub loop-name-preserved : goal.loop-name-preserved
loop-name-preserved c = λ few.
    let place = c.place_of.ensures few ∙ ap (place_found (Some c.args.info.now)) c.name-item.is in
    c.in_ok-push.ensures.items ∙ (λ i. c.loop-name.invariant few i ++ place i ∷ [])
    ∙ sym (map_more (place_found (Some c.args.info.now)) c.args.names.now c.loop-name.name-index c.name-item.result c.loop-name-test.true)

pub returns : goal.returns
returns c = λ few.
    c.loop-name.invariant few ∙ ap (map (place_found (Some c.args.info.now))) (take_all c.loop-name.name-index c.args.names.now c.loop-name-test.false)
