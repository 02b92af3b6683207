use Rattle.std.proofs.Common.{Some, map, ap, sym, ◌∙◌, []}
use Rattle.std.proofs.lemmas.Result.{IfOk-at_ok}
use Rattle.calculus.specs.declared.query.QQual.{True}
use Rattle.calculus.specs.declared.query.Target.{Target}
use Rattle.quel_meaning.specs.Scope.{place_found}
use Rattle.quel_resolve.proofs.Updating.{targets_is, map_both}
use Rattle.quel_resolve.proofs.updates.changing.Goals as goal

pub returns : goal.returns
returns c = λ few.
    let parts = c.in_ok-rel.ensures.0 in
    let rel = IfOk-at_ok _ (IfOk-at_ok _ parts c.both-parts.ensures.first) c.copy.ensures in
    let found = IfOk-at_ok _ (IfOk-at_ok _ parts c.both-parts.ensures.second) c.places_of-places.ensures in
    let places = found few ∙ ap (map (λ (t : Target). place_found (Some c.args.info.now) t.name)) (c.items.ensures ∙ targets_is c.args.q)
    ∙ map_both (place_found (Some c.args.info.now)) (λ (t : Target). t.name) _ in
    c.update.ensures ∙ (λ i. record { op = c.args.op; rel = rel i; old = c.args.old; places = places i; query = sym c.in_ok-rel.ensures.1 i; checks = []; new_cut = True })
