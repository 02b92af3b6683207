use Rattle.std.proofs.Common.{ap, ◌∙◌}
use Rattle.std.specs.List.{slice_get}
use Rattle.calculus.specs.declared.query.QTerm.TheVariants as qterm
use Rattle.quel_check.proofs.Found.{at_place}
use Rattle.quel_meaning.specs.Scope.{ranged, place_found}
use Rattle.quel_check.proofs.trees.dotted_tree.Goals as goal

pub returns : goal.returns
returns c = λ s k h.
    let place = c.var_place-place.ensures k.few_vars in
    let stands = ap (slice_get c.args.infos.now) place ∙ at_place (ranged s) c.args.vars.now c.args.infos.now c.args.var.now k.over h in
    let attr = c.attr_place_at-attr.ensures k.few_attrs ∙ ap (λ info. place_found info c.args.attr.now) stands in
    λ i. qterm.Attr (place i) (attr i)
