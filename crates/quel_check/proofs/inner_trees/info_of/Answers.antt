use Rattle.std.proofs.Common.{rules, ◌≡◌, ◌∷◌, [], ap, ◌∙◌}
use Rattle.std.specs.List.{slice_get}
use Rattle.quel_check.specs.Known.{front}
use Rattle.quel_check.proofs.Found.{at_place}
use Rattle.quel_check.proofs.InnerTrees.{first_is}
use Rattle.quel_meaning.specs.Scope.{ranged}
use Rattle.quel_check.proofs.inner_trees.info_of.Goals as goal

pub returns-in-Some-clause-over : goal.returns-in-Some-clause-over
returns-in-Some-clause-over c = λ s k one.
    let is : front c.args.vars.now ≡ c.in-Some.var.now ∷ [] = search rules in
    let first = first_is c.args.known.inner_vars.now c.args.vars.now c.in-Some.var.now is one in
    c.info_at.ensures.at ∙ ap (slice_get c.args.known.inner_infos.now) (c.var_place.ensures k.few_vars)
    ∙ at_place (ranged s) c.args.known.inner_vars.now c.args.known.inner_infos.now c.in-Some.var.now k.over first.0 ∙ ap (ranged s) first.1
