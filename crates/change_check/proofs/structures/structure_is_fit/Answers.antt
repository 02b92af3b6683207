use Rattle.std.proofs.Common.{refl, sym, ap, ◌∙◌, false, List}
use Rattle.calculus.specs.declared.schema.Attr.{Attr}
use Rattle.calculus.specs.Database.{is_relation}
use Rattle.calculus.specs.IsDatabase.{valid_structure}
use Rattle.change_laws.specs.Fit.{structure_is_fit}
use Rattle.change_check.proofs.Kept.{none_there, one_there, attrs_there}
use Rattle.change_check.proofs.Parts.{stops, goes_on}
use Rattle.change_check.proofs.structures.structure_is_fit.Goals as goal

pub returns-in-None-clause-known : goal.returns-in-None-clause-known
unfolding structure_is_fit
returns-in-None-clause-known g c = λ db e.
    stops (is_relation db c.args.rel.now) _ false (none_there db c.args.rel.now _ (c.in_ok-info.ensures.known db e) c.in-None.is) refl

pub returns-in-Some-clause-known : goal.returns-in-Some-clause-known
unfolding structure_is_fit
returns-in-Some-clause-known g c = λ db e.
    let there = one_there db c.args.rel.now _ _ (c.in_ok-info.ensures.known db e) c.in-Some.is in
    let attrs = attrs_there db c.args.rel.now _ _ (c.in_ok-info.ensures.known db e) c.in-Some.is in
    goes_on (is_relation db c.args.rel.now) _ _ there
    (c.valid_structure.ensures c.args.rel.now
    ∙ ap (λ (attrs : List Attr). valid_structure (record { key = c.args.rel.now; spec = c.args.to; attrs = attrs; keys = c.args.keys.now })) (c.items.ensures ∙ sym attrs))
