use Rattle.std.proofs.Common.{refl, sym, ◌∙◌, false}
use Rattle.calculus.specs.Database.{is_relation}
use Rattle.change_laws.specs.Fit.{index_is_fit}
use Rattle.change_check.proofs.Kept.{none_there, one_there, attrs_there}
use Rattle.change_check.proofs.Parts.{stops}
use Rattle.change_check.proofs.indexes.index_is_fit.Goals as goal

pub returns-in-None-clause-known : goal.returns-in-None-clause-known
unfolding index_is_fit
returns-in-None-clause-known g c = λ db e.
    stops (is_relation db c.args.rel.now) _ false (none_there db c.args.rel.now _ (c.in_ok-info.ensures.known db e) c.in-None.is) refl

pub returns-in-Some-clause-known : goal.returns-in-Some-clause-known
returns-in-Some-clause-known g c = λ db e.
    let there = one_there db c.args.rel.now _ _ (c.in_ok-info.ensures.known db e) c.in-Some.is in
    let attrs = attrs_there db c.args.rel.now _ _ (c.in_ok-info.ensures.known db e) c.in-Some.is in
    c.index_has_parts.ensures.known db (c.relation.ensures.stays db e) there (attrs ∙ sym c.items.ensures)
