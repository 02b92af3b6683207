use Rattle.std.proofs.Common.{◌≡◌, refl, sym, ap, ◌∙◌, true, false, nat_le, length}
use Rattle.calculus.specs.IsDatabase.{permit_attrs_stand}
use Rattle.tree_check.proofs.Parts.{stops, goes_on}
use Rattle.tree_check.proofs.Stood.{attrs_listed}
use Rattle.tree_check.proofs.views.listed_attrs_fit.Goals as goal

pub returns-then-not-branch-clause-known : goal.returns-then-not-branch-clause-known
returns-then-not-branch-clause-known g c = λ db h.
    let no : c.in_ok-attrs_are_places.field-0 ≡ false = cc (c.if-not-branch.true) in
    stops (permit_attrs_stand db c.args.rel.now c.args.permit.now.attrs) _ false
    (sym (c.in_ok-attrs_are_places.ensures.known db h ∙ attrs_listed db c.args.rel.now _ _ c.items-attrs.ensures) ∙ no) refl

pub returns-clause-known : goal.returns-clause-known
returns-clause-known g c = λ db h.
    let yes : c.in_ok-attrs_are_places.field-0 ≡ true = cc (c.if-not-branch.false) in
    goes_on (permit_attrs_stand db c.args.rel.now c.args.permit.now.attrs) _ _
    (sym (c.in_ok-attrs_are_places.ensures.known db h ∙ attrs_listed db c.args.rel.now _ _ c.items-attrs.ensures) ∙ yes)
    (ap (λ attrs. nat_le (length attrs) 65535) c.items-attrs.ensures)
