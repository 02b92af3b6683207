use Rattle.std.proofs.Common.{◌≡◌, refl, ◌∙◌, true, false}
use Rattle.calculus.specs.IsDatabase.{valid_structure, attrs_stand, are_stored}
use Rattle.change_laws.specs.Fit.{relation_is_fit, key_is_free}
use Rattle.change_check.proofs.Parts.{stops, goes_on, regrouped}
use Rattle.change_check.proofs.relations.relation_is_fit.Goals as goal

pub returns-then-not-branch-clause-known : goal.returns-then-not-branch-clause-known
unfolding relation_is_fit
returns-then-not-branch-clause-known g c = λ db e.
    let taken : key_is_free db c.args.info.now.key ≡ false = cc (c.in_ok-key_is_free.ensures.known db e, c.if-not-branch.true) in
    stops (key_is_free db c.args.info.now.key) _ false taken refl

pub returns-clause-known : goal.returns-clause-known
unfolding relation_is_fit
returns-clause-known g c = λ db e.
    let info = c.args.info.now in
    let free : key_is_free db info.key ≡ true = cc (c.in_ok-key_is_free.ensures.known db e, c.if-not-branch.false) in
    goes_on (key_is_free db info.key) _ _ free (c.in_ok-stands.ensures ∙ regrouped (valid_structure info) (attrs_stand info.attrs) (are_stored info.attrs) _)
