use Rattle.std.proofs.Common.{◌≡◌, refl, ◌∙◌, subst, Bool, true, false, map}
use Rattle.std.specs.Prelude.{IfOk}
use Rattle.calculus.specs.IsDatabase.{attrs_stand}
use Rattle.calculus.specs.QueryParts.{targets_of}
use Rattle.quel_meaning.specs.Planned.{target_attr}
use Rattle.tree_check.proofs.Parts.{stops, goes_on}
use Rattle.tree_check.proofs.UtilityForms.{viewed}
use Rattle.tree_check.proofs.views.view_fits.Goals as goal

pub returns-then-not-branch-clause-known : goal.returns-then-not-branch-clause-known
returns-then-not-branch-clause-known g c = λ db h.
    let no : attrs_stand (map target_attr (targets_of c.args.q.now)) ≡ false = cc (c.in_ok-target_attrs_stand.ensures, c.if-not-branch.true) in
    stops _ _ false no refl ∙ viewed db c.args.q.now c.query_is_spelled.ensures

pub returns-clause-known : goal.returns-clause-known
returns-clause-known g c = λ db h.
    let yes : attrs_stand (map target_attr (targets_of c.args.q.now)) ≡ true = cc (c.in_ok-target_attrs_stand.ensures, c.if-not-branch.false) in
    subst (λ (b : Bool). IfOk c.view_query_is_fit.result (λ fit. fit ≡ b)) (goes_on _ _ _ yes refl ∙ viewed db c.args.q.now c.query_is_spelled.ensures)
    (c.view_query_is_fit.ensures.known db h)
