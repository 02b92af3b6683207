use Rattle.std.proofs.Common.{◌≡◌, refl, ◌∙◌, subst, Bool, true}
use Rattle.std.specs.Prelude.{IfOk}
use Rattle.quel_meaning.specs.FitQueries.{can_be_ranged_over}
use Rattle.tree_check.proofs.Parts.{goes_on}
use Rattle.tree_check.proofs.UtilityForms.{stored}
use Rattle.tree_check.proofs.views.row_qual_fits.Goals as goal

pub returns-clause-known : goal.returns-clause-known
returns-clause-known g c = λ db h.
    let yes : can_be_ranged_over db c.args.rel.now ≡ true = cc (c.in_ok-can_be_ranged_over.ensures.known db h, c.if-not-branch.false) in
    subst (λ (b : Bool). IfOk c.row_qual_is_fit.result (λ fit. fit ≡ b)) (goes_on _ _ _ yes refl ∙ stored db c.args.rel.now c.args.qual.now c.qual_is_spelled.ensures)
    (c.row_qual_is_fit.ensures.known db (c.in_ok-can_be_ranged_over.ensures.stays db h))
