use Rattle.std.proofs.Common.{◌≡◌, ap, ◌∙◌, subst, Bool, IfOk}
use Rattle.std.specs.List.{list_all}
use Rattle.quel_meaning.specs.FitQueries.{asked_fits, kept_alone}
use Rattle.tree_check.proofs.TreeForms.{of_answer, of_update, of_utility}
use Rattle.tree_check.proofs.tree.suits.Goals as goal

pub returns-in-Answer-clause-known : goal.returns-in-Answer-clause-known
returns-in-Answer-clause-known g c = λ db h.
    let arm = c.in-Answer in
    subst (λ (b : Bool). IfOk c.all_asked_fit.result (λ fit. fit ≡ b)) (ap (list_all (asked_fits (kept_alone db) db)) c.items.ensures ∙ of_answer db c.args.user.now c.args.tree.now arm.asked arm.is) (c.all_asked_fit.ensures.known db h)

pub returns-in-Update-clause-known : goal.returns-in-Update-clause-known
returns-in-Update-clause-known g c = λ db h.
    let arm = c.in-Update in
    subst (λ (b : Bool). IfOk c.update_fits.result (λ fit. fit ≡ b)) (of_update db c.args.user.now c.args.tree.now arm.u arm.is) (c.update_fits.ensures.known db h)

pub returns-in-Utility-clause-known : goal.returns-in-Utility-clause-known
returns-in-Utility-clause-known g c = λ db h.
    let arm = c.in-Utility in
    subst (λ (b : Bool). IfOk c.utility_fits.result (λ fit. fit ≡ b)) (of_utility db c.args.user.now c.args.tree.now arm.work arm.is) (c.utility_fits.ensures.known db h)
