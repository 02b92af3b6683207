use Rattle.std.proofs.Common.{◌≡◌, sym, ap, ◌∙◌, subst, true, IfOk, OnOk}
use Rattle.calculus.specs.declared.request.Checked.TheVariants as checked
use Rattle.calculus.specs.Who.{as_user}
use Rattle.cut_rules.proofs.Causing.{caused_so, failed_so}
use Rattle.cut_rules.proofs.Fitting.{answer_fits, change_fits}
use Rattle.cut_rules.proofs.Trees.{answer_put, update_put, utility_put, answer_permitted, change_permitted_is, utility_permitted, answer_refused, update_refused}
use Rattle.cut_rules.proofs.cutting.expanded_tree.Goals as goal

pub asked_tree-requires-clause-fit : goal.asked_tree-requires-clause-fit
asked_tree-requires-clause-fit g c = λ db h. answer_fits db c.args.user.now c.args.tree.now c.items.result.now (c.requires.fit db h) (c.in-Answer.is ∙ ap checked.Answer (sym c.items.ensures))

pub expanded_update-requires-clause-fit : goal.expanded_update-requires-clause-fit
expanded_update-requires-clause-fit g c = λ db h. change_fits db c.args.user.now c.args.tree.now c.in-Update.u (c.requires.fit db h) c.in-Update.is

pub returns-in-Answer-clause-known : goal.returns-in-Answer-clause-known
returns-in-Answer-clause-known g c = λ db h.
    let is = c.in-Answer.is ∙ ap checked.Answer (sym c.items.ensures) in
    subst (λ x. IfOk c.asked_tree.result (λ made. made ≡ x)) (answer_put db (as_user c.args.user.now) c.args.tree.now c.items.result.now is) (c.asked_tree.ensures.known db h)

pub returns-in-Answer-clause-permitted : goal.returns-in-Answer-clause-permitted
returns-in-Answer-clause-permitted g c = λ db h.
    let is = c.in-Answer.is ∙ ap checked.Answer (sym c.items.ensures) in
    subst (λ b. OnOk c.asked_tree.result (b ≡ true)) (answer_permitted db (as_user c.args.user.now) c.args.tree.now c.items.result.now is) (c.asked_tree.ensures.permitted db h)

pub returns-in-Answer-clause-cause : goal.returns-in-Answer-clause-cause
returns-in-Answer-clause-cause g c =
    caused_so _ _ _ _ _ _ c.asked_tree.ensures.cause
    (λ db h var r. answer_refused db (as_user c.args.user.now) c.args.tree.now c.items.result.now var (c.in-Answer.is ∙ ap checked.Answer (sym c.items.ensures)) r)

pub returns-in-Ok-clause-known : goal.returns-in-Ok-clause-known
returns-in-Ok-clause-known g c = λ db h.
    update_put db (as_user c.args.user.now) c.args.tree.now c.in-Update.u c.in-Ok.u c.in-Update.is (c.in-Ok.ensures.known db h)

pub returns-in-Ok-clause-permitted : goal.returns-in-Ok-clause-permitted
returns-in-Ok-clause-permitted g c = λ db h. sym (change_permitted_is db (as_user c.args.user.now) c.args.tree.now c.in-Update.u c.in-Update.is) ∙ c.in-Ok.ensures.permitted db h

pub returns-in-Err-clause-cause : goal.returns-in-Err-clause-cause
returns-in-Err-clause-cause g c =
    failed_so _ _ _ _ _ _ c.in-Err.ensures.cause (λ db h var r. update_refused db (as_user c.args.user.now) c.args.tree.now c.in-Update.u var c.in-Update.is r)

pub returns-in-Ok-copy-clause-known : goal.returns-in-Ok-copy-clause-known
returns-in-Ok-copy-clause-known g c = λ db h. utility_put db (as_user c.args.user.now) c.args.tree.now c.in-Utility.work c.in-Ok-copy.work c.in-Utility.is c.in-Ok-copy.ensures

pub returns-in-Ok-copy-clause-permitted : goal.returns-in-Ok-copy-clause-permitted
returns-in-Ok-copy-clause-permitted g c = λ db h. utility_permitted db (as_user c.args.user.now) c.args.tree.now c.in-Utility.work c.in-Utility.is
