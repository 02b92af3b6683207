use Rattle.std.proofs.Common.{◌≡◌, refl, sym, ◌∙◌, subst, Bool, true, false, map, vec_items}
use Rattle.std.specs.Prelude.{IfOk}
use Rattle.ovqp.proofs.Parts.{qual_is, targets_is}
use Rattle.tree_check.proofs.Fitted.{changes_fitted}
use Rattle.tree_check.proofs.Parts.{stops, goes_on}
use Rattle.tree_check.proofs.queries.changes_fit_over.Goals as goal

pub returns-then-not-branch-clause-known : goal.returns-then-not-branch-clause-known
returns-then-not-branch-clause-known g c = λ db h k.
    let kinds : c.are_kinds.result ≡ true = cc (c.if-not-are_kinds.false) in
    let no : c.in_ok-targets_compare.field-0 ≡ false = cc (c.if-not-branch.true) in
    goes_on _ _ false (sym c.are_kinds.ensures ∙ kinds) (stops _ _ false (sym (c.in_ok-targets_compare.ensures.known db h) ∙ no) refl)
    ∙ changes_fitted db c.args.q.now (map vec_items c.args.vars.now) c.items-targets.result.now _ (c.items-targets.ensures ∙ targets_is c.args.q.now) (qual_is c.args.q.now) k

pub returns-clause-known : goal.returns-clause-known
returns-clause-known g c = λ db h k.
    let kinds : c.are_kinds.result ≡ true = cc (c.if-not-are_kinds.false) in
    let yes : c.in_ok-targets_compare.field-0 ≡ true = cc (c.if-not-branch.false) in
    subst (λ (b : Bool). IfOk c.kinds_fit_in_query.result (λ fit. fit ≡ b))
    (goes_on _ _ _ (sym c.are_kinds.ensures ∙ kinds) (goes_on _ _ _ (sym (c.in_ok-targets_compare.ensures.known db h) ∙ yes) refl)
    ∙ changes_fitted db c.args.q.now (map vec_items c.args.vars.now) c.items-targets.result.now _ (c.items-targets.ensures ∙ targets_is c.args.q.now) (qual_is c.args.q.now) k)
    (c.kinds_fit_in_query.ensures.known db (c.in_ok-targets_compare.ensures.stays db h))
