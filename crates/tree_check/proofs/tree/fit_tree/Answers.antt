use Rattle.std.proofs.Common.{◌≡◌, sym, ◌∙◌, subst, Bool, true, false, IfOk}
use Rattle.change_check.proofs.BySchema.{known_before}
use Rattle.tree_check.proofs.TreeForms.{spelled, unfit}
use Rattle.tree_check.proofs.tree.fit_tree.Goals as goal

pub returns-then-not-names_rights-clause-known : goal.returns-then-not-names_rights-clause-known
returns-then-not-names_rights-clause-known g c = λ db h.
    let no : c.names_rights.result ≡ false = cc (c.if-not-names_rights.true) in
    unfit db c.args.user.now c.args.c.now (sym c.names_rights.ensures ∙ no)

pub returns-then-not-names_rights-clause-by_schema : goal.returns-then-not-names_rights-clause-by_schema
returns-then-not-names_rights-clause-by_schema g c = λ fixes s h.
    let no : c.names_rights.result ≡ false = cc (c.if-not-names_rights.true) in
    unfit s c.args.user.now c.args.c.now (sym c.names_rights.ensures ∙ no)

pub returns-clause-known : goal.returns-clause-known
returns-clause-known g c = λ db h.
    let yes : c.names_rights.result ≡ true = cc (c.if-not-names_rights.false) in
    subst (λ (b : Bool). IfOk c.suits.result (λ fit. fit ≡ b)) (spelled db c.args.user.now c.args.c.now (c.tree_is_spelled.ensures (sym c.names_rights.ensures ∙ yes)))
    (c.suits.ensures.known db (c.in_ok-_entries.ensures.stays db h))

pub returns-clause-by_schema : goal.returns-clause-by_schema
returns-clause-by_schema g c = λ fixes s h.
    let yes : c.names_rights.result ≡ true = cc (c.if-not-names_rights.false) in
    subst (λ (b : Bool). IfOk c.suits.result (λ fit. fit ≡ b)) (spelled s c.args.user.now c.args.c.now (c.tree_is_spelled.ensures (sym c.names_rights.ensures ∙ yes)))
    (c.suits.ensures.known s (known_before _ _ (c.in_ok-_entries.ensures.fixed fixes) c.suits.ensures.stays s h))
