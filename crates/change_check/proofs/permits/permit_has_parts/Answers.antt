use Rattle.std.proofs.Common.{◌≡◌, ◌∙◌, sym, subst, true, Bool}
use Rattle.std.specs.Prelude.{IfOk}
use Rattle.change_check.proofs.Parts.{passed}
use Rattle.change_check.proofs.permits.permit_has_parts.Goals as goal

pub returns-clause-known : goal.returns-clause-known
returns-clause-known g c = λ db h.
    let said : c.is_said_well.result ≡ true = cc (c.if-not-is_said_well.false) in
    let own : c.in_ok-is_administrators_relation.field-0 ≡ true = cc (c.if-not-branch.false) in
    subst (λ (b : Bool). IfOk c.valid_permit.result (λ fit. fit ≡ b))
    (passed _ _ _ (sym c.is_said_well.ensures ∙ said) (sym (c.in_ok-is_administrators_relation.ensures.known db h) ∙ own))
    (c.valid_permit.ensures.known db (c.in_ok-is_administrators_relation.ensures.stays db h))
