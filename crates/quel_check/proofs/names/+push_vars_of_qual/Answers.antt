use Rattle.std.proofs.Common.{◌++◌, sym, ap, ◌∙◌, map}
use Rattle.quel_meaning.specs.WrittenParts.{outer_vars_in_qual}
use Rattle.quel_check.proofs.VarForms.{quals_pair, behind}
use Rattle.quel_check.proofs.names.+push_vars_of_qual.Goals as goal

pub returns-in_ok-push_vars_of_qual-in-And-2 : goal.returns-in_ok-push_vars_of_qual-in-And-2
returns-in_ok-push_vars_of_qual-in-And-2 t c =
    behind _ _ _ _ _ c.in_ok-push_vars_of_qual-in-And.ensures c.in_ok-push_vars_of_qual-in-And-2.ensures
    ∙ ap (λ vs. map (λ n. n.now) c.args.names.now.items ++ vs) ((λ i. outer_vars_in_qual (c.get-in-And.ensures i) ++ outer_vars_in_qual (c.get-in-And-2.ensures i)) ∙ sym (quals_pair c.args.q.now c.in-And.left c.in-And.right c.in-And.is))
