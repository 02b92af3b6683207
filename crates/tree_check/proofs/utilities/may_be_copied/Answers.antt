use Rattle.std.proofs.Common.{◌∙◌, ap}
use Rattle.tree_check.specs.Columned.{columns_are_fit}
use Rattle.tree_check.proofs.Stood.{copied}
use Rattle.tree_check.proofs.utilities.may_be_copied.Goals as goal

pub returns-in-Some-clause-known : goal.returns-in-Some-clause-known
returns-in-Some-clause-known g c = λ db h.
    c.columns_fit.ensures ∙ ap (λ attrs. columns_are_fit attrs c.args.columns.now) c.items.ensures
    ∙ copied db c.args.rel.now c.args.columns.now _ _ (c.in_ok-info.ensures.known db h) c.in-Some.is
