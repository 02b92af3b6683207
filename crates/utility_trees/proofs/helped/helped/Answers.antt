use Rattle.std.proofs.Common.{◌∙◌, sym, ap}
use Rattle.calculus.specs.declared.statement.Statement.TheVariants as statement
use Rattle.quel_meaning.specs.Naming.{name_refusal}
use Rattle.quel_meaning.specs.Resolved.{resolved}
use Rattle.quel_names.specs.Asking.{scope_of}
use Rattle.utility_trees.proofs.Resolving.{help_all_tree}
use Rattle.utility_trees.proofs.helped.helped.Goals as goal

pub returns-in_ok-helped_on_all-in-None-clause-known : goal.returns-in_ok-helped_on_all-in-None-clause-known
returns-in_ok-helped_on_all-in-None-clause-known g c = λ db ranges h names.
    ap (λ o. resolved db c.args.user.now ranges (statement.Help o)) c.in-None.is
    ∙ help_all_tree db c.args.user.now ranges c.in_ok-helped_on_all-in-None.field-0
    (ap (λ o. name_refusal (scope_of db c.args.user.now ranges) (statement.Help o)) (sym c.in-None.is) ∙ names)
    (c.in_ok-helped_on_all-in-None.ensures.known db ranges h)
