use Rattle.std.proofs.Common.{Some}
use Rattle.calculus.specs.declared.statement.Statement.TheVariants as statement
use Rattle.quel_names.specs.Asking.{scope_of}
use Rattle.utility_trees.proofs.Resolving.{help_there, help_tree}
use Rattle.utility_trees.proofs.Saying.{not_lost}
use Rattle.utility_trees.proofs.helped.helped_on_name.Goals as goal

pub returns-in-Err-clause-known : goal.returns-in-Err-clause-known
returns-in-Err-clause-known g c = λ db ranges h names.
    not_lost db c.args.user.now c.args.name.now (scope_of db c.args.user.now ranges) (statement.Help (Some c.args.name.now))
    (help_there db c.args.user.now ranges c.args.name.now names) c.in-Err.fault (c.in-Err.ensures.known db h)

pub returns-in_ok-tree-in-Ok-clause-known : goal.returns-in_ok-tree-in-Ok-clause-known
returns-in_ok-tree-in-Ok-clause-known g c = λ db ranges h names.
    help_tree db c.args.user.now ranges c.args.name.now c.in-Ok.info c.in_ok-tree-in-Ok.field-0 names (c.in-Ok.ensures.known db h).0
    (c.in_ok-tree-in-Ok.ensures.known (scope_of db c.args.user.now ranges) (c.in-Ok.ensures.stays _ h))
