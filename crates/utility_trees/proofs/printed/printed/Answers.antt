use Rattle.std.proofs.Common.{◌∙◌}
use Rattle.calculus.specs.declared.statement.Statement.TheVariants as statement
use Rattle.quel_names.specs.Asking.{scope_of}
use Rattle.utility_trees.proofs.Resolving.{print_there, print_tree}
use Rattle.utility_trees.proofs.Saying.{none_lost}
use Rattle.utility_trees.proofs.printed.printed.Goals as goal

pub returns-in-Err-clause-known : goal.returns-in-Err-clause-known
returns-in-Err-clause-known g c = λ db ranges h names.
    none_lost db c.args.user.now c.args.names.now (scope_of db c.args.user.now ranges) (statement.Print c.args.names.now)
    (print_there db c.args.user.now ranges c.args.names.now names) c.in-Err.fault (c.in-Err.ensures.known db h)

pub returns-in-Ok-clause-known : goal.returns-in-Ok-clause-known
returns-in-Ok-clause-known g c = λ db ranges h names.
    print_tree db c.args.user.now ranges c.args.names.now c.of.result names (c.of.ensures ∙ c.in-Ok.ensures.known db h)
