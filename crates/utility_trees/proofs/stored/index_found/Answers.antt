use Rattle.calculus.specs.declared.statement.Statement.TheVariants as statement
use Rattle.quel_names.specs.Asking.{scope_of}
use Rattle.utility_trees.proofs.Resolving.{index_there, index_tree}
use Rattle.utility_trees.proofs.Saying.{not_lost}
use Rattle.utility_trees.proofs.stored.index_found.Goals as goal

pub returns-in-Err-clause-known : goal.returns-in-Err-clause-known
returns-in-Err-clause-known g c = λ db ranges h names none.
    not_lost db c.args.user.now c.args.rel.now (scope_of db c.args.user.now ranges) (statement.Index c.args.rel.now c.args.name.now c.args.keys.now)
    (index_there db c.args.user.now ranges c.args.rel.now c.args.name.now c.args.keys.now names) c.in-Err.fault (c.in-Err.ensures.known db h)

pub returns-in_ok-tree-in-Ok-clause-known : goal.returns-in_ok-tree-in-Ok-clause-known
returns-in_ok-tree-in-Ok-clause-known g c = λ db ranges h names none.
    let info = c.in-Ok.ensures.known db h in
    index_tree db c.args.user.now ranges c.args.rel.now c.args.name.now c.args.keys.now c.in-Ok.info c.in_ok-tree-in-Ok.field-0 names none info.0 (c.in_ok-tree-in-Ok.ensures info.1)
