use Rattle.std.proofs.Common.{◌∙◌, sym}
use Rattle.calculus.specs.declared.statement.Statement.TheVariants as statement
use Rattle.quel_names.specs.Asking.{scope_of}
use Rattle.utility_trees.proofs.Resolving.{modify_number, modify_there, modify_tree}
use Rattle.utility_trees.proofs.Saying.{not_lost}
use Rattle.utility_trees.proofs.stored.modified.Goals as goal

pub returns-then-branch-clause-known : goal.returns-then-branch-clause-known
returns-then-branch-clause-known g c = λ db ranges h names.
    modify_number db c.args.user.now ranges c.args.rel.now c.args.to c.args.keys.now names (sym c.in_ok-names_repeat.ensures ∙ c.if-branch.true)

pub returns-in-Err-clause-known : goal.returns-in-Err-clause-known
returns-in-Err-clause-known g c = λ db ranges h names.
    not_lost db c.args.user.now c.args.rel.now (scope_of db c.args.user.now ranges) (statement.Modify c.args.rel.now c.args.to c.args.keys.now)
    (modify_there db c.args.user.now ranges c.args.rel.now c.args.to c.args.keys.now names) c.in-Err.fault (c.in-Err.ensures.known db h)

pub returns-in_ok-tree-in-Ok-clause-known : goal.returns-in_ok-tree-in-Ok-clause-known
returns-in_ok-tree-in-Ok-clause-known g c = λ db ranges h names.
    let info = c.in-Ok.ensures.known db h in
    modify_tree db c.args.user.now ranges c.args.rel.now c.args.to c.args.keys.now c.in-Ok.info c.in_ok-tree-in-Ok.field-0 names (sym c.in_ok-names_repeat.ensures ∙ c.if-branch.false) info.0 (c.in_ok-tree-in-Ok.ensures info.1)
