use Rattle.std.proofs.Common.{◌≡◌, ◌∙◌, sym, map, false}
use Rattle.calculus.specs.declared.statement.Statement.TheVariants as statement
use Rattle.quel_meaning.specs.Causes.{repeats}
use Rattle.quel_names.specs.Asking.{scope_of}
use Rattle.utility_trees.proofs.Resolving.{copy_binary, copy_there, copy_tree, copy_twice}
use Rattle.utility_trees.proofs.Saying.{not_lost, says}
use Rattle.utility_trees.proofs.copied.copied.Goals as goal

pub returns-then-branch-clause-known : goal.returns-then-branch-clause-known
returns-then-branch-clause-known g c = λ db ranges h names.
    copy_twice db c.args.user.now ranges c.args.rel.now c.args.columns.now c.args.from c.args.file.now names (sym c.in_ok-columns_repeat.ensures ∙ c.if-branch.true)

pub returns-in-Err-clause-known : goal.returns-in-Err-clause-known
returns-in-Err-clause-known g c = λ db ranges h names.
    not_lost db c.args.user.now c.args.rel.now (scope_of db c.args.user.now ranges) (statement.Copy c.args.rel.now c.args.columns.now c.args.from c.args.file.now)
    (copy_there db c.args.user.now ranges c.args.rel.now c.args.columns.now c.args.from c.args.file.now names) c.in-Err.fault (c.in-Err.ensures.known db h)

pub returns-in-Ok-clause-known : goal.returns-in-Ok-clause-known
returns-in-Ok-clause-known g c = λ db ranges h names.
    let info = c.in-Ok.ensures.known db h in
    let once : repeats (map (λ c. c.0) c.args.columns.now) ≡ false = sym c.in_ok-columns_repeat.ensures ∙ c.if-branch.false in
    says c.copy_fitting-tree.result _ _ _ _
    (λ tree k. copy_tree db c.args.user.now ranges c.args.rel.now c.args.columns.now c.args.from c.args.file.now c.in-Ok.info tree names once info.0 k.0 (k.1 info.1))
    (λ n k. copy_binary db c.args.user.now ranges c.args.rel.now c.args.columns.now c.args.from c.args.file.now c.in-Ok.info n names once info.0 k.0 k.1) c.copy_fitting-tree.ensures.said

pub returns-in-Ok-clause-cause : goal.returns-in-Ok-clause-cause
returns-in-Ok-clause-cause g c = record { later = c.in-Ok.ensures.cause.later; caused = c.copy_fitting-tree.ensures.no_fault _ _ _ c.in-Ok.ensures.cause.caused }
