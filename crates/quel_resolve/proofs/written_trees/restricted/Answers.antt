use Rattle.std.specs.Prelude.{option_copied}
use Rattle.quel_resolve.proofs.Restricting.{permit_tree, permits_tree, rule_tree, rules_tree}
use Rattle.quel_resolve.proofs.written_trees.restricted.Goals as goal

pub returns-in-Permit-clause-tree : goal.returns-in-Permit-clause-tree
returns-in-Permit-clause-tree c =
    permit_tree c.args.s.now c.args.q.now (option_copied c.args.target) c.in-Permit.ops c.in-Permit.var c.in-Permit.attrs c.items.result.now c.in-Permit.user c.in-Permit.qual c.items.ensures c.in-Permit.is
    c.permitted.result c.permitted.ensures.tree

pub returns-in-Rule-clause-tree : goal.returns-in-Rule-clause-tree
returns-in-Rule-clause-tree c = rule_tree c.args.s.now c.args.q.now (option_copied c.args.target) c.in-Rule.var c.in-Rule.qual c.in-Rule.is c.ruled.result c.ruled.ensures.tree

pub returns-in-DropPermits-clause-tree : goal.returns-in-DropPermits-clause-tree
returns-in-DropPermits-clause-tree c =
    permits_tree c.args.s.now c.args.q.now (option_copied c.args.target) c.in-DropPermits.rel c.in-DropPermits.numbers c.in-DropPermits.is c.permits_dropped.result c.permits_dropped.ensures.tree

pub returns-in-DropRules-clause-tree : goal.returns-in-DropRules-clause-tree
returns-in-DropRules-clause-tree c =
    rules_tree c.args.s.now c.args.q.now (option_copied c.args.target) c.in-DropRules.rel c.in-DropRules.numbers c.in-DropRules.is c.rules_dropped.result c.rules_dropped.ensures.tree
