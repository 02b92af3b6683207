use Rattle.std.proofs.Common.{take}
use Rattle.std.specs.List.{AllByRecursion, flat_map}
use Rattle.quel_tree.specs.Message.{most_tree_levels}
use Rattle.quel_tree.specs.Permits.{rule}
use Rattle.stored_database.specs.Parts.{of_rule}
use Rattle.stored_database.specs.Trees.{cut, parts_from, tree_bytes}
use Rattle.catalog_moves.specs.Moves.{CameParts}
use Rattle.catalog_moves.proofs.trees.put_rules.Given as goal

abbrev pub invariant-loop-rule : goal.invariant-loop-rule
invariant-loop-rule l = AllByRecursion (λ r. (rule most_tree_levels).Fits r) l.rules
    → CameParts l.fn.rows.items l.rows.items (flat_map (λ r. parts_from l.file of_rule r.number 0 (cut (tree_bytes rule r))) (take l.rule-index l.rules))
