use Rattle.std.proofs.Common.{take}
use Rattle.std.specs.List.{AllByRecursion, flat_map}
use Rattle.quel_tree.specs.Message.{most_tree_levels}
use Rattle.quel_tree.specs.Permits.{permit}
use Rattle.stored_database.specs.Parts.{of_permit}
use Rattle.stored_database.specs.Trees.{cut, parts_from, tree_bytes}
use Rattle.catalog_moves.specs.Moves.{CameParts}
use Rattle.catalog_moves.proofs.trees.put_permits.Given as goal

abbrev pub invariant-loop-permit : goal.invariant-loop-permit
invariant-loop-permit l = AllByRecursion (λ r. (permit most_tree_levels).Fits r) l.permits
    → CameParts l.fn.rows.items l.rows.items (flat_map (λ r. parts_from l.file of_permit r.number 0 (cut (tree_bytes permit r))) (take l.permit-index l.permits))
