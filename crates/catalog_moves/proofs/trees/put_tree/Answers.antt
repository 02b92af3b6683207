use Rattle.std.proofs.Common.{ℕ, List, ◌∙◌, subst}
use Rattle.stored_database.specs.Trees.{cut, parts_from, tree_bytes}
use Rattle.catalog_moves.specs.Moves.{CameParts}
use Rattle.catalog_moves.proofs.trees.put_tree.Goals as goal

pub returns : goal.returns
unfolding tree_bytes
returns g c fits =
    subst (λ (bytes : List ℕ). CameParts c.args.rows.now.items c.put_bytes.new.rows.items (parts_from c.args.file c.args.sort c.args.number 0 (cut bytes)))
    (c.deref.ensures.value ∙ (c.in_ok-bytes.ensures fits).1) c.in_ok-put_bytes.ensures
