use Rattle.std.proofs.Common.{sym, ◌∙◌, subst, List}
use Rattle.std.specs.Prelude.{OnOk}
use Rattle.std.specs.List.{flat_map, AllByRecursion}
use Rattle.calculus.specs.declared.schema.Permit.{Permit}
use Rattle.quel_tree.specs.Message.{most_tree_levels}
use Rattle.quel_tree.specs.Permits.{permit}
use Rattle.stored_database.specs.Parts.{of_permit}
use Rattle.stored_database.specs.Trees.{cut, parts_from, tree_bytes}
use Rattle.catalog_moves.specs.Moves.{CameParts}
use Rattle.catalog_moves.proofs.Spelled.{permits_fit}
use Rattle.catalog_moves.proofs.gone_trees.put_its_permits.Goals as goal

pub returns-clause-came : goal.returns-clause-came
returns-clause-came c =
    let all = c.as_slice.ensures.value ∙ c.in_ok-all.ensures.known in
    subst (λ (xs : List Permit). OnOk c.put_permits.result (CameParts c.args.rows.now.items c.put_permits.new.rows.items (flat_map (λ (r : Permit). parts_from c.args.place.now.file of_permit r.number 0 (cut (tree_bytes permit r))) xs))) all
    (c.put_permits.ensures (subst (λ (xs : List Permit). AllByRecursion (λ (r : Permit). (permit most_tree_levels).Fits r) xs) (sym all) (permits_fit _ c.requires c.args.place.now.key)))
