use Rattle.std.proofs.Common.{sym, ◌∙◌, subst, List}
use Rattle.std.specs.Prelude.{OnOk}
use Rattle.std.specs.List.{flat_map, AllByRecursion}
use Rattle.calculus.specs.declared.schema.Rule.{Rule}
use Rattle.quel_tree.specs.Message.{most_tree_levels}
use Rattle.quel_tree.specs.Permits.{rule}
use Rattle.stored_database.specs.Parts.{of_rule}
use Rattle.stored_database.specs.Trees.{cut, parts_from, tree_bytes}
use Rattle.catalog_moves.specs.Moves.{CameParts}
use Rattle.catalog_moves.proofs.Spelled.{rules_fit}
use Rattle.catalog_moves.proofs.gone_trees.put_its_rules.Goals as goal

pub returns-clause-came : goal.returns-clause-came
returns-clause-came c =
    let all = c.as_slice.ensures.value ∙ c.in_ok-all.ensures.known in
    subst (λ (xs : List Rule). OnOk c.put_rules.result (CameParts c.args.rows.now.items c.put_rules.new.rows.items (flat_map (λ (r : Rule). parts_from c.args.place.now.file of_rule r.number 0 (cut (tree_bytes rule r))) xs))) all
    (c.put_rules.ensures (subst (λ (xs : List Rule). AllByRecursion (λ (r : Rule). (rule most_tree_levels).Fits r) xs) (sym all) (rules_fit _ c.requires c.args.place.now.key)))
