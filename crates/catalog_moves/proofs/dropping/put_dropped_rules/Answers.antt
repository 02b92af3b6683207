use Rattle.std.proofs.Common.{refl, OnOk, sym, ap, ◌∙◌, subst, List, filter}
use Rattle.std.specs.List.{flat_map, AllByRecursion}
use Rattle.calculus.specs.declared.schema.Rule.{Rule}
use Rattle.calculus.specs.Lists.{has_number}
use Rattle.quel_tree.specs.Message.{most_tree_levels}
use Rattle.quel_tree.specs.Permits.{rule}
use Rattle.stored_database.specs.Parts.{of_rule}
use Rattle.stored_database.specs.Trees.{cut, parts_from, tree_bytes}
use Rattle.stored_database.proofs.Pairs.{all_filter}
use Rattle.catalog_moves.specs.Moves.{CameParts}
use Rattle.catalog_moves.proofs.FromNone.{parts_alone}
use Rattle.catalog_moves.proofs.Spelled.{rules_fit}
use Rattle.catalog_moves.proofs.dropping.put_dropped_rules.Goals as goal

pub returns-clause-rows : goal.returns-clause-rows
returns-clause-rows c none =
    let gone = c.as_slice.ensures.value ∙ c.rules_of-gone.ensures ∙ ap (filter (λ (x : Rule). has_number c.args.numbers.now x.number)) c.in_ok-all.ensures.known in
    let fits = subst (λ (xs : List Rule). AllByRecursion (λ (x : Rule). (rule most_tree_levels).Fits x) xs) (sym gone)
    (all_filter (λ (x : Rule). (rule most_tree_levels).Fits x) _ _ (rules_fit _ c.requires c.args.rel.now)) in
    parts_alone c.put_rules.result c.args.rows.now (record { entries = c.args.rows.now.entries; columns = c.args.rows.now.columns; parts = c.put_rules.new.rows }) _ none refl refl
    (subst (λ (xs : List Rule). OnOk c.put_rules.result (CameParts c.args.rows.now.parts.items c.put_rules.new.rows.items (flat_map (λ (x : Rule). parts_from c.args.file of_rule x.number 0 (cut (tree_bytes rule x))) xs))) gone (c.put_rules.ensures fits))
