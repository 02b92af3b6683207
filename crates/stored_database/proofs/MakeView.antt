-- A view is made.
use Rattle.std.proofs.lemmas.Cmp.{tied_itself}
use Rattle.stored_database.proofs.Orders.{key_total}
use Rattle.std.proofs.Common.{◌≡◌, refl, inr, [], ◌∷◌}
use Rattle.calculus.specs.declared.change.DbChange.TheVariants as change
use Rattle.calculus.specs.declared.query.Query.{Query}
use Rattle.calculus.specs.declared.schema.RelInfo.{RelInfo}
use Rattle.calculus.specs.Change.{laid, adds_what_is_new}
use Rattle.calculus.specs.Database.{View}
use Rattle.calculus.specs.Keys.{key_cmp}
use Rattle.calculus.specs.Lists.{insert_by}
use Rattle.std.specs.declared.cmp.Ordering.{Ordering}
use Rattle.std.specs.declared.cmp.Ordering.TheVariants.{Equal}
use Rattle.stored_database.specs.Printed.{view_entry, entries_for}
use Rattle.stored_database.proofs.Members.{IsIn}
use Rattle.stored_database.proofs.PrintedEntries.{grouped_entries}
use Rattle.stored_database.proofs.PrintedTrees.{parts_are, trees_for, same_tree, grouped_trees, view_tree}
use Rattle.stored_database.proofs.Sets.{in_insert}
use Rattle.stored_database.specs.ChangeLaws.{resizes}
use Rattle.stored_database.specs.Moves.{going, coming, nothing}
use Rattle.stored_database.proofs.Lists.{moved_three, moved_in}
use Rattle.stored_database.proofs.Three.{view_entries, view_attributes, view_trees, attributes, attributes_for, same_file, same_owner, grouped_attributes, columns_are, entries_are_apart, attributes_are_apart, trees_are_apart}
use Rattle.stored_database.proofs.Staying.{is_fresh, view_there, view_stays, view_attributes_stay, view_tree_stays}
use Rattle.stored_database.proofs.Unmoved.{Moves, relations_same, indexes_same, relation_attributes_same, index_attributes_same, rule_trees_same, permit_trees_same}

module _ (info : RelInfo) (query : Query) where
  made : View
  made = record { info = info; query = query }

  abbrev by_key : View → View → Ordering
  by_key a b = key_cmp a.info.key b.info.key

  pub view : Moves (change.View info query)
  unfolding made laid going coming entries_for adds_what_is_new resizes
  view db f after stands new_allowed lawful agree = record {
    gone_attributes = [];
    come_attributes = attributes_for after (record nothing { views = made ∷ [] });
    gone_trees = [];
    come_trees = trees_for after (record nothing { views = made ∷ [] });
    gone_columns_are = refl;
    come_columns_are = columns_are after (record nothing { views = made ∷ [] });
    gone_parts_are = refl;
    come_parts_are = parts_are after (record nothing { views = made ∷ [] });
    entries = moved_three same_file grouped_entries.itself grouped_entries.turned
        (relations_same f after db (change.View info query) stands new_allowed agree (λ r at. at) (λ r. refl))
        (moved_in same_file grouped_entries.itself grouped_entries.turned (view_entry f) (view_entry after) db.views by_key made (tied_itself key_total made.info.key) (view_entries after (laid db (change.View info query)) new_allowed) fresh
        (λ v at. view_stays f after db (change.View info query) stands new_allowed agree v at (kept v at)))
        (indexes_same f after db (change.View info query) stands new_allowed agree (λ x at. at)) (entries_are_apart f db stands) (entries_are_apart after (laid db (change.View info query)) new_allowed);
    columns = moved_three same_owner grouped_attributes.itself grouped_attributes.turned
        (relation_attributes_same f after db (change.View info query) stands new_allowed agree (λ r at. at))
        (moved_in same_owner grouped_attributes.itself grouped_attributes.turned (λ (v : View). attributes f v.info) (λ (v : View). attributes after v.info) db.views by_key made (tied_itself key_total made.info.key) (view_attributes after (laid db (change.View info query)) new_allowed) fresh
        (λ v at. view_attributes_stay f after db (change.View info query) stands new_allowed agree v at (kept v at)))
        (index_attributes_same f after db (change.View info query) stands new_allowed agree (λ x at. at)) (attributes_are_apart f db stands) (attributes_are_apart after (laid db (change.View info query)) new_allowed);
    trees = moved_three same_tree grouped_trees.itself grouped_trees.turned
        (moved_in same_tree grouped_trees.itself grouped_trees.turned (view_tree f) (view_tree after) db.views by_key made (tied_itself key_total made.info.key) (view_trees after (laid db (change.View info query)) new_allowed) fresh
        (λ v at. view_tree_stays f after db (change.View info query) stands new_allowed agree v at (kept v at)))
        (rule_trees_same f after db (change.View info query) stands new_allowed agree (λ p at. at))
        (permit_trees_same f after db (change.View info query) stands new_allowed agree (λ p at. at)) (trees_are_apart f db stands) (trees_are_apart after (laid db (change.View info query)) new_allowed);
  }
    where
      fresh : (v : View) → IsIn v db.views → by_key made v ≡ Equal → ⊥
      fresh v at e = is_fresh db info.key v.info.key lawful.additions_are_new (view_there db v at) e

      kept : (v : View) → IsIn v db.views → IsIn v (insert_by by_key made db.views)
      kept v at = in_insert by_key made db.views v (λ s k e. absurd (fresh s k e)) (inr at)
