-- Relations, views and indexes are destroyed.
use Rattle.std.proofs.Common.{refl, List, [], ◌||◌}
use Rattle.calculus.specs.declared.query.RelKey.{RelKey}
use Rattle.calculus.specs.declared.change.DbChange.TheVariants as change
use Rattle.calculus.specs.Change.{laid}
use Rattle.calculus.specs.Database.{Relation, View, Index}
use Rattle.calculus.specs.Keys.{has_key}
use Rattle.stored_database.specs.Printed.{relation_entry, view_entry, index_entry, entries_for}
use Rattle.stored_database.proofs.PrintedEntries.{grouped_entries}
use Rattle.stored_database.proofs.PrintedTrees.{parts_are, trees_for, same_tree, grouped_trees, view_tree, rule_tree, permit_tree}
use Rattle.stored_database.specs.ChangeLaws.{resizes}
use Rattle.stored_database.specs.Moves.{going, coming, destroyed}
use Rattle.stored_database.proofs.Lists.{among_rest, moved_three, moved_out}
use Rattle.stored_database.proofs.Three.{attributes, attributes_for, same_file, same_owner, grouped_attributes, columns_are, entries_are_apart, attributes_are_apart, trees_are_apart, relation_entries, view_entries, index_entries, relation_attributes, view_attributes, index_attributes, view_trees, rule_trees, permit_trees}
use Rattle.stored_database.proofs.Staying.{relation_stays, view_stays, index_stays, relation_attributes_stay, view_attributes_stay, index_attributes_stay, view_tree_stays, rule_tree_stays, permit_tree_stays}
use Rattle.stored_database.proofs.Unmoved.{Moves}

module _ (rels : List RelKey) where
  pub destroy : Moves (change.Destroy rels)
  unfolding laid going coming entries_for resizes
  destroy db f after stands new_allowed lawful agree = record {
    gone_attributes = attributes_for f (destroyed rels db);
    come_attributes = [];
    gone_trees = trees_for f (destroyed rels db);
    come_trees = [];
    gone_columns_are = columns_are f (destroyed rels db);
    come_columns_are = refl;
    gone_parts_are = parts_are f (destroyed rels db);
    come_parts_are = refl;
    entries = moved_three same_file grouped_entries.itself grouped_entries.turned
        (moved_out same_file grouped_entries.itself grouped_entries.turned (relation_entry f) (relation_entry after) db.relations (λ r. has_key rels r.info.key) (relation_entries f db stands)
        (λ r at off. relation_stays f after db (change.Destroy rels) stands new_allowed agree r r at (among_rest (λ r. has_key rels r.info.key) db.relations r at off) refl refl))
        (moved_out same_file grouped_entries.itself grouped_entries.turned (view_entry f) (view_entry after) db.views (λ v. has_key rels v.info.key) (view_entries f db stands)
        (λ v at off. view_stays f after db (change.Destroy rels) stands new_allowed agree v at (among_rest (λ v. has_key rels v.info.key) db.views v at off)))
        (moved_out same_file grouped_entries.itself grouped_entries.turned (index_entry f) (index_entry after) db.indexes (λ x. has_key rels x.info.key || has_key rels x.base) (index_entries f db stands)
        (λ x at off. index_stays f after db (change.Destroy rels) stands new_allowed agree x at (among_rest (λ x. has_key rels x.info.key || has_key rels x.base) db.indexes x at off)))
        (entries_are_apart f db stands) (entries_are_apart after (laid db (change.Destroy rels)) new_allowed);
    columns = moved_three same_owner grouped_attributes.itself grouped_attributes.turned
        (moved_out same_owner grouped_attributes.itself grouped_attributes.turned (λ (r : Relation). attributes f r.info) (λ (r : Relation). attributes after r.info) db.relations (λ r. has_key rels r.info.key) (relation_attributes f db stands)
        (λ r at off. relation_attributes_stay f after db (change.Destroy rels) stands new_allowed agree r r at (among_rest (λ r. has_key rels r.info.key) db.relations r at off) refl))
        (moved_out same_owner grouped_attributes.itself grouped_attributes.turned (λ (v : View). attributes f v.info) (λ (v : View). attributes after v.info) db.views (λ v. has_key rels v.info.key) (view_attributes f db stands)
        (λ v at off. view_attributes_stay f after db (change.Destroy rels) stands new_allowed agree v at (among_rest (λ v. has_key rels v.info.key) db.views v at off)))
        (moved_out same_owner grouped_attributes.itself grouped_attributes.turned (λ (x : Index). attributes f x.info) (λ (x : Index). attributes after x.info) db.indexes (λ x. has_key rels x.info.key || has_key rels x.base) (index_attributes f db stands)
        (λ x at off. index_attributes_stay f after db (change.Destroy rels) stands new_allowed agree x at (among_rest (λ x. has_key rels x.info.key || has_key rels x.base) db.indexes x at off)))
        (attributes_are_apart f db stands) (attributes_are_apart after (laid db (change.Destroy rels)) new_allowed);
    trees = moved_three same_tree grouped_trees.itself grouped_trees.turned
        (moved_out same_tree grouped_trees.itself grouped_trees.turned (view_tree f) (view_tree after) db.views (λ v. has_key rels v.info.key) (view_trees f db stands)
        (λ v at off. view_tree_stays f after db (change.Destroy rels) stands new_allowed agree v at (among_rest (λ v. has_key rels v.info.key) db.views v at off)))
        (moved_out same_tree grouped_trees.itself grouped_trees.turned (rule_tree f) (rule_tree after) db.rules (λ p. has_key rels p.0) (rule_trees f db stands)
        (λ p at off. rule_tree_stays f after db (change.Destroy rels) stands new_allowed agree p at (among_rest (λ p. has_key rels p.0) db.rules p at off)))
        (moved_out same_tree grouped_trees.itself grouped_trees.turned (permit_tree f) (permit_tree after) db.permits (λ p. has_key rels p.0) (permit_trees f db stands)
        (λ p at off. permit_tree_stays f after db (change.Destroy rels) stands new_allowed agree p at (among_rest (λ p. has_key rels p.0) db.permits p at off)))
        (trees_are_apart f db stands) (trees_are_apart after (laid db (change.Destroy rels)) new_allowed);
  }
