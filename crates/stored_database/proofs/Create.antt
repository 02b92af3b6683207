-- A relation is made.
use Rattle.std.proofs.lemmas.Cmp.{tied_itself}
use Rattle.stored_database.proofs.Orders.{key_total}
use Rattle.std.proofs.Common.{◌≡◌, refl, inr, List, [], ◌∷◌}
use Rattle.calculus.specs.declared.change.DbChange.TheVariants as change
use Rattle.calculus.specs.declared.schema.RelInfo.{RelInfo}
use Rattle.calculus.specs.Change.{laid, adds_what_is_new}
use Rattle.calculus.specs.Database.{Relation}
use Rattle.calculus.specs.Keys.{key_cmp}
use Rattle.calculus.specs.Lists.{insert_by}
use Rattle.calculus.specs.Rows.{Row, set_of}
use Rattle.std.specs.declared.cmp.Ordering.{Ordering}
use Rattle.std.specs.declared.cmp.Ordering.TheVariants.{Equal}
use Rattle.stored_database.specs.Printed.{relation_entry, entries_for}
use Rattle.stored_database.proofs.Members.{IsIn}
use Rattle.stored_database.proofs.PrintedEntries.{grouped_entries}
use Rattle.stored_database.proofs.PrintedTrees.{parts_are, trees_for}
use Rattle.stored_database.proofs.Sets.{in_insert}
use Rattle.stored_database.specs.ChangeLaws.{resizes}
use Rattle.stored_database.specs.Moves.{going, coming, nothing}
use Rattle.stored_database.proofs.Lists.{moved_three, moved_in}
use Rattle.stored_database.proofs.Three.{relation_entries, relation_attributes, attributes, attributes_for, same_file, same_owner, grouped_attributes, columns_are, entries_are_apart, attributes_are_apart, trees_are_apart}
use Rattle.stored_database.proofs.Staying.{is_fresh, relation_there, relation_stays, relation_attributes_stay}
use Rattle.stored_database.proofs.Unmoved.{Moves, views_same, indexes_same, view_attributes_same, index_attributes_same, trees_same}

module _ (info : RelInfo) (rows : List Row) where
  made : Relation
  made = record { info = info; rows = set_of rows }

  abbrev by_key : Relation → Relation → Ordering
  by_key a b = key_cmp a.info.key b.info.key

  pub create : Moves (change.Create info rows)
  unfolding made laid going coming entries_for adds_what_is_new resizes
  create db f after stands new_allowed lawful agree = record {
    gone_attributes = [];
    come_attributes = attributes_for after (record nothing { relations = made ∷ [] });
    gone_trees = [];
    come_trees = trees_for after (record nothing { relations = made ∷ [] });
    gone_columns_are = refl;
    come_columns_are = columns_are after (record nothing { relations = made ∷ [] });
    gone_parts_are = refl;
    come_parts_are = parts_are after (record nothing { relations = made ∷ [] });
    entries = moved_three same_file grouped_entries.itself grouped_entries.turned
        (moved_in same_file grouped_entries.itself grouped_entries.turned (relation_entry f) (relation_entry after) db.relations by_key made (tied_itself key_total made.info.key) (relation_entries after (laid db (change.Create info rows)) new_allowed) fresh
        (λ r at. relation_stays f after db (change.Create info rows) stands new_allowed agree r r at (kept r at) refl refl))
        (views_same f after db (change.Create info rows) stands new_allowed agree (λ v at. at))
        (indexes_same f after db (change.Create info rows) stands new_allowed agree (λ x at. at)) (entries_are_apart f db stands) (entries_are_apart after (laid db (change.Create info rows)) new_allowed);
    columns = moved_three same_owner grouped_attributes.itself grouped_attributes.turned
        (moved_in same_owner grouped_attributes.itself grouped_attributes.turned (λ (r : Relation). attributes f r.info) (λ (r : Relation). attributes after r.info) db.relations by_key made (tied_itself key_total made.info.key) (relation_attributes after (laid db (change.Create info rows)) new_allowed) fresh
        (λ r at. relation_attributes_stay f after db (change.Create info rows) stands new_allowed agree r r at (kept r at) refl))
        (view_attributes_same f after db (change.Create info rows) stands new_allowed agree (λ v at. at))
        (index_attributes_same f after db (change.Create info rows) stands new_allowed agree (λ x at. at)) (attributes_are_apart f db stands) (attributes_are_apart after (laid db (change.Create info rows)) new_allowed);
    trees = trees_same f after db (change.Create info rows) stands new_allowed agree (λ v at. at) (λ p at. at) (λ p at. at) (trees_are_apart after (laid db (change.Create info rows)) new_allowed);
  }
    where
      fresh : (r : Relation) → IsIn r db.relations → by_key made r ≡ Equal → ⊥
      fresh r at e = is_fresh db info.key r.info.key lawful.additions_are_new (relation_there db r at) e

      kept : (r : Relation) → IsIn r db.relations → IsIn r (insert_by by_key made db.relations)
      kept r at = in_insert by_key made db.relations r (λ s k e. absurd (fresh s k e)) (inr at)
