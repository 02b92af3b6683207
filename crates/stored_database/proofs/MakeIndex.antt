-- An index is made.
use Rattle.std.proofs.lemmas.Cmp.{tied_itself}
use Rattle.stored_database.proofs.Orders.{key_total}
use Rattle.std.proofs.Common.{◌≡◌, ℕ, refl, inr, List, [], ◌∷◌}
use Rattle.calculus.specs.declared.change.DbChange.TheVariants as change
use Rattle.calculus.specs.declared.query.RelKey.{RelKey}
use Rattle.calculus.specs.Change.{laid, adds_what_is_new, index_info}
use Rattle.calculus.specs.Database.{Index}
use Rattle.calculus.specs.Keys.{key_cmp, key_of}
use Rattle.calculus.specs.Lists.{insert_by}
use Rattle.std.specs.declared.cmp.Ordering.{Ordering}
use Rattle.std.specs.declared.cmp.Ordering.TheVariants.{Equal}
use Rattle.stored_database.specs.Printed.{index_entry, entries_for, columns_from}
use Rattle.stored_database.proofs.Members.{IsIn}
use Rattle.stored_database.proofs.PrintedEntries.{grouped_entries}
use Rattle.stored_database.proofs.Sets.{in_insert}
use Rattle.stored_database.specs.ChangeLaws.{resizes}
use Rattle.stored_database.specs.Moves.{going, coming}
use Rattle.stored_database.proofs.Lists.{moved_three, moved_in}
use Rattle.stored_database.proofs.Three.{index_entries, index_attributes, attributes, same_file, same_owner, grouped_attributes, entries_are_apart, attributes_are_apart, trees_are_apart}
use Rattle.stored_database.proofs.Staying.{is_fresh, index_there, index_stays, index_attributes_stay}
use Rattle.stored_database.proofs.Unmoved.{Moves, relations_same, views_same, relation_attributes_same, view_attributes_same, trees_same}

module _ (base : RelKey) (name keys : List ℕ) where
  made : Index
  made = record { info = index_info base name keys; base = base }

  abbrev by_key : Index → Index → Ordering
  by_key a b = key_cmp a.info.key b.info.key

  pub index : Moves (change.Index base name keys)
  unfolding made laid going coming entries_for columns_from adds_what_is_new resizes
  index db f after stands new_allowed lawful agree = record {
    gone_attributes = [];
    come_attributes = attributes after made.info ∷ [];
    gone_trees = [];
    come_trees = [];
    gone_columns_are = refl;
    come_columns_are = refl;
    gone_parts_are = refl;
    come_parts_are = refl;
    entries = moved_three same_file grouped_entries.itself grouped_entries.turned
        (relations_same f after db (change.Index base name keys) stands new_allowed agree (λ r at. at) (λ r. refl))
        (views_same f after db (change.Index base name keys) stands new_allowed agree (λ v at. at))
        (moved_in same_file grouped_entries.itself grouped_entries.turned (index_entry f) (index_entry after) db.indexes by_key made (tied_itself key_total made.info.key) (index_entries after (laid db (change.Index base name keys)) new_allowed) fresh
        (λ x at. index_stays f after db (change.Index base name keys) stands new_allowed agree x at (kept x at)))
        (entries_are_apart f db stands) (entries_are_apart after (laid db (change.Index base name keys)) new_allowed);
    columns = moved_three same_owner grouped_attributes.itself grouped_attributes.turned
        (relation_attributes_same f after db (change.Index base name keys) stands new_allowed agree (λ r at. at))
        (view_attributes_same f after db (change.Index base name keys) stands new_allowed agree (λ v at. at))
        (moved_in same_owner grouped_attributes.itself grouped_attributes.turned (λ (x : Index). attributes f x.info) (λ (x : Index). attributes after x.info) db.indexes by_key made (tied_itself key_total made.info.key) (index_attributes after (laid db (change.Index base name keys)) new_allowed) fresh
        (λ x at. index_attributes_stay f after db (change.Index base name keys) stands new_allowed agree x at (kept x at)))
        (attributes_are_apart f db stands) (attributes_are_apart after (laid db (change.Index base name keys)) new_allowed);
    trees = trees_same f after db (change.Index base name keys) stands new_allowed agree (λ v at. at) (λ p at. at) (λ p at. at) (trees_are_apart after (laid db (change.Index base name keys)) new_allowed);
  }
    where
      fresh : (x : Index) → IsIn x db.indexes → by_key made x ≡ Equal → ⊥
      fresh x at e = is_fresh db (key_of base.owner name) x.info.key lawful.additions_are_new (index_there db x at) e

      kept : (x : Index) → IsIn x db.indexes → IsIn x (insert_by by_key made db.indexes)
      kept x at = in_insert by_key made db.indexes x (λ s k e. absurd (fresh s k e)) (inr at)
