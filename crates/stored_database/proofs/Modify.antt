-- A relation gets another structure.
use Rattle.std.proofs.Common.{◌≡◌, refl, sym, ap, ◌∙◌, inl, inr, true≢false, ℕ, not, Bool, true, false, List, [], ◌∷◌, ◌++◌, map, filter}
use Rattle.std.specs.List.{flat_map}
use Rattle.calculus.specs.declared.query.RelKey.{RelKey}
use Rattle.calculus.specs.declared.change.DbChange.TheVariants as change
use Rattle.calculus.specs.declared.schema.Attr.{Attr}
use Rattle.calculus.specs.declared.schema.Spec.{Spec}
use Rattle.calculus.specs.Change.{laid, restructured}
use Rattle.calculus.specs.Database.{Db, Relation, Index, is_relation}
use Rattle.calculus.specs.IsDatabase.{IsDatabase, valid_index}
use Rattle.calculus.specs.Keys.{same_key}
use Rattle.calculus.specs.Lists.{is_any}
use Rattle.stored_database.specs.Printed.{Files, relation_entry, index_entry, entries_for, columns_from}
use Rattle.stored_database.proofs.Members.{IsIn, in_map, filter_in, of_tests}
use Rattle.stored_database.proofs.PrintedEntries.{grouped_entries}
use Rattle.stored_database.proofs.Reading.{both}
use Rattle.stored_database.specs.ChangeLaws.{Agree, resizes}
use Rattle.stored_database.specs.Moves.{going, coming}
use Rattle.stored_database.proofs.Lists.{among_rest, no_more_come, moved_three, moved_at, moved_out, moved_still}
use Rattle.stored_database.proofs.Three.{attributes, columns_of, same_file, same_owner, grouped_attributes, Stands, entries_are_apart, attributes_are_apart, trees_are_apart, relation_entries, index_entries, index_attributes}
use Rattle.stored_database.proofs.Staying.{relation_stays, relation_attributes_stay, index_stays, index_attributes_stay}
use Rattle.stored_database.proofs.Unmoved.{Moves, views_same, view_attributes_same, trees_same}

-- ---- indexes have no attributes

none : (attrs : List Attr) → not (is_any attrs) ≡ true → attrs ≡ []
none [] e = refl
none (a ∷ attrs) e = absurd (true≢false (sym e))

no_attributes : (db : Db) → IsDatabase db → (x : Index) → IsIn x db.indexes → x.info.attrs ≡ []
no_attributes db is x at =
    let one = both _ _ (of_tests (valid_index db) db.indexes x is.indexes_stand at) in
    let two = both (is_relation db x.base) _ one.1 in
    none x.info.attrs (both (not (is_any x.info.attrs)) _ two.1).0

no_columns : (f : Files) (xs : List Index) → ((x : Index) → IsIn x xs → x.info.attrs ≡ []) → [] ≡ flat_map columns_of (map (λ (x : Index). attributes f x.info) xs)
unfolding columns_from
no_columns f [] empty = refl
no_columns f (x ∷ xs) empty =
    no_columns f xs (λ y at. empty y (inr at))
    ∙ ap (λ attrs. columns_from (f.file x.info.key) 0 attrs ++ flat_map columns_of (map (λ (x : Index). attributes f x.info) xs)) (sym (empty x (inl refl)))

module _ (rel : RelKey) (to : Spec) (keys : List ℕ) where
  -- a relation with its structure afterwards
  abbrev its : Relation → Relation
  its r = elim (same_key r.info.key rel) [ true ↦ restructured to keys r | false ↦ r ]

  abbrev at : Relation → Bool
  at r = same_key r.info.key rel

  same_attributes : (after : Files) (r : Relation) → attributes after (its r).info ≡ attributes after r.info
  same_attributes after r = go (same_key r.info.key rel)
    where
      go : (b : Bool) → attributes after (elim b as (λ b. Relation) [ true ↦ restructured to keys r | false ↦ r ]).info ≡ attributes after r.info
      go true = refl
      go false = refl

  same_name : (r : Relation) → (its r).info.key ≡ r.info.key
  same_name r = go (same_key r.info.key rel)
    where
      go : (b : Bool) → (elim b as (λ b. Relation) [ true ↦ restructured to keys r | false ↦ r ]).info.key ≡ r.info.key
      go true = refl
      go false = refl

  other : (r : Relation) → at r ≡ false → its r ≡ r
  other r e = ap (λ (b : Bool). elim b as (λ b. Relation) [ true ↦ restructured to keys r | false ↦ r ]) e

  this : (r : Relation) → at r ≡ true → its r ≡ restructured to keys r
  this r e = ap (λ (b : Bool). elim b as (λ b. Relation) [ true ↦ restructured to keys r | false ↦ r ]) e

  module _ (db : Db) (f after : Files) (stands : Stands f db) (new_allowed : Stands after (laid db (change.Modify rel to keys)))
      (agree : Agree db (change.Modify rel to keys) f after) where
    there : (r : Relation) → IsIn r db.relations → IsIn (its r) (laid db (change.Modify rel to keys)).relations
    unfolding laid
    there r i = in_map its db.relations r i

    stays : (r : Relation) → IsIn r db.relations → at r ≡ false → relation_entry after (its r) ≡ relation_entry f r
    unfolding resizes
    stays r i off =
        ap (relation_entry after) (other r off)
        ∙ relation_stays f after db (change.Modify rel to keys) stands new_allowed agree r (its r) i (there r i) (same_name r) off

    attributes_stay : (r : Relation) → IsIn r db.relations → attributes after (its r).info ≡ attributes f r.info
    attributes_stay r i =
        same_attributes after r
        ∙ relation_attributes_stay f after db (change.Modify rel to keys) stands new_allowed agree r (its r) i (there r i) (same_name r)

    its_columns : [] ≡ flat_map columns_of (map (λ (x : Index). attributes f x.info) (filter (λ x. same_key x.base rel) db.indexes))
    its_columns = no_columns f (filter (λ x. same_key x.base rel) db.indexes) (λ x i. no_attributes db stands.is x (filter_in (λ x. same_key x.base rel) db.indexes x i).0)

  pub modify : Moves (change.Modify rel to keys)
  unfolding laid going coming entries_for
  modify db f after stands new_allowed lawful agree = record {
    gone_attributes = map (λ (x : Index). attributes f x.info) (filter (λ x. same_key x.base rel) db.indexes);
    come_attributes = [];
    gone_trees = [];
    come_trees = [];
    gone_columns_are = its_columns db f after stands new_allowed agree;
    come_columns_are = refl;
    gone_parts_are = refl;
    come_parts_are = refl;
    entries = no_more_come (moved_three same_file grouped_entries.itself grouped_entries.turned
        (moved_at same_file grouped_entries.itself grouped_entries.turned (relation_entry f) (relation_entry after) db.relations its (λ r. relation_entry after (restructured to keys r)) at (relation_entries f db stands) (relation_entries after (laid db (change.Modify rel to keys)) new_allowed)
        (stays db f after stands new_allowed agree) (λ r i is. ap (relation_entry after) (this r is)))
        (views_same f after db (change.Modify rel to keys) stands new_allowed agree (λ v at. at))
        (moved_out same_file grouped_entries.itself grouped_entries.turned (index_entry f) (index_entry after) db.indexes (λ x. same_key x.base rel) (index_entries f db stands)
        (λ x i off. index_stays f after db (change.Modify rel to keys) stands new_allowed agree x i (among_rest (λ x. same_key x.base rel) db.indexes x i off)))
        (entries_are_apart f db stands) (entries_are_apart after (laid db (change.Modify rel to keys)) new_allowed));
    columns = moved_three same_owner grouped_attributes.itself grouped_attributes.turned
        (moved_still same_owner grouped_attributes.itself grouped_attributes.turned (λ (r : Relation). attributes f r.info) (λ (r : Relation). attributes after r.info) db.relations its
        (attributes_stay db f after stands new_allowed agree))
        (view_attributes_same f after db (change.Modify rel to keys) stands new_allowed agree (λ v at. at))
        (moved_out same_owner grouped_attributes.itself grouped_attributes.turned (λ (x : Index). attributes f x.info) (λ (x : Index). attributes after x.info) db.indexes (λ x. same_key x.base rel) (index_attributes f db stands)
        (λ x i off. index_attributes_stay f after db (change.Modify rel to keys) stands new_allowed agree x i (among_rest (λ x. same_key x.base rel) db.indexes x i off)))
        (attributes_are_apart f db stands) (attributes_are_apart after (laid db (change.Modify rel to keys)) new_allowed);
    trees = trees_same f after db (change.Modify rel to keys) stands new_allowed agree (λ v at. at) (λ p at. at) (λ p at. at) (trees_are_apart after (laid db (change.Modify rel to keys)) new_allowed);
  }
