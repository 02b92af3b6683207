-- Rows of a relation go and come.
use Rattle.std.proofs.Common.{◌≡◌, refl, sym, ap, ◌∙◌, true≢false, ◌==◌, ◌&&◌, not, Bool, true, false, List, []}
use Rattle.calculus.specs.declared.query.RelKey.{RelKey}
use Rattle.calculus.specs.declared.change.DbChange.TheVariants as change
use Rattle.calculus.specs.declared.schema.RelInfo.{RelInfo}
use Rattle.calculus.specs.Change.{laid}
use Rattle.calculus.specs.Database.{Db, Relation}
use Rattle.calculus.specs.Keys.{same_key}
use Rattle.calculus.specs.Replacement.{with_rows, without_rows}
use Rattle.calculus.specs.Rows.{Row}
use Rattle.stored_database.specs.Printed.{Files, relation_entry, entries_for}
use Rattle.stored_database.proofs.Members.{IsIn, in_map}
use Rattle.stored_database.proofs.PrintedEntries.{grouped_entries}
use Rattle.stored_database.proofs.Reading.{same_number}
use Rattle.stored_database.specs.ChangeLaws.{Agree, resizes}
use Rattle.stored_database.specs.Moves.{going, coming}
use Rattle.stored_database.proofs.Lists.{no_more_go, no_more_come, moved_three, moved_at, moved_still}
use Rattle.stored_database.proofs.Three.{attributes, same_file, same_owner, grouped_attributes, Stands, entries_are_apart, attributes_are_apart, trees_are_apart, relation_entries}
use Rattle.stored_database.proofs.Staying.{relation_keeps, relation_stays, relation_attributes_stay}
use Rattle.stored_database.proofs.Unmoved.{Moves, views_same, indexes_same, view_attributes_same, index_attributes_same, trees_same}

module _ (rel : RelKey) (remove add : List Row) where
  -- a relation with its rows afterwards
  abbrev its : Relation → Relation
  its r = elim (same_key r.info.key rel) [ true ↦ record r { rows = with_rows add (without_rows remove r.rows) } | false ↦ r ]

  same_info : (r : Relation) → (its r).info ≡ r.info
  same_info r = go (same_key r.info.key rel)
    where
      go : (b : Bool) → (elim b as (λ b. Relation) [ true ↦ record r { rows = with_rows add (without_rows remove r.rows) } | false ↦ r ]).info ≡ r.info
      go true = refl
      go false = refl

  module _ (db : Db) (f after : Files) (stands : Stands f db) (new_allowed : Stands after (laid db (change.Rows rel remove add)))
      (agree : Agree db (change.Rows rel remove add) f after) where
    abbrev at : Relation → Bool
    at r = same_key r.info.key rel && not (f.used r.info.key == after.used r.info.key)

    there : (r : Relation) → IsIn r db.relations → IsIn (its r) (laid db (change.Rows rel remove add)).relations
    unfolding laid
    there r i = in_map its db.relations r i

    -- a relation whose number of pages stays has the entry that it had
    stays : (r : Relation) → IsIn r db.relations → at r ≡ false → relation_entry after (its r) ≡ relation_entry f r
    unfolding resizes
    stays r i off = (λ t. relation_entry after (record { info = same_info r t; rows = (its r).rows })) ∙ go (same_key r.info.key rel) (f.used r.info.key == after.used r.info.key) refl refl off
      where
        key : (its r).info.key ≡ r.info.key
        key = ap (λ (i : RelInfo). i.key) (same_info r)

        go : (b c : Bool) → same_key r.info.key rel ≡ b → (f.used r.info.key == after.used r.info.key) ≡ c → (b && not c) ≡ false → relation_entry after r ≡ relation_entry f r
        go true true e g off = relation_keeps f after db (change.Rows rel remove add) stands new_allowed agree r (its r) i (there r i) key (sym (same_number (f.used r.info.key) (after.used r.info.key) g))
        go true false e g off = absurd (true≢false off)
        go false c e g off = relation_stays f after db (change.Rows rel remove add) stands new_allowed agree r (its r) i (there r i) key e

    attributes_stay : (r : Relation) → IsIn r db.relations → attributes after (its r).info ≡ attributes f r.info
    attributes_stay r i =
        ap (attributes after) (same_info r)
        ∙ relation_attributes_stay f after db (change.Rows rel remove add) stands new_allowed agree r (its r) i (there r i) (ap (λ (i : RelInfo). i.key) (same_info r))

  pub rows : Moves (change.Rows rel remove add)
  unfolding laid going coming entries_for
  rows db f after stands new_allowed lawful agree = record {
    gone_attributes = [];
    come_attributes = [];
    gone_trees = [];
    come_trees = [];
    gone_columns_are = refl;
    come_columns_are = refl;
    gone_parts_are = refl;
    come_parts_are = refl;
    entries = no_more_come (no_more_go (moved_three same_file grouped_entries.itself grouped_entries.turned
        (moved_at same_file grouped_entries.itself grouped_entries.turned (relation_entry f) (relation_entry after) db.relations its (relation_entry after) (at db f after stands new_allowed agree) (relation_entries f db stands) (relation_entries after (laid db (change.Rows rel remove add)) new_allowed)
        (stays db f after stands new_allowed agree) (λ r i is. ap (λ i. relation_entry after (record { info = i; rows = [] })) (same_info r)))
        (views_same f after db (change.Rows rel remove add) stands new_allowed agree (λ v at. at))
        (indexes_same f after db (change.Rows rel remove add) stands new_allowed agree (λ x at. at)) (entries_are_apart f db stands) (entries_are_apart after (laid db (change.Rows rel remove add)) new_allowed)));
    columns = moved_three same_owner grouped_attributes.itself grouped_attributes.turned
        (moved_still same_owner grouped_attributes.itself grouped_attributes.turned (λ (r : Relation). attributes f r.info) (λ (r : Relation). attributes after r.info) db.relations its
        (attributes_stay db f after stands new_allowed agree))
        (view_attributes_same f after db (change.Rows rel remove add) stands new_allowed agree (λ v at. at))
        (index_attributes_same f after db (change.Rows rel remove add) stands new_allowed agree (λ x at. at)) (attributes_are_apart f db stands) (attributes_are_apart after (laid db (change.Rows rel remove add)) new_allowed);
    trees = trees_same f after db (change.Rows rel remove add) stands new_allowed agree (λ v at. at) (λ p at. at) (λ p at. at) (trees_are_apart after (laid db (change.Rows rel remove add)) new_allowed);
  }
