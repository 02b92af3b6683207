-- The three sets of a catalogue, where what they are made of goes and comes.
use Rattle.std.proofs.Common.{◌≡◌, refl, sym, ap, ap₂, subst, ◌∙◌, ℕ, ◌==◌, ◌&&◌, Bool, true, false, List, [], ◌∷◌, ◌++◌, map}
use Rattle.std.specs.Prelude.{nat_eq}
use Rattle.std.proofs.lemmas.List.Concat.{flat_map-append}
use Rattle.std.proofs.lemmas.List.Folds.{flat_map-map}
use Rattle.std.specs.List.{AllByRecursion, flat_map}
use Rattle.std.specs.Ordering.{nat_cmp}
use Rattle.std.specs.declared.cmp.Ordering.{Ordering}
use Rattle.calculus.specs.declared.schema.Attr.{Attr}
use Rattle.calculus.specs.declared.schema.RelInfo.{RelInfo}
use Rattle.calculus.specs.Database.{Db, Relation, Index, View, entries, is_relation}
use Rattle.calculus.specs.IsDatabase.{IsDatabase, valid_row_qual, valid_permit}
use Rattle.calculus.specs.Lists.{differ_by}
use Rattle.page_chain.specs.Lists.{in_order}
use Rattle.stored_database.specs.Catalogue.{Catalogue}
use Rattle.stored_database.specs.Columns.{Column, column_cmp}
use Rattle.stored_database.specs.Entries.{Entry, entry_cmp}
use Rattle.stored_database.specs.Parts.{part_cmp}
use Rattle.stored_database.specs.Printed.{Files, relation_entry, view_entry, index_entry, entries_for, columns_from, columns_for, parts_for, printed}
use Rattle.stored_database.proofs.Groups.{Grouped}
use Rattle.stored_database.proofs.Orders.{column_total}
use Rattle.stored_database.proofs.Pairs.{Pairs, all_then, pairs_map, pairs_front, pairs_behind, pass_all}
use Rattle.stored_database.proofs.PrintedColumns.{columns_decide, columns_ascend, then_equal}
use Rattle.stored_database.proofs.PrintedEntries.{grouped_entries, singles, entries_differ, infos_differ, nat_equal, equal_turned}
use Rattle.stored_database.proofs.PrintedTrees.{Tree, parts_of, same_tree, grouped_trees, view_tree, rule_tree, permit_tree, trees_for, parts_are, trees_differ}
use Rattle.stored_database.proofs.Reading.{both, number_itself}
use Rattle.stored_database.specs.After.{after_change, changed, IsChange, AreChanges}
use Rattle.stored_database.proofs.Moved.{Moved, set_after, set_changes}

-- ---- attributes

-- the file of a relation, view or index, and its attributes
pub record Attributes : Type 0 where
  pub file : ℕ
  pub attrs : List Attr

-- they belong to the same
abbrev pub same_owner : Attributes → Attributes → Bool
same_owner a b = b.file == a.file

abbrev pub attributes : Files → RelInfo → Attributes
attributes f i = record { file = f.file i.key; attrs = i.attrs }

abbrev pub columns_of : Attributes → List Column
columns_of a = columns_from a.file 0 a.attrs

-- the attributes of all that is in a database
abbrev pub attributes_for : Files → Db → List Attributes
attributes_for f db =
    map (λ (r : Relation). attributes f r.info) db.relations ++ (map (λ (v : View). attributes f v.info) db.views ++ map (λ (x : Index). attributes f x.info) db.indexes)

pub grouped_attributes : Grouped column_cmp columns_of (λ a c. c.file == a.file) same_owner
grouped_attributes = record {
  order = column_total;
  tests = λ a b. columns_decide a.file b.file 0 b.attrs;
  equals = λ a c d e. ap (λ n. n == a.file) (nat_equal c.file d.file (then_equal (nat_cmp c.file d.file) (nat_cmp c.place d.place) e).0);
  itself = λ a. number_itself a.file;
  turned = λ a b. equal_turned b.file a.file;
  ascends = λ a. columns_ascend a.file 0 a.attrs;
}

pub columns_are : (f : Files) (db : Db) → columns_for f db ≡ flat_map columns_of (attributes_for f db)
unfolding columns_for
columns_are f db =
    whole (map (λ (r : Relation). r.info) db.relations) (map (λ (v : View). v.info) db.views) (map (λ (x : Index). x.info) db.indexes)
    ∙ sym (flat_map-append columns_of (map (λ (r : Relation). attributes f r.info) db.relations) _
    ∙ ap₂ (λ k l. k ++ l) (flat_map-map columns_of (λ (r : Relation). attributes f r.info) db.relations ∙ sym (flat_map-map at (λ (r : Relation). r.info) db.relations))
    (flat_map-append columns_of (map (λ (v : View). attributes f v.info) db.views) _
    ∙ ap₂ (λ k l. k ++ l) (flat_map-map columns_of (λ (v : View). attributes f v.info) db.views ∙ sym (flat_map-map at (λ (v : View). v.info) db.views))
    (flat_map-map columns_of (λ (x : Index). attributes f x.info) db.indexes ∙ sym (flat_map-map at (λ (x : Index). x.info) db.indexes))))
  where
    at : RelInfo → List Column
    at i = columns_from (f.file i.key) 0 i.attrs

    whole : (xs ys zs : List RelInfo) → flat_map at (xs ++ (ys ++ zs)) ≡ flat_map at xs ++ (flat_map at ys ++ flat_map at zs)
    whole xs ys zs = flat_map-append at xs (ys ++ zs) ∙ ap (λ l. flat_map at xs ++ l) (flat_map-append at ys zs)

-- ---- what differs

-- entries have different files
abbrev pub same_file : Entry → Entry → Bool
same_file a b = b.file == a.file

-- What is to be known of a database and its files: they differ, and rules and permits stand on relations.
pub record Stands (f : Files) (db : Db) : Type 0 where
  pub files_differ : differ_by nat_eq (map (λ i. f.file i.key) (entries db)) ≡ true
  pub is : IsDatabase db

module _ (f : Files) (db : Db) (s : Stands f db) where
  pub entries_are_apart : Pairs (λ a b. same_file a b ≡ false) (entries_for f db)
  entries_are_apart = entries_differ f db s.files_differ

  pub attributes_are_apart : Pairs (λ a b. same_owner a b ≡ false) (attributes_for f db)
  attributes_are_apart =
      subst (Pairs (λ a b. same_owner a b ≡ false)) three
      (pairs_map (λ a b. same_owner a b ≡ false) (attributes f) (entries db) (infos_differ f db s.files_differ))
    where
      mapped : {X : Type 0} (k : X → RelInfo) (xs : List X) (is : List RelInfo) (rest : List Attributes) → map (attributes f) is ≡ rest → map (attributes f) (map k xs ++ is) ≡ map (λ x. attributes f (k x)) xs ++ rest
      mapped k [] is rest e = e
      mapped k (x ∷ xs) is rest e = ap (λ l. attributes f (k x) ∷ l) (mapped k xs is rest e)

      last : (xs : List Index) → map (attributes f) (map (λ x. x.info) xs) ≡ map (λ x. attributes f x.info) xs
      last [] = refl
      last (x ∷ xs) = ap (λ l. attributes f x.info ∷ l) (last xs)

      three : map (attributes f) (entries db) ≡ attributes_for f db
      three = mapped (λ (r : Relation). r.info) db.relations _ _ (mapped (λ (v : View). v.info) db.views _ _ (last db.indexes))

  pub rules_there : AllByRecursion (λ p. is_relation db p.0 ≡ true) db.rules
  rules_there =
      all_then (λ p. (is_relation db p.0 && valid_row_qual db p.0 p.1.qual) ≡ true) (λ p. is_relation db p.0 ≡ true) db.rules
      (λ p e. (both (is_relation db p.0) (valid_row_qual db p.0 p.1.qual) e).0) (pass_all (λ p. is_relation db p.0 && valid_row_qual db p.0 p.1.qual) db.rules s.is.rules_stand)

  pub permits_there : AllByRecursion (λ p. is_relation db p.0 ≡ true) db.permits
  permits_there =
      all_then (λ p. valid_permit db p.0 p.1 ≡ true) (λ p. is_relation db p.0 ≡ true) db.permits
      (λ p e. (both (is_relation db p.0) _ e).0) (pass_all (λ p. valid_permit db p.0 p.1) db.permits s.is.permits_stand)

  pub trees_are_apart : Pairs (λ t u. same_tree t u ≡ false) (trees_for f db)
  trees_are_apart = trees_differ f db s.files_differ s.is.rules_ascend s.is.permits_ascend rules_there permits_there

  -- ---- each list

  pub relation_entries : Pairs (λ a b. same_file a b ≡ false) (map (relation_entry f) db.relations)
  unfolding entries_for
  relation_entries = pairs_front (λ a b. same_file a b ≡ false) _ _ entries_are_apart

  pub view_entries : Pairs (λ a b. same_file a b ≡ false) (map (view_entry f) db.views)
  unfolding entries_for
  view_entries = pairs_front (λ a b. same_file a b ≡ false) _ (map (index_entry f) db.indexes) (pairs_behind (λ a b. same_file a b ≡ false) (map (relation_entry f) db.relations) _ entries_are_apart)

  pub index_entries : Pairs (λ a b. same_file a b ≡ false) (map (index_entry f) db.indexes)
  unfolding entries_for
  index_entries = pairs_behind (λ a b. same_file a b ≡ false) (map (view_entry f) db.views) _ (pairs_behind (λ a b. same_file a b ≡ false) (map (relation_entry f) db.relations) _ entries_are_apart)

  pub relation_attributes : Pairs (λ a b. same_owner a b ≡ false) (map (λ (r : Relation). attributes f r.info) db.relations)
  relation_attributes = pairs_front (λ a b. same_owner a b ≡ false) _ _ attributes_are_apart

  behind : Pairs (λ a b. same_owner a b ≡ false) (map (λ (v : View). attributes f v.info) db.views ++ map (λ (x : Index). attributes f x.info) db.indexes)
  behind = pairs_behind (λ a b. same_owner a b ≡ false) (map (λ (r : Relation). attributes f r.info) db.relations) _ attributes_are_apart

  pub view_attributes : Pairs (λ a b. same_owner a b ≡ false) (map (λ (v : View). attributes f v.info) db.views)
  view_attributes = pairs_front (λ a b. same_owner a b ≡ false) _ (map (λ (x : Index). attributes f x.info) db.indexes) behind

  pub index_attributes : Pairs (λ a b. same_owner a b ≡ false) (map (λ (x : Index). attributes f x.info) db.indexes)
  index_attributes = pairs_behind (λ a b. same_owner a b ≡ false) (map (λ (v : View). attributes f v.info) db.views) _ behind

  pub view_trees : Pairs (λ t u. same_tree t u ≡ false) (map (view_tree f) db.views)
  view_trees = pairs_front (λ t u. same_tree t u ≡ false) _ _ trees_are_apart

  numbered : Pairs (λ t u. same_tree t u ≡ false) (map (rule_tree f) db.rules ++ map (permit_tree f) db.permits)
  numbered = pairs_behind (λ t u. same_tree t u ≡ false) (map (view_tree f) db.views) _ trees_are_apart

  pub rule_trees : Pairs (λ t u. same_tree t u ≡ false) (map (rule_tree f) db.rules)
  rule_trees = pairs_front (λ t u. same_tree t u ≡ false) _ (map (permit_tree f) db.permits) numbered

  pub permit_trees : Pairs (λ t u. same_tree t u ≡ false) (map (permit_tree f) db.permits)
  permit_trees = pairs_behind (λ t u. same_tree t u ≡ false) (map (rule_tree f) db.rules) _ numbered

-- ---- the three sets

-- a change of a set, where the rows are the same
carried : {A : Type 0} {cmp : A → A → Ordering} {g k c d s t : List A} → g ≡ k → c ≡ d → s ≡ t → IsChange cmp g c s → IsChange cmp k d t
carried {A} {cmp} p q r = subst (λ (l : List A × List A × List A). IsChange cmp l.0 l.1 l.2) (λ i. (p i, q i, r i))

-- What a catalogue is made of goes and comes.
pub record MovedAll (f : Files) (db : Db) (after : Files) (new : Db) (going coming : Catalogue) : Type 0 where
  pub gone_attributes : List Attributes
  pub come_attributes : List Attributes
  pub gone_trees : List Tree
  pub come_trees : List Tree
  pub gone_columns_are : going.columns ≡ flat_map columns_of gone_attributes
  pub come_columns_are : coming.columns ≡ flat_map columns_of come_attributes
  pub gone_parts_are : going.parts ≡ flat_map parts_of gone_trees
  pub come_parts_are : coming.parts ≡ flat_map parts_of come_trees
  pub entries : Moved same_file (entries_for f db) going.entries coming.entries (entries_for after new)
  pub columns : Moved same_owner (attributes_for f db) gone_attributes come_attributes (attributes_for after new)
  pub trees : Moved same_tree (trees_for f db) gone_trees come_trees (trees_for after new)

module _ (f : Files) (db : Db) (after : Files) (new : Db) (going coming : Catalogue) (stands : Stands f db) (new_allowed : Stands after new) (all : MovedAll f db after new going coming) where
  entries_after : in_order entry_cmp (entries_for after new) ≡ after_change entry_cmp going.entries coming.entries (in_order entry_cmp (entries_for f db))
  entries_after =
      ap (in_order entry_cmp) (sym (singles (entries_for after new)))
      ∙ set_after grouped_entries (entries_for f db) going.entries coming.entries (entries_for after new) all.entries (entries_are_apart f db stands) (entries_are_apart after new new_allowed)
      ∙ (λ i. after_change entry_cmp (singles going.entries i) (singles coming.entries i) (in_order entry_cmp (singles (entries_for f db) i)))

  columns_after : in_order column_cmp (columns_for after new) ≡ after_change column_cmp going.columns coming.columns (in_order column_cmp (columns_for f db))
  columns_after =
      ap (in_order column_cmp) (columns_are after new)
      ∙ set_after grouped_attributes (attributes_for f db) all.gone_attributes all.come_attributes (attributes_for after new) all.columns (attributes_are_apart f db stands) (attributes_are_apart after new new_allowed)
      ∙ (λ i. after_change column_cmp (sym all.gone_columns_are i) (sym all.come_columns_are i) (in_order column_cmp (sym (columns_are f db) i)))

  parts_after : in_order part_cmp (parts_for after new) ≡ after_change part_cmp going.parts coming.parts (in_order part_cmp (parts_for f db))
  parts_after =
      ap (in_order part_cmp) (parts_are after new)
      ∙ set_after grouped_trees (trees_for f db) all.gone_trees all.come_trees (trees_for after new) all.trees (trees_are_apart f db stands) (trees_are_apart after new new_allowed)
      ∙ (λ i. after_change part_cmp (sym all.gone_parts_are i) (sym all.come_parts_are i) (in_order part_cmp (sym (parts_are f db) i)))

  pub catalogue_after : printed new after ≡ changed going coming (printed db f)
  unfolding printed changed
  catalogue_after = λ i. record { entries = entries_after i; columns = columns_after i; parts = parts_after i }

  entries_change : IsChange entry_cmp going.entries coming.entries (in_order entry_cmp (entries_for f db))
  entries_change =
      carried (singles going.entries) (singles coming.entries) (ap (in_order entry_cmp) (singles (entries_for f db)))
      (set_changes grouped_entries (entries_for f db) going.entries coming.entries (entries_for after new) all.entries (entries_are_apart f db stands) (entries_are_apart after new new_allowed))

  columns_change : IsChange column_cmp going.columns coming.columns (in_order column_cmp (columns_for f db))
  columns_change =
      carried (sym all.gone_columns_are) (sym all.come_columns_are) (ap (in_order column_cmp) (sym (columns_are f db)))
      (set_changes grouped_attributes (attributes_for f db) all.gone_attributes all.come_attributes (attributes_for after new) all.columns (attributes_are_apart f db stands) (attributes_are_apart after new new_allowed))

  parts_change : IsChange part_cmp going.parts coming.parts (in_order part_cmp (parts_for f db))
  parts_change =
      carried (sym all.gone_parts_are) (sym all.come_parts_are) (ap (in_order part_cmp) (sym (parts_are f db)))
      (set_changes grouped_trees (trees_for f db) all.gone_trees all.come_trees (trees_for after new) all.trees (trees_are_apart f db stands) (trees_are_apart after new new_allowed))

  pub rows_change : AreChanges going coming (printed db f)
  unfolding printed
  rows_change = record { entries = entries_change; columns = columns_change; parts = parts_change }
