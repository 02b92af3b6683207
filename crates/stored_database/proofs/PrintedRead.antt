-- What is printed is read again: each relation, index, view, rule and permit, and so the database.
use Rattle.std.proofs.Common.{◌≡◌, refl, sym, ap, ap₂, ◌∙◌, true≢false, ℕ, ◌&&◌, not, Bool, true, false, List, [], ◌∷◌, ◌++◌, map, filter, Option, Some, None}
use Rattle.std.proofs.lemmas.Bool.{and_parts}
use Rattle.std.proofs.lemmas.Cmp.{on_total}
use Rattle.std.proofs.lemmas.List.{append-nil}
use Rattle.std.specs.List.{AllByRecursion}
use Rattle.std.specs.List.Sorted.{IsStrictlySortedBy}
use Rattle.std.specs.declared.cmp.Ordering.{Ordering}
use Rattle.std.specs.declared.cmp.Ordering.TheVariants.{Less}
use Rattle.calculus.specs.declared.schema.Attr.{Attr}
use Rattle.calculus.specs.declared.schema.RelInfo.{RelInfo}
use Rattle.calculus.specs.declared.schema.Spec.{Spec}
use Rattle.calculus.specs.declared.schema.Spec.TheVariants.{Heap, Hash, Isam, View, Index}
use Rattle.calculus.specs.Database as database
use Rattle.calculus.specs.IsDatabase.{IsDatabase, valid_structure, valid_view_info, valid_index, keys_stand}
use Rattle.calculus.specs.Keys.{key_cmp}
use Rattle.calculus.specs.Lists.{is_any}
use Rattle.calculus.specs.Stored.{attrs_at}
use Rattle.calculus.specs.Structures.{is_structure, is_keyed, is_view, is_index}
use Rattle.page_chain.specs.Lists.{◌>>=◌, each}
use Rattle.page_chain.specs.Pages.{Pages}
use Rattle.page_chain.specs.Rows.{set_on, reader}
use Rattle.stored_database.specs.Entries.{Entry}
use Rattle.stored_database.specs.Printed.{Files, HasFiles, relation_entry, view_entry, index_entry, entries_for, printed, rows_in}
use Rattle.stored_database.specs.Spelled.{attrs_of, domain_of, entry_at, info_of, relation_of, relations_of, index_of, indexes_of}
use Rattle.stored_database.proofs.Members.{of_all}
use Rattle.stored_database.proofs.Pairs.{all_front, all_map, all_unmap, pass_all}
use Rattle.stored_database.proofs.InOrder.{read_again}
use Rattle.stored_database.proofs.Groups.{filter_append, filter_pass, filter_fail}
use Rattle.stored_database.proofs.Orders.{entry_total, key_total}
use Rattle.stored_database.proofs.PrintedColumns.{attrs_at as printed_attrs}
use Rattle.stored_database.proofs.PrintedEntries.{entries_apart, relations_at}
use Rattle.stored_database.proofs.PrintedTrees.{relation_under}

-- ---- general

-- what is read first and then made into something
pub bind_through : {A B C : Type 0} (o : Option A) (g : A → Option B) (k : B → Option C) (b : B) → (o >>= g) ≡ Some b → (o >>= (λ a. g a >>= k)) ≡ k b
bind_through None g k b e = cc e
bind_through (Some a) g k b e = ap (λ o. o >>= k) e

-- items ascend by what they are mapped to
pub unmap_sorted : {A B : Type 0} (cmp : B → B → Ordering) (h : A → B) (xs : List A) → IsStrictlySortedBy cmp (map h xs) → IsStrictlySortedBy (λ a b. cmp (h a) (h b)) xs
unfolding IsStrictlySortedBy
unmap_sorted cmp h [] sorted = tt
unmap_sorted cmp h (x ∷ xs) sorted = (all_unmap (λ y. cmp (h x) y ≡ Less) h xs sorted.0, unmap_sorted cmp h xs sorted.1)

-- mapped items that all pass, and that all fail
pub mapped_pass : {A B : Type 0} (test : B → Bool) (h : A → B) (xs : List A) → AllByRecursion (λ x. test (h x) ≡ true) xs → filter test (map h xs) ≡ map h xs
mapped_pass test h xs all = filter_pass test (map h xs) (all_map (λ y. test y ≡ true) h xs all)

pub mapped_fail : {A B : Type 0} (test : B → Bool) (h : A → B) (xs : List A) → AllByRecursion (λ x. test (h x) ≡ false) xs → filter test (map h xs) ≡ []
mapped_fail test h xs all = filter_fail test (map h xs) (all_map (λ y. test y ≡ false) h xs all)

-- ---- what stands in a database

structure_is : (info : RelInfo) → valid_structure info ≡ true → is_structure info.spec ≡ true
structure_is info e = go info.spec (is_any info.keys && keys_stand info.attrs info.keys) (not (is_any info.keys)) e
  where
    go : (s : Spec) (a b : Bool) → (elim (is_keyed s) as (λ t. Bool) [ true ↦ a | false ↦ is_structure s && b ]) ≡ true → is_structure s ≡ true
    go Heap a b e = refl
    go Hash a b e = refl
    go Isam a b e = refl
    go View a b e = e
    go Index a b e = e

-- each test of a structure
pub record Kinds (s : Spec) (structure view index : Bool) : Type 0 where
  pub of_structure : is_structure s ≡ structure
  pub of_view : is_view s ≡ view
  pub of_index : is_index s ≡ index

structure_kinds : (s : Spec) → is_structure s ≡ true → Kinds s true false false
structure_kinds Heap e = record { of_structure = refl; of_view = refl; of_index = refl }
structure_kinds Hash e = record { of_structure = refl; of_view = refl; of_index = refl }
structure_kinds Isam e = record { of_structure = refl; of_view = refl; of_index = refl }
structure_kinds View e = absurd (true≢false (sym e))
structure_kinds Index e = absurd (true≢false (sym e))

view_kinds : (s : Spec) → is_view s ≡ true → Kinds s false true false
view_kinds Heap e = absurd (true≢false (sym e))
view_kinds Hash e = absurd (true≢false (sym e))
view_kinds Isam e = absurd (true≢false (sym e))
view_kinds View e = record { of_structure = refl; of_view = refl; of_index = refl }
view_kinds Index e = absurd (true≢false (sym e))

index_kinds : (s : Spec) → is_index s ≡ true → Kinds s false false true
index_kinds Heap e = absurd (true≢false (sym e))
index_kinds Hash e = absurd (true≢false (sym e))
index_kinds Isam e = absurd (true≢false (sym e))
index_kinds View e = absurd (true≢false (sym e))
index_kinds Index e = record { of_structure = refl; of_view = refl; of_index = refl }

no_attrs : (attrs : List Attr) → not (is_any attrs) ≡ true → attrs ≡ []
no_attrs [] e = refl
no_attrs (a ∷ attrs) e = absurd (true≢false (sym e))

module _ (db : database.Db) (d : IsDatabase db) where
  pub relation_kinds : AllByRecursion (λ r. Kinds r.info.spec true false false) db.relations
  relation_kinds = go db.relations (pass_all (λ r. valid_structure r.info) db.relations d.structures_stand)
    where
      go : (rs : List database.Relation) → AllByRecursion (λ r. valid_structure r.info ≡ true) rs → AllByRecursion (λ r. Kinds r.info.spec true false false) rs
      go [] all = tt
      go (r ∷ rs) all = (structure_kinds r.info.spec (structure_is r.info all.0), go rs all.1)

  pub viewed_kinds : AllByRecursion (λ v. Kinds v.info.spec false true false) db.views
  viewed_kinds = go db.views (pass_all (λ v. valid_view_info v.info) db.views d.view_infos_stand)
    where
      go : (vs : List database.View) → AllByRecursion (λ v. valid_view_info v.info ≡ true) vs → AllByRecursion (λ v. Kinds v.info.spec false true false) vs
      go [] all = tt
      go (v ∷ vs) all = (view_kinds v.info.spec (and_parts (is_view v.info.spec) (not (is_any v.info.keys)) all.0).0, go vs all.1)

  pub indexed_kinds : AllByRecursion (λ x. Kinds x.info.spec false false true × (database.is_relation db x.base ≡ true) × (x.info.attrs ≡ [])) db.indexes
  indexed_kinds = go db.indexes (pass_all (valid_index db) db.indexes d.indexes_stand)
    where
      go : (xs : List database.Index) → AllByRecursion (λ x. valid_index db x ≡ true) xs → AllByRecursion (λ x. Kinds x.info.spec false false true × (database.is_relation db x.base ≡ true) × (x.info.attrs ≡ [])) xs
      go [] all = tt
      go (x ∷ xs) all =
          let keyed = is_any x.info.keys && keys_stand (attrs_at db x.base) x.info.keys in
          let one = and_parts (is_index x.info.spec) (database.is_relation db x.base && (not (is_any x.info.attrs) && keyed)) all.0 in
          let two = and_parts (database.is_relation db x.base) (not (is_any x.info.attrs) && keyed) one.1 in
          let three = and_parts (not (is_any x.info.attrs)) keyed two.1 in
          ((index_kinds x.info.spec one.0, two.0, no_attrs x.info.attrs three.0), go xs all.1)

-- ---- relations and indexes

module _ (files : ℕ → Pages) (f : Files) (db : database.Db) (d : IsDatabase db) (has : HasFiles db files f) where
  -- the entries that pass a test, of each sort
  pub three_sorts : (test : Entry → Bool) → filter test (entries_for f db) ≡ filter test (map (relation_entry f) db.relations) ++ (filter test (map (view_entry f) db.views) ++ filter test (map (index_entry f) db.indexes))
  unfolding entries_for
  three_sorts test =
      filter_append test (map (relation_entry f) db.relations) (map (view_entry f) db.views ++ map (index_entry f) db.indexes)
      ∙ ap (λ l. filter test (map (relation_entry f) db.relations) ++ l) (filter_append test (map (view_entry f) db.views) (map (index_entry f) db.indexes))

  relation_entries : filter (λ e. is_structure e.spec) (entries_for f db) ≡ map (relation_entry f) db.relations
  relation_entries =
      three_sorts (λ e. is_structure e.spec)
      ∙ ap₂ (λ (k l : List Entry). k ++ l) (mapped_pass (λ e. is_structure e.spec) (relation_entry f) db.relations (pick_relations db.relations (relation_kinds db d)))
      (ap₂ (λ (k l : List Entry). k ++ l) (mapped_fail (λ e. is_structure e.spec) (view_entry f) db.views (pick_views db.views (viewed_kinds db d)))
      (mapped_fail (λ e. is_structure e.spec) (index_entry f) db.indexes (pick_indexes db.indexes (indexed_kinds db d))))
      ∙ append-nil (map (relation_entry f) db.relations)
    where
      pick_relations : (rs : List database.Relation) → AllByRecursion (λ r. Kinds r.info.spec true false false) rs → AllByRecursion (λ (r : database.Relation). is_structure r.info.spec ≡ true) rs
      pick_relations [] all = tt
      pick_relations (r ∷ rs) all = (all.0.of_structure, pick_relations rs all.1)

      pick_views : (vs : List database.View) → AllByRecursion (λ v. Kinds v.info.spec false true false) vs → AllByRecursion (λ (v : database.View). is_structure v.info.spec ≡ false) vs
      pick_views [] all = tt
      pick_views (v ∷ vs) all = (all.0.of_structure, pick_views vs all.1)

      pick_indexes : (xs : List database.Index) → AllByRecursion (λ x. Kinds x.info.spec false false true × (database.is_relation db x.base ≡ true) × (x.info.attrs ≡ [])) xs → AllByRecursion (λ (x : database.Index). is_structure x.info.spec ≡ false) xs
      pick_indexes [] all = tt
      pick_indexes (x ∷ xs) all = (all.0.0.of_structure, pick_indexes xs all.1)

  -- one relation
  one_relation : (r : database.Relation) → attrs_of (printed db f) (f.file r.info.key) ≡ Some r.info.attrs → rows_in files f r ≡ Some r.rows → relation_of files (printed db f) (relation_entry f r) ≡ Some r
  unfolding relation_of rows_in
  one_relation r attrs rows =
      ap (λ o. o >>= (λ attrs. each domain_of attrs >>= (λ domains. set_on (reader domains) (f.used r.info.key) (files (f.file r.info.key)) >>= (λ rows. Some (record { info = info_of (relation_entry f r) attrs; rows = rows }))))) attrs
      ∙ bind_through (each domain_of r.info.attrs) (λ domains. set_on (reader domains) (f.used r.info.key) (files (f.file r.info.key))) (λ rows. Some (record { info = info_of (relation_entry f r) r.info.attrs; rows = rows })) r.rows rows

  pub relation_attrs : AllByRecursion (λ r. attrs_of (printed db f) (f.file r.info.key) ≡ Some r.info.attrs) db.relations
  relation_attrs =
      all_unmap (λ (i : RelInfo). attrs_of (printed db f) (f.file i.key) ≡ Some i.attrs) (λ (r : database.Relation). r.info) db.relations
      (all_front (λ (i : RelInfo). attrs_of (printed db f) (f.file i.key) ≡ Some i.attrs) (map (λ (r : database.Relation). r.info) db.relations) _ (printed_attrs f db has.files_differ))

  each_relation : AllByRecursion (λ r. relation_of files (printed db f) (relation_entry f r) ≡ Some r) db.relations
  each_relation = go db.relations relation_attrs has.rows
    where
      go : (rs : List database.Relation) → AllByRecursion (λ r. attrs_of (printed db f) (f.file r.info.key) ≡ Some r.info.attrs) rs → AllByRecursion (λ r. rows_in files f r ≡ Some r.rows) rs
          → AllByRecursion (λ r. relation_of files (printed db f) (relation_entry f r) ≡ Some r) rs
      go [] attrs rows = tt
      go (r ∷ rs) attrs rows = (one_relation r attrs.0 rows.0, go rs attrs.1 rows.1)

  -- the relations are read again
  pub relations_read : relations_of files (printed db f) ≡ Some db.relations
  unfolding relations_of printed
  relations_read =
      read_again (on_total (λ (r : database.Relation). r.info.key) key_total) entry_total (relation_of files (printed db f)) (relation_entry f) (λ e. is_structure e.spec) db.relations (entries_for f db)
      (entries_apart f db has.files_differ) relation_entries (unmap_sorted key_cmp (λ (r : database.Relation). r.info.key) db.relations d.relations_ascend) each_relation

  index_entries : filter (λ e. is_index e.spec) (entries_for f db) ≡ map (index_entry f) db.indexes
  index_entries =
      three_sorts (λ e. is_index e.spec)
      ∙ ap₂ (λ (k l : List Entry). k ++ l) (mapped_fail (λ e. is_index e.spec) (relation_entry f) db.relations (pick_relations db.relations (relation_kinds db d)))
      (ap₂ (λ (k l : List Entry). k ++ l) (mapped_fail (λ e. is_index e.spec) (view_entry f) db.views (pick_views db.views (viewed_kinds db d)))
      (mapped_pass (λ e. is_index e.spec) (index_entry f) db.indexes (pick_indexes db.indexes (indexed_kinds db d))))
    where
      pick_relations : (rs : List database.Relation) → AllByRecursion (λ r. Kinds r.info.spec true false false) rs → AllByRecursion (λ (r : database.Relation). is_index r.info.spec ≡ false) rs
      pick_relations [] all = tt
      pick_relations (r ∷ rs) all = (all.0.of_index, pick_relations rs all.1)

      pick_views : (vs : List database.View) → AllByRecursion (λ v. Kinds v.info.spec false true false) vs → AllByRecursion (λ (v : database.View). is_index v.info.spec ≡ false) vs
      pick_views [] all = tt
      pick_views (v ∷ vs) all = (all.0.of_index, pick_views vs all.1)

      pick_indexes : (xs : List database.Index) → AllByRecursion (λ x. Kinds x.info.spec false false true × (database.is_relation db x.base ≡ true) × (x.info.attrs ≡ [])) xs → AllByRecursion (λ (x : database.Index). is_index x.info.spec ≡ true) xs
      pick_indexes [] all = tt
      pick_indexes (x ∷ xs) all = (all.0.0.of_index, pick_indexes xs all.1)

  -- one index
  one_index : (x : database.Index) → database.is_relation db x.base ≡ true → x.info.attrs ≡ [] → index_of (printed db f) (index_entry f x) ≡ Some x
  unfolding index_of
  one_index x there none =
      let r = relation_under db x.base there in
      let at : entry_at (printed db f) (f.file x.base) ≡ Some (relation_entry f r.relation)
      = ap (λ k. entry_at (printed db f) (f.file k)) (sym r.its) ∙ of_all (λ r. entry_at (printed db f) (f.file r.info.key) ≡ Some (relation_entry f r)) db.relations r.relation (relations_at f db has.files_differ) r.there in
      ap (λ o. o >>= (λ base. Some (record { info = info_of (index_entry f x) []; base = base.key }))) at
      ∙ (λ i. Some (record { info = record { key = x.info.key; spec = x.info.spec; attrs = sym none i; keys = x.info.keys }; base = r.its i }))

  each_index : AllByRecursion (λ x. index_of (printed db f) (index_entry f x) ≡ Some x) db.indexes
  each_index = go db.indexes (indexed_kinds db d)
    where
      go : (xs : List database.Index) → AllByRecursion (λ x. Kinds x.info.spec false false true × (database.is_relation db x.base ≡ true) × (x.info.attrs ≡ [])) xs → AllByRecursion (λ x. index_of (printed db f) (index_entry f x) ≡ Some x) xs
      go [] all = tt
      go (x ∷ xs) all = (one_index x all.0.1 all.0.2, go xs all.1)

  -- the indexes are read again
  pub indexes_read : indexes_of (printed db f) ≡ Some db.indexes
  unfolding indexes_of printed
  indexes_read =
      read_again (on_total (λ (x : database.Index). x.info.key) key_total) entry_total (index_of (printed db f)) (index_entry f) (λ e. is_index e.spec) db.indexes (entries_for f db)
      (entries_apart f db has.files_differ) index_entries (unmap_sorted key_cmp (λ (x : database.Index). x.info.key) db.indexes d.indexes_ascend) each_index
