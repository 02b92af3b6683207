-- What is printed is read again: views, rules and permits, and with them the whole database.
use Rattle.std.proofs.Common.{◌≡◌, sym, ap, ap₂, subst, ◌∙◌, ℕ, ◌<◌, ◌==◌, ◌&&◌, not, Bool, true, false, List, [], ◌∷◌, ◌++◌, map, filter, length, Option, Some, None}
use Rattle.std.specs.Prelude.{is_some}
use Rattle.std.proofs.lemmas.Bool.{and_parts, and_from}
use Rattle.std.proofs.lemmas.Cmp.{on_total}
use Rattle.std.proofs.lemmas.List.{append-nil}
use Rattle.std.specs.List.{AllByRecursion, list_all}
use Rattle.calculus.specs.declared.query.RelKey.{RelKey}
use Rattle.calculus.specs.declared.schema.Permit.{Permit}
use Rattle.calculus.specs.declared.schema.RelInfo.{RelInfo}
use Rattle.calculus.specs.declared.schema.Rule.{Rule}
use Rattle.calculus.specs.declared.schema.Spec.{Spec}
use Rattle.calculus.specs.Database as database
use Rattle.calculus.specs.IsDatabase.{IsDatabase, valid_row_qual, valid_permit}
use Rattle.calculus.specs.Keys.{key_cmp}
use Rattle.calculus.specs.Structures.{is_structure, is_view, is_index}
use Rattle.page_chain.specs.Lists.{◌>>=◌, when, check, in_order}
use Rattle.page_chain.specs.Pages.{Pages}
use Rattle.quel_tree.specs.Message.{most_tree_levels}
use Rattle.quel_tree.specs.Permits as spellings
use Rattle.quel_tree.specs.Queries as queries
use Rattle.stored_database.specs.Catalogue.{Catalogue}
use Rattle.stored_database.specs.Columns.{Column}
use Rattle.stored_database.specs.Entries.{Entry}
use Rattle.stored_database.specs.Parts.{Part, part_cmp, of_view, of_rule, of_permit}
use Rattle.stored_database.specs.Printed.{Files, HasFiles, relation_entry, view_entry, index_entry, entries_for, parts_for, columns_from, printed}
use Rattle.stored_database.specs.Spelled.{attrs_of, entry_at, entry_is, info_of, view_of, views_of, numbered_of, rules_of, permits_of, columns_stand, part_stands, parts_stand, spelled}
use Rattle.stored_database.specs.Trees.{tree_bytes, query_of, rule_of, permit_of, tree_at, parts_are_whole, cut}
use Rattle.stored_database.proofs.Members.{of_all}
use Rattle.stored_database.proofs.Pairs.{all_front, all_behind, all_map, all_unmap, all_append, all_flat, all_then, all_each, all_pass, pass_all}
use Rattle.stored_database.proofs.InOrder.{all_in_order, read_again}
use Rattle.stored_database.proofs.Orders.{entry_total, key_total, part_total, numbered_total}
use Rattle.stored_database.proofs.Pieces.{parts_of_tree}
use Rattle.stored_database.proofs.PrintedColumns.{attrs_at, columns_of_file, columns_do_stand, no_columns}
use Rattle.stored_database.proofs.PrintedEntries.{entries_apart, relations_at, views_at}
use Rattle.stored_database.proofs.PrintedParts.{first_part, is_first, rule_firsts, permit_firsts}
use Rattle.stored_database.proofs.PrintedRead.{Kinds, relation_kinds, viewed_kinds, indexed_kinds, three_sorts, mapped_pass, mapped_fail, unmap_sorted, relations_read, indexes_read}
use Rattle.stored_database.proofs.PrintedTrees.{parts_of, view_tree, rule_tree, permit_tree, numbered_tree, trees_for, parts_are, parts_apart, trees_at, relation_under}
use Rattle.stored_database.proofs.Reading.{number_itself}
use Rattle.stored_database.proofs.SpelledTrees.{AreSpelled, query_again, rule_again, permit_again, query_has_bytes, rule_has_bytes, permit_has_bytes}

-- the test of the entry that is found
entry_is_from : (test : Spec → Bool) (cat : Catalogue) (n : ℕ) (e : Entry) → entry_at cat n ≡ Some e → entry_is test cat n ≡ test e.spec
unfolding entry_is
entry_is_from test cat n e at = ap (λ (o : Option Entry). elim o [ None ↦ false | Some e ↦ test e.spec ]) at

-- a tree of this file, sort and number belongs to what is there
abbrev belongs : Catalogue → ℕ → ℕ → ℕ → Bool
belongs cat file sort number = elim (sort == of_view) [ true ↦ (number == 0) && entry_is is_view cat file | false ↦ entry_is is_structure cat file ]

module _ (files : ℕ → Pages) (f : Files) (db : database.Db) (d : IsDatabase db) (has : HasFiles db files f) (spells : AreSpelled db) where
  -- ---- where rules and permits stand

  rules_there : AllByRecursion (λ p. database.is_relation db p.0 ≡ true) db.rules
  rules_there =
      all_then (λ p. (database.is_relation db p.0 && valid_row_qual db p.0 p.1.qual) ≡ true) (λ p. database.is_relation db p.0 ≡ true) db.rules
      (λ p e. (and_parts (database.is_relation db p.0) (valid_row_qual db p.0 p.1.qual) e).0)
      (pass_all (λ p. database.is_relation db p.0 && valid_row_qual db p.0 p.1.qual) db.rules d.rules_stand)

  permits_there : AllByRecursion (λ p. database.is_relation db p.0 ≡ true) db.permits
  permits_there =
      all_then (λ p. valid_permit db p.0 p.1 ≡ true) (λ p. database.is_relation db p.0 ≡ true) db.permits
      (λ p e. (and_parts (database.is_relation db p.0) _ e).0) (pass_all (λ p. valid_permit db p.0 p.1) db.permits d.permits_stand)

  -- the entry of a key's file
  record EntryOf (key : RelKey) : Type 0 where
    entry : Entry
    at : entry_at (printed db f) (f.file key) ≡ Some entry
    its : entry.key ≡ key
    kinds : Kinds entry.spec true false false

  entry_of_key : (key : RelKey) → database.is_relation db key ≡ true → EntryOf key
  entry_of_key key there =
      let r = relation_under db key there in record {
        entry = relation_entry f r.relation;
        at = ap (λ k. entry_at (printed db f) (f.file k)) (sym r.its) ∙ of_all (λ r. entry_at (printed db f) (f.file r.info.key) ≡ Some (relation_entry f r)) db.relations r.relation (relations_at f db has.files_differ) r.there;
        its = r.its;
        kinds = of_all (λ r. Kinds r.info.spec true false false) db.relations r.relation (relation_kinds db d) r.there;
      }

  -- ---- trees

  have_bytes : AllByRecursion (λ t. 0 < length t.bytes) (trees_for f db)
  have_bytes =
      all_append (λ t. 0 < length t.bytes) (map (view_tree f) db.views) (map (rule_tree f) db.rules ++ map (permit_tree f) db.permits)
      (all_map (λ t. 0 < length t.bytes) (view_tree f) db.views
      (all_then (λ v. (queries.query most_tree_levels).Fits v.query) (λ v. 0 < length (tree_bytes queries.query v.query)) db.views (λ v fits. query_has_bytes v.query fits) spells.views))
      (all_append (λ t. 0 < length t.bytes) (map (rule_tree f) db.rules) (map (permit_tree f) db.permits)
      (all_map (λ t. 0 < length t.bytes) (rule_tree f) db.rules (all_each (λ p. 0 < length (tree_bytes spellings.rule p.1)) db.rules (λ p. rule_has_bytes p.1)))
      (all_map (λ t. 0 < length t.bytes) (permit_tree f) db.permits (all_each (λ p. 0 < length (tree_bytes spellings.permit p.1)) db.permits (λ p. permit_has_bytes p.1))))

  found : AllByRecursion (λ t. tree_at (printed db f).parts t.file t.sort t.number ≡ Some t.bytes) (trees_for f db)
  found = trees_at f db has.files_differ d.rules_ascend d.permits_ascend rules_there permits_there have_bytes

  view_trees : AllByRecursion (λ v. tree_at (printed db f).parts (f.file v.info.key) of_view 0 ≡ Some (tree_bytes queries.query v.query)) db.views
  view_trees = all_unmap (λ t. tree_at (printed db f).parts t.file t.sort t.number ≡ Some t.bytes) (view_tree f) db.views (all_front (λ t. tree_at (printed db f).parts t.file t.sort t.number ≡ Some t.bytes) (map (view_tree f) db.views) (map (rule_tree f) db.rules ++ map (permit_tree f) db.permits) found)

  others : AllByRecursion (λ t. tree_at (printed db f).parts t.file t.sort t.number ≡ Some t.bytes) (map (rule_tree f) db.rules ++ map (permit_tree f) db.permits)
  others = all_behind (λ t. tree_at (printed db f).parts t.file t.sort t.number ≡ Some t.bytes) (map (view_tree f) db.views) (map (rule_tree f) db.rules ++ map (permit_tree f) db.permits) found

  rule_trees : AllByRecursion (λ p. tree_at (printed db f).parts (f.file p.0) of_rule p.1.number ≡ Some (tree_bytes spellings.rule p.1)) db.rules
  rule_trees = all_unmap (λ t. tree_at (printed db f).parts t.file t.sort t.number ≡ Some t.bytes) (rule_tree f) db.rules (all_front (λ t. tree_at (printed db f).parts t.file t.sort t.number ≡ Some t.bytes) (map (rule_tree f) db.rules) (map (permit_tree f) db.permits) others)

  permit_trees : AllByRecursion (λ p. tree_at (printed db f).parts (f.file p.0) of_permit p.1.number ≡ Some (tree_bytes spellings.permit p.1)) db.permits
  permit_trees = all_unmap (λ t. tree_at (printed db f).parts t.file t.sort t.number ≡ Some t.bytes) (permit_tree f) db.permits (all_behind (λ t. tree_at (printed db f).parts t.file t.sort t.number ≡ Some t.bytes) (map (rule_tree f) db.rules) (map (permit_tree f) db.permits) others)

  -- ---- views

  view_entries : filter (λ e. is_view e.spec) (entries_for f db) ≡ map (view_entry f) db.views
  view_entries =
      three_sorts files f db d has (λ e. is_view e.spec)
      ∙ ap₂ (λ (k l : List Entry). k ++ l) (mapped_fail (λ e. is_view e.spec) (relation_entry f) db.relations (pick_relations db.relations (relation_kinds db d)))
      (ap₂ (λ (k l : List Entry). k ++ l) (mapped_pass (λ e. is_view e.spec) (view_entry f) db.views (pick_views db.views (viewed_kinds db d)))
      (mapped_fail (λ e. is_view e.spec) (index_entry f) db.indexes (pick_indexes db.indexes (indexed_kinds db d))))
      ∙ append-nil (map (view_entry f) db.views)
    where
      pick_relations : (rs : List database.Relation) → AllByRecursion (λ r. Kinds r.info.spec true false false) rs → AllByRecursion (λ (r : database.Relation). is_view r.info.spec ≡ false) rs
      pick_relations [] all = tt
      pick_relations (r ∷ rs) all = (all.0.of_view, pick_relations rs all.1)

      pick_views : (vs : List database.View) → AllByRecursion (λ v. Kinds v.info.spec false true false) vs → AllByRecursion (λ (v : database.View). is_view v.info.spec ≡ true) vs
      pick_views [] all = tt
      pick_views (v ∷ vs) all = (all.0.of_view, pick_views vs all.1)

      pick_indexes : (xs : List database.Index) → AllByRecursion (λ x. Kinds x.info.spec false false true × (database.is_relation db x.base ≡ true) × (x.info.attrs ≡ [])) xs → AllByRecursion (λ (x : database.Index). is_view x.info.spec ≡ false) xs
      pick_indexes [] all = tt
      pick_indexes (x ∷ xs) all = (all.0.0.of_view, pick_indexes xs all.1)

  one_view : (v : database.View) → attrs_of (printed db f) (f.file v.info.key) ≡ Some v.info.attrs → tree_at (printed db f).parts (f.file v.info.key) of_view 0 ≡ Some (tree_bytes queries.query v.query)
      → (queries.query most_tree_levels).Fits v.query → view_of (printed db f) (view_entry f v) ≡ Some v
  unfolding view_of
  one_view v attrs tree fits =
      ap (λ o. o >>= (λ attrs. tree_at (printed db f).parts (f.file v.info.key) of_view 0 >>= (λ bytes. query_of bytes >>= (λ query. Some (record { info = info_of (view_entry f v) attrs; query = query }))))) attrs
      ∙ ap (λ o. o >>= (λ bytes. query_of bytes >>= (λ query. Some (record { info = info_of (view_entry f v) v.info.attrs; query = query })))) tree
      ∙ ap (λ o. o >>= (λ query. Some (record { info = info_of (view_entry f v) v.info.attrs; query = query }))) (query_again v.query fits)

  view_attrs : AllByRecursion (λ v. attrs_of (printed db f) (f.file v.info.key) ≡ Some v.info.attrs) db.views
  view_attrs =
      all_unmap (λ (i : RelInfo). attrs_of (printed db f) (f.file i.key) ≡ Some i.attrs) (λ (v : database.View). v.info) db.views
      (all_front (λ (i : RelInfo). attrs_of (printed db f) (f.file i.key) ≡ Some i.attrs) (map (λ (v : database.View). v.info) db.views) (map (λ (x : database.Index). x.info) db.indexes)
      (all_behind (λ (i : RelInfo). attrs_of (printed db f) (f.file i.key) ≡ Some i.attrs) (map (λ (r : database.Relation). r.info) db.relations) _ (attrs_at f db has.files_differ)))

  each_view : AllByRecursion (λ v. view_of (printed db f) (view_entry f v) ≡ Some v) db.views
  each_view = go db.views view_attrs view_trees spells.views
    where
      go : (vs : List database.View) → AllByRecursion (λ v. attrs_of (printed db f) (f.file v.info.key) ≡ Some v.info.attrs) vs
          → AllByRecursion (λ v. tree_at (printed db f).parts (f.file v.info.key) of_view 0 ≡ Some (tree_bytes queries.query v.query)) vs → AllByRecursion (λ v. (queries.query most_tree_levels).Fits v.query) vs
          → AllByRecursion (λ v. view_of (printed db f) (view_entry f v) ≡ Some v) vs
      go [] attrs trees fits = tt
      go (v ∷ vs) attrs trees fits = (one_view v attrs.0 trees.0 fits.0, go vs attrs.1 trees.1 fits.1)

  views_read : views_of (printed db f) ≡ Some db.views
  unfolding views_of printed
  views_read =
      read_again (on_total (λ (v : database.View). v.info.key) key_total) entry_total (view_of (printed db f)) (view_entry f) (λ e. is_view e.spec) db.views (entries_for f db)
      (entries_apart f db has.files_differ) view_entries (unmap_sorted key_cmp (λ (v : database.View). v.info.key) db.views d.views_ascend) each_view

  -- ---- rules and permits

  module _ {X : Type 0} (read : List ℕ → Option X) (number : X → ℕ) (spell : X → List ℕ) (sort : ℕ) where
    one_numbered : (p : RelKey × X) → database.is_relation db p.0 ≡ true → tree_at (printed db f).parts (f.file p.0) sort (number p.1) ≡ Some (spell p.1) → read (spell p.1) ≡ Some p.1
        → numbered_of read number (printed db f) (first_part (numbered_tree f sort number spell p)) ≡ Some p
    unfolding numbered_of
    one_numbered p there tree again =
        let e = entry_of_key p.0 there in
        ap (λ o. o >>= (λ e. tree_at (printed db f).parts (f.file p.0) sort (number p.1) >>= (λ bytes. read bytes >>= (λ x. when (number x == number p.1) (e.key, x))))) e.at
        ∙ ap (λ o. o >>= (λ bytes. read bytes >>= (λ x. when (number x == number p.1) (e.entry.key, x)))) tree
        ∙ ap (λ o. o >>= (λ x. when (number x == number p.1) (e.entry.key, x))) again
        ∙ ap₂ (λ b k. when b (k, p.1)) (number_itself (number p.1)) e.its

    each_numbered : (ps : List (RelKey × X)) → AllByRecursion (λ p. database.is_relation db p.0 ≡ true) ps → AllByRecursion (λ p. tree_at (printed db f).parts (f.file p.0) sort (number p.1) ≡ Some (spell p.1)) ps
        → AllByRecursion (λ p. read (spell p.1) ≡ Some p.1) ps → AllByRecursion (λ p. numbered_of read number (printed db f) (first_part (numbered_tree f sort number spell p)) ≡ Some p) ps
    each_numbered [] there trees again = tt
    each_numbered (p ∷ ps) there trees again = (one_numbered p there.0 trees.0 again.0, each_numbered ps there.1 trees.1 again.1)

  rules_read : rules_of (printed db f) ≡ Some db.rules
  unfolding rules_of printed
  rules_read =
      read_again (numbered_total (λ (r : Rule). r.number)) part_total (numbered_of rule_of (λ r. r.number) (printed db f)) (λ p. first_part (rule_tree f p)) (is_first of_rule) db.rules (parts_for f db)
      (parts_apart f db has.files_differ d.rules_ascend d.permits_ascend rules_there permits_there) (rule_firsts f db) d.rules_ascend
      (each_numbered rule_of (λ r. r.number) (tree_bytes spellings.rule) of_rule db.rules rules_there rule_trees
      (all_then (λ p. (spellings.rule most_tree_levels).Fits p.1) (λ p. rule_of (tree_bytes spellings.rule p.1) ≡ Some p.1) db.rules (λ p fits. rule_again p.1 fits) spells.rules))

  permits_read : permits_of (printed db f) ≡ Some db.permits
  unfolding permits_of printed
  permits_read =
      read_again (numbered_total (λ (p : Permit). p.number)) part_total (numbered_of permit_of (λ p. p.number) (printed db f)) (λ p. first_part (permit_tree f p)) (is_first of_permit) db.permits (parts_for f db)
      (parts_apart f db has.files_differ d.rules_ascend d.permits_ascend rules_there permits_there) (permit_firsts f db) d.permits_ascend
      (each_numbered permit_of (λ p. p.number) (tree_bytes spellings.permit) of_permit db.permits permits_there permit_trees
      (all_then (λ p. (spellings.permit most_tree_levels).Fits p.1) (λ p. permit_of (tree_bytes spellings.permit p.1) ≡ Some p.1) db.permits (λ p fits. permit_again p.1 fits) spells.permits))

  -- ---- what stands in the catalogue

  -- the columns of each are those of a relation or a view
  columns_are_sound : columns_stand (printed db f) ≡ true
  columns_are_sound = columns_do_stand f db has.files_differ
      (all_append P (map (λ (r : database.Relation). r.info) db.relations) (map (λ (v : database.View). v.info) db.views ++ map (λ (x : database.Index). x.info) db.indexes)
      (all_map P (λ (r : database.Relation). r.info) db.relations (of_relations db.relations (relations_at f db has.files_differ) (relation_kinds db d)))
      (all_append P (map (λ (v : database.View). v.info) db.views) (map (λ (x : database.Index). x.info) db.indexes)
      (all_map P (λ (v : database.View). v.info) db.views (of_views db.views (views_at f db has.files_differ) (viewed_kinds db d)))
      (all_map P (λ (x : database.Index). x.info) db.indexes (of_indexes db.indexes (indexed_kinds db d)))))
    where
      P : RelInfo → Type 0
      P i = AllByRecursion (λ (c : Column). entry_is (λ s. not (is_index s)) (printed db f) c.file ≡ true) (columns_from (f.file i.key) 0 i.attrs)

      at_file : (i : RelInfo) (e : Entry) → entry_at (printed db f) (f.file i.key) ≡ Some e → is_index e.spec ≡ false → P i
      at_file i e at other = columns_of_file (λ n. entry_is (λ s. not (is_index s)) (printed db f) n ≡ true) (f.file i.key) 0 i.attrs (entry_is_from (λ s. not (is_index s)) (printed db f) (f.file i.key) e at ∙ ap not other)

      of_relations : (rs : List database.Relation) → AllByRecursion (λ r. entry_at (printed db f) (f.file r.info.key) ≡ Some (relation_entry f r)) rs → AllByRecursion (λ r. Kinds r.info.spec true false false) rs → AllByRecursion (λ r. P r.info) rs
      of_relations [] at kinds = tt
      of_relations (r ∷ rs) at kinds = (at_file r.info (relation_entry f r) at.0 kinds.0.of_index, of_relations rs at.1 kinds.1)

      of_views : (vs : List database.View) → AllByRecursion (λ v. entry_at (printed db f) (f.file v.info.key) ≡ Some (view_entry f v)) vs → AllByRecursion (λ v. Kinds v.info.spec false true false) vs → AllByRecursion (λ v. P v.info) vs
      of_views [] at kinds = tt
      of_views (v ∷ vs) at kinds = (at_file v.info (view_entry f v) at.0 kinds.0.of_index, of_views vs at.1 kinds.1)

      of_indexes : (xs : List database.Index) → AllByRecursion (λ x. Kinds x.info.spec false false true × (database.is_relation db x.base ≡ true) × (x.info.attrs ≡ [])) xs → AllByRecursion (λ x. P x.info) xs
      of_indexes [] all = tt
      of_indexes (x ∷ xs) all = (
        subst (λ attrs. AllByRecursion (λ (c : Column). entry_is (λ s. not (is_index s)) (printed db f) c.file ≡ true) (columns_from (f.file x.info.key) 0 attrs)) (sym all.0.2)
            (no_columns (λ (c : Column). entry_is (λ s. not (is_index s)) (printed db f) c.file ≡ true) (f.file x.info.key) 0),
        of_indexes xs all.1,
      )

  -- each tree belongs to a view, or is a rule or a permit of a relation
  each_belongs : AllByRecursion (λ t. belongs (printed db f) t.file t.sort t.number ≡ true) (trees_for f db)
  each_belongs =
      all_append (λ t. belongs (printed db f) t.file t.sort t.number ≡ true) (map (view_tree f) db.views) (map (rule_tree f) db.rules ++ map (permit_tree f) db.permits)
      (all_map (λ t. belongs (printed db f) t.file t.sort t.number ≡ true) (view_tree f) db.views (of_views db.views (views_at f db has.files_differ) (viewed_kinds db d)))
      (all_append (λ t. belongs (printed db f) t.file t.sort t.number ≡ true) (map (rule_tree f) db.rules) (map (permit_tree f) db.permits)
      (all_map (λ t. belongs (printed db f) t.file t.sort t.number ≡ true) (rule_tree f) db.rules
      (all_then (λ p. database.is_relation db p.0 ≡ true) (λ p. entry_is is_structure (printed db f) (f.file p.0) ≡ true) db.rules (λ p there. of_key p.0 there) rules_there))
      (all_map (λ t. belongs (printed db f) t.file t.sort t.number ≡ true) (permit_tree f) db.permits
      (all_then (λ p. database.is_relation db p.0 ≡ true) (λ p. entry_is is_structure (printed db f) (f.file p.0) ≡ true) db.permits (λ p there. of_key p.0 there) permits_there)))
    where
      of_key : (key : RelKey) → database.is_relation db key ≡ true → entry_is is_structure (printed db f) (f.file key) ≡ true
      of_key key there = let e = entry_of_key key there in entry_is_from is_structure (printed db f) (f.file key) e.entry e.at ∙ e.kinds.of_structure

      of_views : (vs : List database.View) → AllByRecursion (λ v. entry_at (printed db f) (f.file v.info.key) ≡ Some (view_entry f v)) vs → AllByRecursion (λ v. Kinds v.info.spec false true false) vs
          → AllByRecursion (λ v. entry_is is_view (printed db f) (f.file v.info.key) ≡ true) vs
      of_views [] at kinds = tt
      of_views (v ∷ vs) at kinds = (entry_is_from is_view (printed db f) (f.file v.info.key) (view_entry f v) at.0 ∙ kinds.0.of_view, of_views vs at.1 kinds.1)

  -- what holds of where each tree belongs holds of where each part does
  over_parts : (P : ℕ → ℕ → ℕ → Type 0) → AllByRecursion (λ t. P t.file t.sort t.number) (trees_for f db) → AllByRecursion (λ (p : Part). P p.file p.sort p.number) (in_order part_cmp (parts_for f db))
  over_parts P all =
      all_in_order part_cmp (λ (p : Part). P p.file p.sort p.number) (parts_for f db)
      (subst (AllByRecursion (λ (p : Part). P p.file p.sort p.number)) (sym (parts_are f db))
      (all_flat (λ (p : Part). P p.file p.sort p.number) parts_of (trees_for f db)
      (all_then (λ t. P t.file t.sort t.number) (λ t. AllByRecursion (λ (p : Part). P p.file p.sort p.number) (parts_of t)) (trees_for f db) (λ t it. parts_of_tree P t.file t.sort t.number 0 (cut t.bytes) it) all)))

  parts_are_sound : parts_stand (printed db f) ≡ true
  unfolding parts_stand part_stands printed
  parts_are_sound =
      and_from (list_all (part_stands (printed db f)) (in_order part_cmp (parts_for f db))) (parts_are_whole (in_order part_cmp (parts_for f db)))
      (all_pass (part_stands (printed db f)) (in_order part_cmp (parts_for f db)) (over_parts (λ file sort number. belongs (printed db f) file sort number ≡ true) each_belongs))
      (all_pass (λ p. is_some (tree_at (printed db f).parts p.file p.sort p.number)) (in_order part_cmp (parts_for f db))
      (over_parts (λ file sort number. is_some (tree_at (printed db f).parts file sort number) ≡ true)
      (all_then (λ t. tree_at (printed db f).parts t.file t.sort t.number ≡ Some t.bytes) (λ t. is_some (tree_at (printed db f).parts t.file t.sort t.number) ≡ true) (trees_for f db) (λ t at. ap is_some at) found)))

  -- ---- the database

  -- what is printed is read again
  pub printed_is_read : spelled db.dba files (printed db f) ≡ Some db
  unfolding spelled
  printed_is_read = λ i. check (columns_are_sound i && parts_are_sound i) >>= (λ sound. relations_read files f db d has i >>= (λ relations. indexes_read files f db d has i >>= (λ indexes. views_read i >>= (λ views.
      rules_read i >>= (λ rules. permits_read i >>= (λ permits. Some (record { dba = db.dba; relations = relations; indexes = indexes; views = views; rules = rules; permits = permits })))))))
