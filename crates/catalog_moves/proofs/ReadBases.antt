-- A table that is made of the entries of a catalogue is one of the database that the catalogue spells.
use Rattle.std.proofs.Common.{◌≡◌, refl, sym, ap, ◌∙◌, subst, inl, inr, true≢false, ℕ, not, true, false, List, ◌++◌, map, Some, None, Option, option_map, arith}
use Rattle.std.specs.Prelude.{is_some, nat_le, ◌⊎◌}
use Rattle.std.proofs.lemmas.Bool.{leb-true}
use Rattle.std.proofs.lemmas.Cmp.{on_total, tied_itself}
use Rattle.calculus.specs.declared.query.RelKey.{RelKey}
use Rattle.calculus.specs.declared.schema.RelInfo.{RelInfo}
use Rattle.calculus.specs.Database.{Db, Relation, Index, View, entries, is_there, is_relation}
use Rattle.calculus.specs.IsDatabase.{IsDatabase, attrs_stand, valid_index}
use Rattle.calculus.specs.Keys.{same_key, key_cmp}
use Rattle.calculus.specs.Lists.{is_any}
use Rattle.stored_database.proofs.Staying.{relation_there, view_there, index_there}
use Rattle.catalog_rows.specs.declared.entries.EntryRow.{EntryRow}
use Rattle.catalog_rows.specs.Shown.{entry_in}
use Rattle.page_chain.specs.Pages.{Pages}
use Rattle.stored_database.specs.Entries.{Entry, entry_cmp}
use Rattle.stored_database.specs.Printed.{Files, HasFiles, is_file, entries_for, relation_entry, view_entry, index_entry, printed}
use Rattle.stored_database.proofs.Members.{IsIn, all_of, of_tests, in_first, in_second, in_either, in_map, map_in, found_in, apart_same}
use Rattle.stored_database.proofs.Orders.{key_total, same_key_is, same_key_itself, same_key_turned}
use Rattle.stored_database.proofs.Pairs.{pairs_apart, pairs_unmap, differ_pairs}
use Rattle.stored_database.proofs.Reading.{both}
use Rattle.stored_database.proofs.Sets.{in_order_in, sorted_exact}
use Rattle.catalog_moves.specs.declared.files.FilePlace.{FilePlace}
use Rattle.catalog_moves.specs.declared.files.FileTable.{FileTable}
use Rattle.catalog_moves.specs.Bases.{IndexBases}
use Rattle.catalog_moves.specs.Files.{places_of, files_of, base_at, place_in}
use Rattle.catalog_moves.proofs.OnBase.{up_by}
use Rattle.catalog_moves.proofs.ReadTables.{Says, entry_of}
use Rattle.catalog_moves.proofs.Tables.{file_none}

module _ (db : Db) (is : IsDatabase db) where
  -- a relation or a view has attributes, and an index has none
  has_attributes : (i j : RelInfo) → is_any i.attrs ≡ true → not (is_any j.attrs) ≡ true → i ≡ j → ⊥
  has_attributes i j some none e = true≢false (sym none ∙ ap not (ap (λ (i : RelInfo). is_any i.attrs) (sym e) ∙ some))

  relation_has : (r : Relation) → IsIn r db.relations → is_any r.info.attrs ≡ true
  relation_has r at = (both (is_any r.info.attrs) _ (of_tests (λ (r : Relation). attrs_stand r.info.attrs) db.relations r is.relation_attrs_stand at)).0

  view_has : (v : View) → IsIn v db.views → is_any v.info.attrs ≡ true
  view_has v at = (both (is_any v.info.attrs) _ (of_tests (λ (v : View). attrs_stand v.info.attrs) db.views v is.view_attrs_stand at)).0

  index_has_none : (x : Index) → IsIn x db.indexes → not (is_any x.info.attrs) ≡ true
  index_has_none x at =
      let one = both _ _ (of_tests (valid_index db) db.indexes x is.indexes_stand at) in
      let two = both (is_relation db x.base) _ one.1 in
      (both (not (is_any x.info.attrs)) _ two.1).0

  relation_entry_in : (r : Relation) → IsIn r db.relations → IsIn r.info (entries db)
  relation_entry_in r at = in_first (map (λ (r : Relation). r.info) db.relations) _ r.info (in_map (λ (r : Relation). r.info) db.relations r at)

  view_entry_in : (v : View) → IsIn v db.views → IsIn v.info (entries db)
  view_entry_in v at = in_second (map (λ (r : Relation). r.info) db.relations) _ v.info (in_first (map (λ (v : View). v.info) db.views) _ v.info (in_map (λ (v : View). v.info) db.views v at))

  index_entry_in : (x : Index) → IsIn x db.indexes → IsIn x.info (entries db)
  index_entry_in x at = in_second (map (λ (r : Relation). r.info) db.relations) _ x.info (in_second (map (λ (v : View). v.info) db.views) _ x.info (in_map (λ (x : Index). x.info) db.indexes x at))

  -- what has one key is one
  one_info : (i j : RelInfo) → IsIn i (entries db) → IsIn j (entries db) → i.key ≡ j.key → i ≡ j
  one_info i j at bt same =
      apart_same (λ (a b : RelInfo). same_key a.key b.key) (λ a b e. same_key_turned a.key b.key e) (entries db) i j
      (pairs_apart (λ (a b : RelInfo). same_key a.key b.key) (entries db) (pairs_unmap (λ (k l : RelKey). same_key k l ≡ false) (λ (i : RelInfo). i.key) (entries db) (differ_pairs same_key (map (λ (i : RelInfo). i.key) (entries db)) is.keys_differ)))
      at bt (ap (λ k. same_key i.key k) (sym same) ∙ same_key_itself i.key)

  one_index : (x y : Index) → IsIn x db.indexes → IsIn y db.indexes → x.info.key ≡ y.info.key → x ≡ y
  one_index x y at bt same =
      sorted_exact (on_total (λ (x : Index). x.info.key) key_total) db.indexes (up_by (λ (x : Index). x.info.key) db.indexes is.indexes_ascend) x y at bt
      (ap (key_cmp x.info.key) (sym same) ∙ tied_itself key_total x.info.key)

  -- an entry of a database is that of a relation, a view or an index
  pub record IsOf (f : Files) (e : Entry) : Type 0 where
    pub key_there : is_there db e.key ≡ true
    pub of_relation : (r : Relation) → IsIn r db.relations → r.info.key ≡ e.key → e.base ≡ 0
    pub of_view : (v : View) → IsIn v db.views → v.info.key ≡ e.key → e.base ≡ 0
    pub of_index : (x : Index) → IsIn x db.indexes → x.info.key ≡ e.key → e.base ≡ f.file x.base

  pub is_of : (f : Files) (e : Entry) → IsIn e (entries_for f db) → IsOf f e
  unfolding entries_for
  is_of f e at = first (in_either (map (relation_entry f) db.relations) _ e at)
    where
      last : IsIn e (map (view_entry f) db.views) ⊎ IsIn e (map (index_entry f) db.indexes) → IsOf f e
      last (inl k) =
          let v = map_in (view_entry f) db.views e k in
          let key = ap (λ (e : Entry). e.key) v.2 in
          record {
            key_there = ap (is_there db) key ∙ view_there db v.0 v.1;
            of_relation = λ r at same. ap (λ (e : Entry). e.base) v.2;
            of_view = λ w at same. ap (λ (e : Entry). e.base) v.2;
            of_index = λ x at same. absurd (has_attributes v.0.info x.info (view_has v.0 v.1) (index_has_none x at) (one_info v.0.info x.info (view_entry_in v.0 v.1) (index_entry_in x at) (sym key ∙ sym same)));
          }
      last (inr k) =
          let y = map_in (index_entry f) db.indexes e k in
          let key = ap (λ (e : Entry). e.key) y.2 in
          record {
            key_there = ap (is_there db) key ∙ index_there db y.0 y.1;
            of_relation = λ r at same. absurd (has_attributes r.info y.0.info (relation_has r at) (index_has_none y.0 y.1) (one_info r.info y.0.info (relation_entry_in r at) (index_entry_in y.0 y.1) (same ∙ key)));
            of_view = λ v at same. absurd (has_attributes v.info y.0.info (view_has v at) (index_has_none y.0 y.1) (one_info v.info y.0.info (view_entry_in v at) (index_entry_in y.0 y.1) (same ∙ key)));
            of_index = λ x at same. ap (λ (e : Entry). e.base) y.2 ∙ ap (λ (x : Index). f.file x.base) (one_index y.0 x y.1 at (sym key ∙ sym same));
          }

      first : IsIn e (map (relation_entry f) db.relations) ⊎ IsIn e (map (view_entry f) db.views ++ map (index_entry f) db.indexes) → IsOf f e
      first (inl k) =
          let r = map_in (relation_entry f) db.relations e k in
          let key = ap (λ (e : Entry). e.key) r.2 in
          record {
            key_there = ap (is_there db) key ∙ relation_there db r.0 r.1;
            of_relation = λ s at same. ap (λ (e : Entry). e.base) r.2;
            of_view = λ v at same. ap (λ (e : Entry). e.base) r.2;
            of_index = λ x at same. absurd (has_attributes r.0.info x.info (relation_has r.0 r.1) (index_has_none x at) (one_info r.0.info x.info (relation_entry_in r.0 r.1) (index_entry_in x at) (sym key ∙ sym same)));
          }
      first (inr k) = last (in_either (map (view_entry f) db.views) (map (index_entry f) db.indexes) e k)

  -- a table of the entries that the database has is one of it
  pub read_bases : (files : ℕ → Pages) (table : FileTable) (es : List EntryRow) → Says (places_of table) es → map entry_in es ≡ (printed db (files_of table)).entries → HasFiles db files (files_of table) → IndexBases table db
  unfolding printed base_at
  read_bases files table es said are has = record {
    there = λ k h. there k (entry_of k es) refl (sym (ap is_some (said k)) ∙ h);
    are_files = has.are_files;
    files_differ = has.files_differ;
    relations = all_of (λ (r : Relation). base_at (places_of table) r.info.key ≡ 0) db.relations (λ r at. relation r at (entry_of r.info.key es) refl);
    views = all_of (λ (v : View). base_at (places_of table) v.info.key ≡ 0) db.views (λ v at. view v at (entry_of v.info.key es) refl);
    indexes = all_of (λ (x : Index). base_at (places_of table) x.info.key ≡ (files_of table).file x.base) db.indexes (λ x at. index x at (entry_of x.info.key es) refl);
  }
    where
      its : (k : RelKey) (e : EntryRow) → entry_of k es ≡ Some e → IsOf (files_of table) (entry_in e) × (e.key ≡ k)
      its k e h =
          let f = found_in (λ (e : EntryRow). same_key e.key k) es e h in
          (is_of (files_of table) (entry_in e) (in_order_in entry_cmp (entries_for (files_of table) db) (entry_in e) (subst (IsIn (entry_in e)) are (in_map entry_in es e f.0))), same_key_is e.key k f.1)

      based : (k : RelKey) (e : EntryRow) → entry_of k es ≡ Some e → base_at (places_of table) k ≡ e.base
      based k e h = ap (λ (o : Option FilePlace). elim o [ None ↦ 0 | Some p ↦ p.base ]) (said k ∙ ap (option_map place_in) h)

      bare : (k : RelKey) → entry_of k es ≡ None → base_at (places_of table) k ≡ 0
      bare k h = ap (λ (o : Option FilePlace). elim o [ None ↦ 0 | Some p ↦ p.base ]) (said k ∙ ap (option_map place_in) h)

      there : (k : RelKey) (o : Option EntryRow) → entry_of k es ≡ o → is_some (option_map place_in (entry_of k es)) ≡ true → is_there db k ≡ true
      there k None h some = cc (h, some)
      there k (Some e) h some = let i = its k e h in ap (is_there db) (sym i.1) ∙ i.0.key_there

      relation : (r : Relation) → IsIn r db.relations → (o : Option EntryRow) → entry_of r.info.key es ≡ o → base_at (places_of table) r.info.key ≡ 0
      relation r at None h = bare r.info.key h
      relation r at (Some e) h = let i = its r.info.key e h in based r.info.key e h ∙ i.0.of_relation r at (sym i.1)

      view : (v : View) → IsIn v db.views → (o : Option EntryRow) → entry_of v.info.key es ≡ o → base_at (places_of table) v.info.key ≡ 0
      view v at None h = bare v.info.key h
      view v at (Some e) h = let i = its v.info.key e h in based v.info.key e h ∙ i.0.of_view v at (sym i.1)

      index : (x : Index) → IsIn x db.indexes → (o : Option EntryRow) → entry_of x.info.key es ≡ o → base_at (places_of table) x.info.key ≡ (files_of table).file x.base
      index x at None h =
          let none = (file_none (places_of table) x.info.key (said x.info.key ∙ ap (option_map place_in) h)).0 in
          let many = leb-true 16 ((files_of table).file x.info.key) (both (nat_le 16 ((files_of table).file x.info.key)) _ (of_tests (λ (i : RelInfo). is_file ((files_of table).file i.key)) (entries db) x.info has.are_files (index_entry_in x at))).0 in
          absurd (omega (arith, none, many))
      index x at (Some e) h = let i = its x.info.key e h in based x.info.key e h ∙ i.0.of_index x at (sym i.1)
