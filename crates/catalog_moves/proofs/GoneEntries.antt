-- The entries and attributes that go with a Destroy, place by place, are those of what is destroyed.
use Rattle.std.proofs.Common.{◌≡◌, refl, sym, ap, ap₂, ◌∙◌, inl, inr, subst, true≢false, ℕ, ◌≤◌, ◌==◌, ◌&&◌, ◌||◌, Bool, true, false, not, cond, List, [], ◌∷◌, ◌++◌, map, filter, Some, None, Option, arith}
use Rattle.std.specs.Prelude.{is_some, nat_eq, ◌⊎◌}
use Rattle.std.specs.List.{flat_map}
use Rattle.std.specs.List.Sorted.{IsStrictlySortedBy}
use Rattle.std.proofs.lemmas.List.{append-nil, map-append}
use Rattle.std.proofs.lemmas.List.Concat.{flat_map-append, flat_map_single}
use Rattle.std.proofs.lemmas.List.Kept.{IsStrictlySortedBy-filter}
use Rattle.std.proofs.lemmas.Option.{same_Some}
use Rattle.std.proofs.lemmas.Simd.{map-map}
use Rattle.calculus.specs.declared.query.RelKey.{RelKey}
use Rattle.calculus.specs.declared.schema.RelInfo.{RelInfo}
use Rattle.calculus.specs.declared.schema.Spec.{Spec}
use Rattle.calculus.specs.declared.schema.Spec.TheVariants.{Heap, Hash, Isam, View as ViewSpec, Index as IndexSpec}
use Rattle.calculus.specs.Database.{Db, Relation, View, Index, entries, entry_at, is_relation}
use Rattle.calculus.specs.IsDatabase.{IsDatabase, valid_structure, valid_view_info, valid_index}
use Rattle.calculus.specs.Keys.{same_key, key_cmp, has_key}
use Rattle.calculus.specs.Lists.{is_any}
use Rattle.calculus.specs.Structures.{is_view, is_index, is_keyed, is_structure}
use Rattle.base_trait.specs.Known.{known_at}
use Rattle.stored_database.specs.Moves.{destroyed}
use Rattle.stored_database.proofs.Staying.{base_is}
use Rattle.stored_database.specs.Columns.{column_bytes}
use Rattle.stored_database.specs.Entries.{Entry, entry_bytes}
use Rattle.stored_database.specs.Printed.{entries_for, columns_for, columns_from, relation_entry, view_entry, index_entry}
use Rattle.stored_database.proofs.Members.{IsIn, of_all, of_tests, in_either, map_in, in_filter, filter_in, found_in, apart_same}
use Rattle.stored_database.proofs.Orders.{same_key_is, same_key_itself}
use Rattle.stored_database.proofs.Pairs.{pairs_apart, pairs_unmap, differ_pairs}
use Rattle.stored_database.proofs.PrintedEntries.{equal_turned}
use Rattle.stored_database.proofs.PrintedTrees.{Under, relation_under}
use Rattle.stored_database.proofs.Reading.{both, same_number, number_itself}
use Rattle.catalog_moves.specs.declared.files.FilePlace.{FilePlace}
use Rattle.catalog_moves.specs.declared.files.FileTable.{FileTable}
use Rattle.catalog_moves.specs.declared.gone.Sort.{Sort}
use Rattle.catalog_moves.specs.declared.gone.Sort.TheVariants as sort
use Rattle.catalog_moves.specs.Bases.{IndexBases}
use Rattle.catalog_moves.specs.Files.{place_at, places_of, files_of, base_at}
use Rattle.catalog_moves.specs.Gone.{is_sort, primary_of, used_of, has_file, goes, gone_at, gone_entries, gone_columns}
use Rattle.catalog_moves.specs.Moves.{entry_with}
use Rattle.catalog_moves.proofs.ByPlaces.{all_matched}
use Rattle.catalog_moves.proofs.GoneParts.{some_file, place_for, its_file, its_used, relation_in, view_in}
use Rattle.catalog_moves.proofs.Known.{known_entry}
use Rattle.catalog_moves.proofs.OnBase.{base_some, found_self, index_in, known_info, up_by}
use Rattle.catalog_moves.proofs.Placing.{keys_up}
use Rattle.catalog_moves.proofs.Tables.{file_none}

-- ---- sorts

view_or_index : (s : Spec) → is_view s ≡ true → is_index s ≡ true → ⊥
view_or_index Heap h k = cc h
view_or_index Hash h k = cc h
view_or_index Isam h k = cc h
view_or_index ViewSpec h k = cc k
view_or_index IndexSpec h k = cc h

plain_or_view : (s : Spec) → is_sort sort.Relation s ≡ true → is_view s ≡ true → ⊥
plain_or_view Heap h k = cc k
plain_or_view Hash h k = cc k
plain_or_view Isam h k = cc k
plain_or_view ViewSpec h k = cc h
plain_or_view IndexSpec h k = cc k

plain_or_index : (s : Spec) → is_sort sort.Relation s ≡ true → is_index s ≡ true → ⊥
plain_or_index Heap h k = cc k
plain_or_index Hash h k = cc k
plain_or_index Isam h k = cc k
plain_or_index ViewSpec h k = cc k
plain_or_index IndexSpec h k = cc h

has_structure : (s : Spec) (a c : Bool) → (elim (is_keyed s) [ true ↦ a | false ↦ is_structure s && c ]) ≡ true → is_sort sort.Relation s ≡ true
has_structure Heap a c h = refl
has_structure Hash a c h = refl
has_structure Isam a c h = refl
has_structure ViewSpec a c h = cc h
has_structure IndexSpec a c h = cc h

-- ---- small lists and tests

or_not : (a : Bool) → (a || false) ≡ a
or_not true = refl
or_not false = refl

some_number : (n : ℕ) → 16 ≤ n → (n == 0) ≡ false
some_number n h = go (n == 0) refl
  where
    go : (c : Bool) → (n == 0) ≡ c → c ≡ false
    go true e = absurd (let zero_is = same_number n 0 e in omega (arith, h, zero_is))
    go false e = refl

passes : (b : Bool) (i : RelInfo) → is_any (cond b (i ∷ []) []) ≡ true → b ≡ true
passes true i h = refl
passes false i h = cc h

nothing_of : (xs : List RelInfo) → is_any xs ≡ false → xs ≡ []
nothing_of [] h = refl
nothing_of (x ∷ xs) h = cc h

-- what each gives, spelled
pub map_flat : {X Y A B : Type 0} (v : A → B) (g : Y → List A) (w : X → Y) (xs : List X) → flat_map (λ x. map v (g (w x))) xs ≡ map v (flat_map g (map w xs))
map_flat v g w [] = refl
map_flat v g w (x ∷ xs) = ap (λ l. map v (g (w x)) ++ l) (map_flat v g w xs) ∙ sym (map-append v (g (w x)) (flat_map g (map w xs)))

module _ (db : Db) (is : IsDatabase db) (table : FileTable) (b : IndexBases table db) where
  -- what has a place is there, as it is known
  known_there : (p : FilePlace) → IsIn p (places_of table) → (i : RelInfo) → known_at db p.key ≡ Some i → IsIn i (entries db) × (i.key ≡ p.key)
  known_there p at i e = go (entry_at db p.key) refl (b.there p.key (ap is_some (found_self (places_of table) table.up p at)))
    where
      go : (o : Option RelInfo) → entry_at db p.key ≡ o → is_some o ≡ true → IsIn i (entries db) × (i.key ≡ p.key)
      go None f h = cc h
      go (Some j) f h =
          let same : j ≡ i = same_Some j i (sym (known_entry db p.key j f) ∙ e) in
          let k = found_in (λ (i : RelInfo). same_key i.key p.key) (entries db) j f in
          (subst (λ i. IsIn i (entries db)) same k.0, ap (λ (i : RelInfo). i.key) (sym same) ∙ same_key_is j.key p.key k.1)

  relation_file : (rel : RelKey) → is_relation db rel ≡ true → 16 ≤ (files_of table).file rel
  relation_file rel there = let u = relation_under db rel there in subst (λ k. 16 ≤ (files_of table).file k) u.its (some_file db is table b u.relation.info (relation_in db is table b u.relation u.there))

  -- what has the file of a relation is the relation
  key_of_file : (rel k : RelKey) → is_relation db rel ≡ true → (files_of table).file k ≡ (files_of table).file rel → k ≡ rel
  key_of_file rel k there same = go (place_at (places_of table) k) refl
    where
      u : Under db rel
      u = relation_under db rel there

      many : 16 ≤ (files_of table).file rel
      many = relation_file rel there

      there_too : (o : Option RelInfo) → entry_at db k ≡ o → is_some o ≡ true → k ≡ rel
      there_too None f h = cc h
      there_too (Some i) f h =
          let at = found_in (λ (i : RelInfo). same_key i.key k) (entries db) i f in
          let key : i.key ≡ k = same_key_is i.key k at.1 in
          let one : i ≡ u.relation.info = apart_same (λ (i j : RelInfo). (files_of table).file i.key == (files_of table).file j.key) (λ i j e. equal_turned ((files_of table).file j.key) ((files_of table).file i.key) ∙ e) (entries db) i u.relation.info
          (pairs_apart (λ (i j : RelInfo). (files_of table).file i.key == (files_of table).file j.key) (entries db)
          (pairs_unmap (λ (m n : ℕ). (m == n) ≡ false) (λ (i : RelInfo). (files_of table).file i.key) (entries db) (differ_pairs nat_eq (map (λ (i : RelInfo). (files_of table).file i.key) (entries db)) b.files_differ)))
          at.0 (relation_in db is table b u.relation u.there)
          ((λ n. (files_of table).file (key n) == (files_of table).file (u.its n)) ∙ ap (λ n. n == (files_of table).file rel) same ∙ number_itself ((files_of table).file rel)) in
          sym key ∙ ap (λ (i : RelInfo). i.key) one ∙ u.its

      go : (o : Option FilePlace) → place_at (places_of table) k ≡ o → k ≡ rel
      go None e = absurd (let zero_is = (file_none (places_of table) k e).0 in omega (arith, zero_is, same, many))
      go (Some p) e = there_too (entry_at db k) refl (b.there k (ap is_some e))

  -- the file of a relation is that of one of these where the relation is one of these
  file_listed : (rel : RelKey) → is_relation db rel ≡ true → (rels : List RelKey) → has_file rels (files_of table) ((files_of table).file rel) ≡ has_key rels rel
  file_listed rel there [] = refl
  file_listed rel there (k ∷ ks) = ap₂ (λ a b. a || b) (one (same_key rel k) refl ((files_of table).file k == (files_of table).file rel) refl) (file_listed rel there ks)
    where
      one : (s : Bool) → same_key rel k ≡ s → (n : Bool) → ((files_of table).file k == (files_of table).file rel) ≡ n → ((files_of table).file k == (files_of table).file rel) ≡ same_key rel k
      one true s n e = ap (λ (l : RelKey). (files_of table).file l == (files_of table).file rel) (sym (same_key_is rel k s)) ∙ number_itself ((files_of table).file rel) ∙ sym s
      one false s true e = absurd (true≢false (sym (same_key_itself rel) ∙ ap (same_key rel) (sym (key_of_file rel k there (same_number ((files_of table).file k) ((files_of table).file rel) e))) ∙ s))
      one false s false e = e ∙ sym s

  its_base : (p : FilePlace) → IsIn p (places_of table) → p.base ≡ base_at (places_of table) p.key
  its_base p at = sym (base_some (places_of table) p.key p (found_self (places_of table) table.up p at))

  module _ (rels : List RelKey) where
    -- what isn't on a relation goes where it is listed
    bare_goes : (p : FilePlace) (k : RelKey) → p.base ≡ 0 → p.key ≡ k → goes rels (files_of table) p ≡ has_key rels k
    bare_goes p k base e = ap (λ n. has_key rels p.key || (not (n == 0) && has_file rels (files_of table) n)) base ∙ or_not (has_key rels p.key) ∙ ap (has_key rels) e

    -- an index goes where it is listed or its relation is
    index_goes : (p : FilePlace) (k rel : RelKey) → is_relation db rel ≡ true → 16 ≤ (files_of table).file rel → p.base ≡ (files_of table).file rel → p.key ≡ k → goes rels (files_of table) p ≡ (has_key rels k || has_key rels rel)
    index_goes p k rel there many base e =
        ap (λ n. has_key rels p.key || (not (n == 0) && has_file rels (files_of table) n)) base
        ∙ ap (λ c. has_key rels p.key || (not c && has_file rels (files_of table) ((files_of table).file rel))) (some_number ((files_of table).file rel) many)
        ∙ ap (λ c. has_key rels p.key || c) (file_listed rel there rels)
        ∙ ap (λ k. has_key rels k || has_key rels rel) e

    -- ---- all of a sort

    module _ (s : Sort) {X : Type 0} (info : X → RelInfo) (all : List X) (test : X → Bool)
        (over : IsStrictlySortedBy key_cmp (map (λ x. (info x).key) all))
        (inside : (x : X) → IsIn x all → IsIn (info x) (entries db))
        (back : (i : RelInfo) → IsIn i (entries db) → is_sort s i.spec ≡ true → (x : X) × IsIn x all × (i ≡ info x))
        (kind : (x : X) → IsIn x all → is_sort s (info x).spec ≡ true)
        (agree : (p : FilePlace) (x : X) → IsIn p (places_of table) → IsIn x all → p.key ≡ (info x).key → goes rels (files_of table) p ≡ test x) where
      its : (p : FilePlace) (x : X) → IsIn p (places_of table) → IsIn x all → test x ≡ true → p.key ≡ (info x).key → gone_at s rels (files_of table) db p ≡ info x ∷ []
      its p x at bt t e =
          let go : goes rels (files_of table) p ≡ true = agree p x at bt e ∙ t in
          let known : known_at db p.key ≡ Some (info x) = ap (known_at db) e ∙ known_info db is (info x) (inside x bt) in
          (λ i. cond (go i) (elim (known i) as (λ (o : Option RelInfo). List RelInfo) [ None ↦ [] | Some j ↦ cond (is_sort s j.spec) (j ∷ []) [] ]) [])
          ∙ ap (λ c. cond c (info x ∷ []) []) (kind x bt)

      there : (p : FilePlace) → IsIn p (places_of table) → is_any (gone_at s rels (files_of table) db p) ≡ true → (x : X) × IsIn x (filter test all) × ((info x).key ≡ p.key)
      there p at h = go (goes rels (files_of table) p) refl (known_at db p.key) refl h
        where
          go : (c : Bool) → goes rels (files_of table) p ≡ c → (o : Option RelInfo) → known_at db p.key ≡ o
              → is_any (cond c (elim o as (λ (o : Option RelInfo). List RelInfo) [ None ↦ [] | Some j ↦ cond (is_sort s j.spec) (j ∷ []) [] ]) []) ≡ true → (x : X) × IsIn x (filter test all) × ((info x).key ≡ p.key)
          go false e o k h = cc h
          go true e None k h = cc h
          go true e (Some i) k h =
              let known = known_there p at i k in
              let x = back i known.0 (passes (is_sort s i.spec) i h) in
              let key : (info x.0).key ≡ p.key = ap (λ (i : RelInfo). i.key) (sym x.2) ∙ known.1 in
              (x.0, in_filter test all x.0 x.1 (sym (agree p x.0 at x.1 (sym key)) ∙ e), key)

      place_there : (x : X) → IsIn x (filter test all) → (p : FilePlace) × IsIn p (places_of table) × (p.key ≡ (info x).key) × (is_any (gone_at s rels (files_of table) db p) ≡ true)
      place_there x at =
          let f = filter_in test all x at in
          let p = place_for db is table b (info x) (inside x f.0) in
          (p.0, p.1, p.2, ap is_any (its p.0 x p.1 f.0 f.1 p.2))

      rows : {A : Type 0} (g : FilePlace → List RelInfo → List A) (h : X → List A) → ((p : FilePlace) → g p [] ≡ [])
          → ((p : FilePlace) (x : X) → IsIn p (places_of table) → IsIn x all → p.key ≡ (info x).key → g p (info x ∷ []) ≡ h x)
          → flat_map (λ (p : FilePlace). g p (gone_at s rels (files_of table) db p)) (places_of table) ≡ flat_map h (filter test all)
      rows g h none same =
          all_matched (places_of table) table.up (λ x. (info x).key) (filter test all) (λ (p : FilePlace). is_any (gone_at s rels (files_of table) db p))
          (keys_up (λ x. (info x).key) (filter test all) (IsStrictlySortedBy-filter (λ x y. key_cmp (info x).key (info y).key) test all (up_by (λ x. (info x).key) all over)))
          there place_there (λ (p : FilePlace). g p (gone_at s rels (files_of table) db p)) h
          (λ p at e. ap (g p) (nothing_of (gone_at s rels (files_of table) db p) e) ∙ none p)
          (λ p x at bt e. (let f = filter_in test all x bt in ap (g p) (its p x at f.0 f.1 e) ∙ same p x at f.0 e))

      -- their entries
      entry_rows : (entry : X → Entry)
          → ((p : FilePlace) (x : X) → IsIn p (places_of table) → IsIn x all → p.key ≡ (info x).key → entry_with p.file p.base (primary_of s) (used_of s p.used) (info x) ≡ entry x)
          → flat_map (λ (p : FilePlace). map entry_bytes (gone_entries s rels (files_of table) db p)) (places_of table) ≡ map entry_bytes (map entry (filter test all))
      entry_rows entry same =
          rows (λ (p : FilePlace) (is : List RelInfo). map entry_bytes (map (λ (i : RelInfo). entry_with p.file p.base (primary_of s) (used_of s p.used) i) is)) (λ x. entry_bytes (entry x) ∷ []) (λ p. refl) (λ p x at bt e. ap (λ (e : Entry). entry_bytes e ∷ []) (same p x at bt e))
          ∙ flat_map_single (λ x. entry_bytes (entry x)) (filter test all) ∙ sym (map-map entry_bytes entry (filter test all))

      -- their attributes
      column_rows : flat_map (λ (p : FilePlace). map column_bytes (gone_columns s rels (files_of table) db p)) (places_of table) ≡ map column_bytes (flat_map (λ (i : RelInfo). columns_from ((files_of table).file i.key) 0 i.attrs) (map info (filter test all)))
      column_rows =
          rows (λ (p : FilePlace) (is : List RelInfo). map column_bytes (flat_map (λ (i : RelInfo). columns_from p.file 0 i.attrs) is)) (λ x. map column_bytes (columns_from ((files_of table).file (info x).key) 0 (info x).attrs)) (λ p. refl)
          (λ p x at bt e. ap (map column_bytes) (append-nil (columns_from p.file 0 (info x).attrs)) ∙ ap (λ n. map column_bytes (columns_from n 0 (info x).attrs)) (its_file db is table b p at ∙ ap (files_of table).file e))
          ∙ map_flat column_bytes (λ (i : RelInfo). columns_from ((files_of table).file i.key) 0 i.attrs) info (filter test all)

    -- ---- each sort

    view_kind : (v : View) → IsIn v db.views → is_view v.info.spec ≡ true
    view_kind v at = (both (is_view v.info.spec) _ (of_tests (λ (v : View). valid_view_info v.info) db.views v is.view_infos_stand at)).0

    index_kind : (x : Index) → IsIn x db.indexes → is_index x.info.spec ≡ true
    index_kind x at = (both (is_index x.info.spec) _ (of_tests (valid_index db) db.indexes x is.indexes_stand at)).0

    relation_kind : (r : Relation) → IsIn r db.relations → is_sort sort.Relation r.info.spec ≡ true
    relation_kind r at = has_structure r.info.spec _ _ (of_tests (λ (r : Relation). valid_structure r.info) db.relations r is.structures_stand at)

    relation_back : (i : RelInfo) → IsIn i (entries db) → is_sort sort.Relation i.spec ≡ true → (r : Relation) × IsIn r db.relations × (i ≡ r.info)
    relation_back i at h = go (in_either (map (λ (r : Relation). r.info) db.relations) _ i at)
      where
        last : IsIn i (map (λ (v : View). v.info) db.views) ⊎ IsIn i (map (λ (x : Index). x.info) db.indexes) → ⊥
        last (inl k) = let v = map_in (λ (v : View). v.info) db.views i k in plain_or_view i.spec h (ap (λ (i : RelInfo). is_view i.spec) v.2 ∙ view_kind v.0 v.1)
        last (inr k) = let x = map_in (λ (x : Index). x.info) db.indexes i k in plain_or_index i.spec h (ap (λ (i : RelInfo). is_index i.spec) x.2 ∙ index_kind x.0 x.1)

        go : IsIn i (map (λ (r : Relation). r.info) db.relations) ⊎ IsIn i (map (λ (v : View). v.info) db.views ++ map (λ (x : Index). x.info) db.indexes) → (r : Relation) × IsIn r db.relations × (i ≡ r.info)
        go (inl k) = map_in (λ (r : Relation). r.info) db.relations i k
        go (inr k) = absurd (last (in_either (map (λ (v : View). v.info) db.views) (map (λ (x : Index). x.info) db.indexes) i k))

    view_back : (i : RelInfo) → IsIn i (entries db) → is_sort sort.View i.spec ≡ true → (v : View) × IsIn v db.views × (i ≡ v.info)
    view_back i at h = go (in_either (map (λ (r : Relation). r.info) db.relations) _ i at)
      where
        last : IsIn i (map (λ (v : View). v.info) db.views) ⊎ IsIn i (map (λ (x : Index). x.info) db.indexes) → (v : View) × IsIn v db.views × (i ≡ v.info)
        last (inl k) = map_in (λ (v : View). v.info) db.views i k
        last (inr k) = let x = map_in (λ (x : Index). x.info) db.indexes i k in absurd (view_or_index i.spec h (ap (λ (i : RelInfo). is_index i.spec) x.2 ∙ index_kind x.0 x.1))

        go : IsIn i (map (λ (r : Relation). r.info) db.relations) ⊎ IsIn i (map (λ (v : View). v.info) db.views ++ map (λ (x : Index). x.info) db.indexes) → (v : View) × IsIn v db.views × (i ≡ v.info)
        go (inl k) = let r = map_in (λ (r : Relation). r.info) db.relations i k in absurd (plain_or_view i.spec (ap (λ (i : RelInfo). is_sort sort.Relation i.spec) r.2 ∙ relation_kind r.0 r.1) h)
        go (inr k) = last (in_either (map (λ (v : View). v.info) db.views) (map (λ (x : Index). x.info) db.indexes) i k)

    index_back : (i : RelInfo) → IsIn i (entries db) → is_sort sort.Index i.spec ≡ true → (x : Index) × IsIn x db.indexes × (i ≡ x.info)
    index_back i at h = go (in_either (map (λ (r : Relation). r.info) db.relations) _ i at)
      where
        last : IsIn i (map (λ (v : View). v.info) db.views) ⊎ IsIn i (map (λ (x : Index). x.info) db.indexes) → (x : Index) × IsIn x db.indexes × (i ≡ x.info)
        last (inl k) = let v = map_in (λ (v : View). v.info) db.views i k in absurd (view_or_index i.spec (ap (λ (i : RelInfo). is_view i.spec) v.2 ∙ view_kind v.0 v.1) h)
        last (inr k) = map_in (λ (x : Index). x.info) db.indexes i k

        go : IsIn i (map (λ (r : Relation). r.info) db.relations) ⊎ IsIn i (map (λ (v : View). v.info) db.views ++ map (λ (x : Index). x.info) db.indexes) → (x : Index) × IsIn x db.indexes × (i ≡ x.info)
        go (inl k) = let r = map_in (λ (r : Relation). r.info) db.relations i k in absurd (plain_or_index i.spec (ap (λ (i : RelInfo). is_sort sort.Relation i.spec) r.2 ∙ relation_kind r.0 r.1) h)
        go (inr k) = last (in_either (map (λ (v : View). v.info) db.views) (map (λ (x : Index). x.info) db.indexes) i k)

    relation_base : (p : FilePlace) (r : Relation) → IsIn p (places_of table) → IsIn r db.relations → p.key ≡ r.info.key → p.base ≡ 0
    relation_base p r at bt e = its_base p at ∙ ap (base_at (places_of table)) e ∙ of_all (λ (r : Relation). base_at (places_of table) r.info.key ≡ 0) db.relations r b.relations bt

    view_base : (p : FilePlace) (v : View) → IsIn p (places_of table) → IsIn v db.views → p.key ≡ v.info.key → p.base ≡ 0
    view_base p v at bt e = its_base p at ∙ ap (base_at (places_of table)) e ∙ of_all (λ (v : View). base_at (places_of table) v.info.key ≡ 0) db.views v b.views bt

    index_base : (p : FilePlace) (x : Index) → IsIn p (places_of table) → IsIn x db.indexes → p.key ≡ x.info.key → p.base ≡ (files_of table).file x.base
    index_base p x at bt e = its_base p at ∙ ap (base_at (places_of table)) e ∙ of_all (λ (x : Index). base_at (places_of table) x.info.key ≡ (files_of table).file x.base) db.indexes x b.indexes bt

    relation_goes : (p : FilePlace) (r : Relation) → IsIn p (places_of table) → IsIn r db.relations → p.key ≡ r.info.key → goes rels (files_of table) p ≡ has_key rels r.info.key
    relation_goes p r at bt e = bare_goes p r.info.key (relation_base p r at bt e) e

    view_goes : (p : FilePlace) (v : View) → IsIn p (places_of table) → IsIn v db.views → p.key ≡ v.info.key → goes rels (files_of table) p ≡ has_key rels v.info.key
    view_goes p v at bt e = bare_goes p v.info.key (view_base p v at bt e) e

    goes_too : (p : FilePlace) (x : Index) → IsIn p (places_of table) → IsIn x db.indexes → p.key ≡ x.info.key → goes rels (files_of table) p ≡ (has_key rels x.info.key || has_key rels x.base)
    goes_too p x at bt e = index_goes p x.info.key x.base (base_is db is x bt) (relation_file x.base (base_is db is x bt)) (index_base p x at bt e) e

    file_there : (p : FilePlace) (k : RelKey) → IsIn p (places_of table) → p.key ≡ k → p.file ≡ (files_of table).file k
    file_there p k at e = its_file db is table b p at ∙ ap (files_of table).file e

    used_there : (p : FilePlace) (k : RelKey) → IsIn p (places_of table) → p.key ≡ k → p.used ≡ (files_of table).used k
    used_there p k at e = its_used db is table b p at ∙ ap (files_of table).used e

    -- ---- all of them

    abbrev gone_relations : List Relation
    gone_relations = filter (λ (r : Relation). has_key rels r.info.key) db.relations

    abbrev gone_views : List View
    gone_views = filter (λ (v : View). has_key rels v.info.key) db.views

    abbrev gone_indexes : List Index
    gone_indexes = filter (λ (x : Index). has_key rels x.info.key || has_key rels x.base) db.indexes

    abbrev entries_at : Sort → List (List ℕ)
    entries_at s = flat_map (λ (p : FilePlace). map entry_bytes (gone_entries s rels (files_of table) db p)) (places_of table)

    abbrev columns_at : Sort → List (List ℕ)
    columns_at s = flat_map (λ (p : FilePlace). map column_bytes (gone_columns s rels (files_of table) db p)) (places_of table)

    pub entries_gone : entries_at sort.Relation ++ (entries_at sort.View ++ entries_at sort.Index) ≡ map entry_bytes (entries_for (files_of table) (destroyed rels db))
    unfolding entries_for
    entries_gone =
        ap₂ (λ (k l : List (List ℕ)). k ++ l)
        (entry_rows sort.Relation (λ (r : Relation). r.info) db.relations (λ (r : Relation). has_key rels r.info.key) is.relations_ascend (relation_in db is table b) relation_back relation_kind relation_goes (relation_entry (files_of table))
        (λ p r at bt e i. entry_with (file_there p r.info.key at e i) (relation_base p r at bt e i) 1 (used_there p r.info.key at e i) r.info))
        (ap₂ (λ (k l : List (List ℕ)). k ++ l)
        (entry_rows sort.View (λ (v : View). v.info) db.views (λ (v : View). has_key rels v.info.key) is.views_ascend (view_in db is table b) view_back view_kind view_goes (view_entry (files_of table))
        (λ p v at bt e i. entry_with (file_there p v.info.key at e i) (view_base p v at bt e i) 0 0 v.info))
        (entry_rows sort.Index (λ (x : Index). x.info) db.indexes (λ (x : Index). has_key rels x.info.key || has_key rels x.base) is.indexes_ascend (index_in db is) index_back index_kind goes_too (index_entry (files_of table))
        (λ p x at bt e i. entry_with (file_there p x.info.key at e i) (index_base p x at bt e i) 0 0 x.info))
        ∙ sym (map-append entry_bytes (map (view_entry (files_of table)) gone_views) (map (index_entry (files_of table)) gone_indexes)))
        ∙ sym (map-append entry_bytes (map (relation_entry (files_of table)) gone_relations) _)

    pub columns_gone : columns_at sort.Relation ++ (columns_at sort.View ++ columns_at sort.Index) ≡ map column_bytes (columns_for (files_of table) (destroyed rels db))
    unfolding columns_for
    columns_gone =
        ap₂ (λ (k l : List (List ℕ)). k ++ l)
        (column_rows sort.Relation (λ (r : Relation). r.info) db.relations (λ (r : Relation). has_key rels r.info.key) is.relations_ascend (relation_in db is table b) relation_back relation_kind relation_goes)
        (ap₂ (λ (k l : List (List ℕ)). k ++ l)
        (column_rows sort.View (λ (v : View). v.info) db.views (λ (v : View). has_key rels v.info.key) is.views_ascend (view_in db is table b) view_back view_kind view_goes)
        (column_rows sort.Index (λ (x : Index). x.info) db.indexes (λ (x : Index). has_key rels x.info.key || has_key rels x.base) is.indexes_ascend (index_in db is) index_back index_kind goes_too)
        ∙ both_lists (map (λ (v : View). v.info) gone_views) (map (λ (x : Index). x.info) gone_indexes))
        ∙ both_lists (map (λ (r : Relation). r.info) gone_relations) (map (λ (v : View). v.info) gone_views ++ map (λ (x : Index). x.info) gone_indexes)
      where
        both_lists : (is js : List RelInfo) → map column_bytes (flat_map (λ (i : RelInfo). columns_from ((files_of table).file i.key) 0 i.attrs) is) ++ map column_bytes (flat_map (λ (i : RelInfo). columns_from ((files_of table).file i.key) 0 i.attrs) js)
            ≡ map column_bytes (flat_map (λ (i : RelInfo). columns_from ((files_of table).file i.key) 0 i.attrs) (is ++ js))
        both_lists is js =
            sym (map-append column_bytes (flat_map (λ (i : RelInfo). columns_from ((files_of table).file i.key) 0 i.attrs) is) _)
            ∙ ap (map column_bytes) (sym (flat_map-append (λ (i : RelInfo). columns_from ((files_of table).file i.key) 0 i.attrs) is js))
