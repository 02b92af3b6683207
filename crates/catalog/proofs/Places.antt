-- The table of files after a change is one of the database after it.
use Rattle.std.proofs.Common.{◌≡◌, refl, sym, ap, ◌∙◌, subst, true≢false, inl, inr, ℕ, ◌≤◌, ◌==◌, nat_le, Bool, true, false, not, ◌||◌, cond, List, ◌++◌, map, Some, None, Option, arith}
use Rattle.std.specs.Prelude.{is_some, nat_eq, ◌⊎◌}
use Rattle.std.specs.List.{AllByRecursion, list_all}
use Rattle.std.proofs.lemmas.Bool.{leb-true}
use Rattle.std.proofs.lemmas.Cmp.{on_total, tied_itself}
use Rattle.calculus.specs.declared.query.RelKey.{RelKey}
use Rattle.calculus.specs.declared.schema.RelInfo.{RelInfo}
use Rattle.calculus.specs.declared.schema.Spec.{Spec}
use Rattle.calculus.specs.declared.change.DbChange.{DbChange}
use Rattle.calculus.specs.declared.change.DbChange.TheVariants as change
use Rattle.calculus.specs.Change.{IsLawful, laid, names_what_is_there, restructured}
use Rattle.calculus.specs.Database.{Db, Relation, View, Index, entries, is_there, is_relation}
use Rattle.calculus.specs.IsDatabase.{IsDatabase}
use Rattle.calculus.specs.Keys.{has_key, key_cmp, key_of, same_key}
use Rattle.calculus.specs.Lists.{differ_by}
use Rattle.stored_database.specs.ChangeLaws.{FilesDiffer}
use Rattle.stored_database.proofs.Staying.{base_is, index_there, relation_is_there, relation_there, view_there}
use Rattle.stored_database.specs.Printed.{is_file}
use Rattle.stored_database.proofs.Members.{IsIn, all_of, filter_in, in_either, apart_same, in_filter, in_map, map_in, of_all, of_tests}
use Rattle.stored_database.proofs.Orders.{key_total, same_key_is, same_key_itself}
use Rattle.stored_database.proofs.Pairs.{differ_pairs, pairs_apart, pairs_unmap}
use Rattle.stored_database.proofs.PrintedEntries.{equal_turned}
use Rattle.stored_database.proofs.PrintedTrees.{relation_under}
use Rattle.stored_database.proofs.Reading.{both, same_number, number_itself}
use Rattle.stored_database.proofs.Sets.{sorted_exact}
use Rattle.catalog_moves.specs.declared.files.FilePlace.{FilePlace}
use Rattle.catalog_moves.specs.declared.files.FileTable.{FileTable}
use Rattle.catalog_moves.specs.Bases.{IndexBases}
use Rattle.catalog_moves.specs.Files.{base_at, files_after, files_at, files_of, place_at, placed_key, places_of}
use Rattle.catalog_moves.proofs.KeptBases.{permit_bases, permits_dropped_bases, rows_bases, rule_bases, rules_dropped_bases}
use Rattle.catalog_moves.proofs.MadeBases.{created_bases, indexed_bases, viewed_bases}
use Rattle.catalog_moves.proofs.OnBase.{found_self, of_index, up_by}
use Rattle.catalog_moves.proofs.Tables.{file_none, file_same, file_some, files_put, place_is, place_kept, place_put, used_same}
use Rattle.catalog_laws.specs.Followed.{AreKept, SayTheSame}
use Rattle.catalog_laws.specs.Placed.{Suits}
use Rattle.catalog_laws.proofs.From.{found_under, new_is_new, new_key}
use Rattle.catalog.specs.Places.{left_all, left_base, left_below, places_after, with_place}
use Rattle.catalog.proofs.Forgotten.{all_kept, all_left, bases_gone}

-- what is there is a relation, a view or an index
kind : (db : Db) (k : RelKey) (P : Type 0) → is_there db k ≡ true → ((r : Relation) → IsIn r db.relations → r.info.key ≡ k → P) → ((v : View) → IsIn v db.views → v.info.key ≡ k → P)
    → ((x : Index) → IsIn x db.indexes → x.info.key ≡ k → P) → P
kind db k P here rel vw ix = let i = found_under db k here in first i.0 i.2 (in_either (map (λ (r : Relation). r.info) db.relations) _ i.0 i.1)
  where
    last : (i : RelInfo) → i.key ≡ k → IsIn i (map (λ (v : View). v.info) db.views) ⊎ IsIn i (map (λ (x : Index). x.info) db.indexes) → P
    last i same (inl at) = let v = map_in (λ (v : View). v.info) db.views i at in vw v.0 v.1 (sym (ap (λ (i : RelInfo). i.key) v.2) ∙ same)
    last i same (inr at) = let x = map_in (λ (x : Index). x.info) db.indexes i at in ix x.0 x.1 (sym (ap (λ (i : RelInfo). i.key) x.2) ∙ same)

    first : (i : RelInfo) → i.key ≡ k → IsIn i (map (λ (r : Relation). r.info) db.relations) ⊎ IsIn i (map (λ (v : View). v.info) db.views ++ map (λ (x : Index). x.info) db.indexes) → P
    first i same (inl at) = let r = map_in (λ (r : Relation). r.info) db.relations i at in rel r.0 r.1 (sym (ap (λ (i : RelInfo). i.key) r.2) ∙ same)
    first i same (inr at) = last i same (in_either (map (λ (v : View). v.info) db.views) (map (λ (x : Index). x.info) db.indexes) i at)

-- indexes with one key are one
one_index : (db : Db) → IsDatabase db → (x y : Index) → IsIn x db.indexes → IsIn y db.indexes → x.info.key ≡ y.info.key → x ≡ y
one_index db is x y at bt same =
    sorted_exact (on_total (λ (x : Index). x.info.key) key_total) db.indexes (up_by (λ (x : Index). x.info.key) db.indexes is.indexes_ascend) x y at bt
    (ap (key_cmp x.info.key) (sym same) ∙ tied_itself key_total x.info.key)

zero_base : (places : List FilePlace) (k : RelKey) (q : FilePlace) → place_at places k ≡ Some q → base_at places k ≡ q.base
unfolding base_at
zero_base places k q e = ap (λ (o : Option FilePlace). elim o [ None ↦ 0 | Some p ↦ p.base ]) e

same_base : (a b : List FilePlace) (k : RelKey) → place_at a k ≡ place_at b k → base_at a k ≡ base_at b k
unfolding base_at
same_base a b k e = ap (λ (o : Option FilePlace). elim o [ None ↦ 0 | Some p ↦ p.base ]) e

-- ---- a table of a database

module _ (old : FileTable) (db : Db) (is : IsDatabase db) (b : IndexBases old db) where
  some_file : (k : RelKey) → is_there db k ≡ true → 16 ≤ (files_of old).file k
  some_file k here =
      let i = found_under db k here in
      subst (λ k. 16 ≤ (files_of old).file k) i.2
      (leb-true 16 ((files_of old).file i.0.key) (both (nat_le 16 ((files_of old).file i.0.key)) _ (of_tests (λ (i : RelInfo). is_file ((files_of old).file i.key)) (entries db) i.0 b.are_files i.1)).0)

  some_place : (k : RelKey) → is_there db k ≡ true → (q : FilePlace) × (place_at (places_of old) k ≡ Some q)
  some_place k here = go (place_at (places_of old) k) refl
    where
      go : (o : Option FilePlace) → place_at (places_of old) k ≡ o → (q : FilePlace) × (place_at (places_of old) k ≡ Some q)
      go None e = absurd (let many = some_file k here in let zero_is = (file_none (places_of old) k e).0 in omega (arith, many, zero_is))
      go (Some q) e = (q, e)

  relation_base : (k : RelKey) → is_relation db k ≡ true → base_at (places_of old) k ≡ 0
  relation_base k here =
      let u = relation_under db k here in
      ap (base_at (places_of old)) (sym u.its) ∙ of_all (λ (r : Relation). base_at (places_of old) r.info.key ≡ 0) db.relations u.relation b.relations u.there

  -- a place is that of something that is there
  its_place : (p : FilePlace) → IsIn p (places_of old) → place_at (places_of old) p.key ≡ Some p
  its_place p at = found_self (places_of old) old.up p at

  place_there : (p : FilePlace) → IsIn p (places_of old) → is_there db p.key ≡ true
  place_there p at = b.there p.key (ap is_some (its_place p at))

  place_file : (p : FilePlace) → IsIn p (places_of old) → 16 ≤ p.file
  place_file p at = subst (λ n. 16 ≤ n) (file_some (places_of old) p.key p (its_place p at)).0 (some_file p.key (place_there p at))

  apart_zero : (n : ℕ) → 16 ≤ n → (m : ℕ) → m ≡ 0 → (m == n) ≡ false
  apart_zero n many m e = go (m == n) refl
    where
      go : (c : Bool) → (m == n) ≡ c → c ≡ false
      go true is_same = absurd (let same = same_number m n is_same in omega (arith, many, e, same))
      go false is_same = refl

  -- what stays of a database whose indexes on some relation went has no place below that
  module _ (next : Db) (rels : (r : Relation) → IsIn r next.relations → base_at (places_of old) r.info.key ≡ 0) (vws : (v : View) → IsIn v next.views → base_at (places_of old) v.info.key ≡ 0)
      (ixs : (x : Index) → IsIn x next.indexes → IsIn x db.indexes) where
    off_base : (rel : RelKey) → is_relation db rel ≡ true → ((x : Index) → IsIn x next.indexes → x.base ≡ rel → ⊥) → (k : RelKey) (q : FilePlace) → is_there next k ≡ true → place_at (places_of old) k ≡ Some q
        → (q.base == (files_of old).file rel) ≡ false
    off_base rel there none k q here at = go (q.base == (files_of old).file rel) refl
      where
        zero : base_at (places_of old) k ≡ 0 → (q.base == (files_of old).file rel) ≡ true → ⊥
        zero z e =
            let same = same_number q.base ((files_of old).file rel) e in
            let none_is = sym (zero_base (places_of old) k q at) ∙ z in
            let many = some_file rel (relation_is_there db rel there) in
            omega (arith, same, none_is, many)

        go : (c : Bool) → (q.base == (files_of old).file rel) ≡ c → c ≡ false
        go true e = absurd (kind next k ⊥ here
            (λ r rt same. zero (ap (base_at (places_of old)) (sym same) ∙ rels r rt) e)
            (λ v vt same. zero (ap (base_at (places_of old)) (sym same) ∙ vws v vt) e)
            (λ x xt same. (let f = place_is (places_of old) k q at in
            let o = of_index db is old b rel there q f.0 (same_number q.base ((files_of old).file rel) e) in
            none x xt (ap (λ (x : Index). x.base) (one_index db is x o.0 (ixs x xt) o.1 (same ∙ sym f.1 ∙ sym o.2)) ∙ o.3))))
        go false e = refl

  -- the table of what stays
  same_left : (new : FileTable) (next : Db) → IsDatabase next → ((k : RelKey) → is_some (place_at (places_of new) k) ≡ true → is_there next k ≡ true)
      → ((k : RelKey) → is_there next k ≡ true → base_at (places_of new) k ≡ base_at (places_of old) k)
      → ((k : RelKey) → is_there next k ≡ true → (files_of new).file k ≡ (files_of old).file k)
      → list_all (λ i. is_file ((files_of new).file i.key)) (entries next) ≡ true → FilesDiffer next (files_of new)
      → ((r : Relation) → IsIn r next.relations → base_at (places_of old) r.info.key ≡ 0) → ((v : View) → IsIn v next.views → base_at (places_of old) v.info.key ≡ 0)
      → ((x : Index) → IsIn x next.indexes → IsIn x db.indexes) → IndexBases new next
  same_left new next is_next there base file are_files differ rels vws ixs = record {
    there = there;
    are_files = are_files;
    files_differ = differ;
    relations = all_of (λ (r : Relation). base_at (places_of new) r.info.key ≡ 0) next.relations (λ r at. base r.info.key (relation_there next r at) ∙ rels r at);
    views = all_of (λ (v : View). base_at (places_of new) v.info.key ≡ 0) next.views (λ v at. base v.info.key (view_there next v at) ∙ vws v at);
    indexes = all_of (λ (x : Index). base_at (places_of new) x.info.key ≡ (files_of new).file x.base) next.indexes
        (λ x at. base x.info.key (index_there next x at) ∙ of_all (λ (x : Index). base_at (places_of old) x.info.key ≡ (files_of old).file x.base) db.indexes x b.indexes (ixs x at)
        ∙ sym (file x.base (relation_is_there next x.base (base_is next is_next x at))));
  }

  -- ---- another place of a relation

  module _ (new : FileTable) (mid : List FilePlace) (rel : RelKey) (file used : ℕ) (there : is_relation db rel ≡ true) (file_is : file ≡ (files_of old).file rel) (put : places_of new ≡ with_place rel file used mid) where
    abbrev its : FilePlace
    its = record { key = rel; file = file; used = used; base = 0 }

    placed : (k : RelKey) → place_at (places_of new) k ≡ cond (same_key rel k) (Some its) (place_at mid k)
    placed k = ap (λ (places : List FilePlace). place_at places k) put ∙ place_put its mid k

    -- where a place was kept in between, what it says but its pages is the same
    put_base : (k : RelKey) → place_at mid k ≡ place_at (places_of old) k → base_at (places_of new) k ≡ base_at (places_of old) k
    unfolding base_at
    put_base k same = go (same_key rel k) refl
      where
        go : (c : Bool) → same_key rel k ≡ c → base_at (places_of new) k ≡ base_at (places_of old) k
        go true e =
            ap (λ (o : Option FilePlace). elim o [ None ↦ 0 | Some p ↦ p.base ]) (placed k ∙ ap (λ c. cond c (Some its) (place_at mid k)) e)
            ∙ sym (relation_base k (ap (is_relation db) (sym (same_key_is rel k e)) ∙ there))
        go false e = same_base (places_of new) (places_of old) k (placed k ∙ ap (λ c. cond c (Some its) (place_at mid k)) e ∙ same)

    put_file : (k : RelKey) → place_at mid k ≡ place_at (places_of old) k → (files_of new).file k ≡ (files_of old).file k
    put_file k same = go (same_key rel k) refl
      where
        go : (c : Bool) → same_key rel k ≡ c → (files_of new).file k ≡ (files_of old).file k
        go true e =
            (file_some (places_of new) k its (placed k ∙ ap (λ c. cond c (Some its) (place_at mid k)) e)).0 ∙ file_is ∙ ap (files_of old).file (same_key_is rel k e)
        go false e = file_same (places_of old) (places_of new) k (placed k ∙ ap (λ c. cond c (Some its) (place_at mid k)) e ∙ same)

    -- and it is as if it were put among all
    put_among : (k : RelKey) → place_at mid k ≡ place_at (places_of old) k → place_at (places_of new) k ≡ place_at (with_place rel file used (places_of old)) k
    put_among k same = placed k ∙ ap (λ (o : Option FilePlace). cond (same_key rel k) (Some its) o) same ∙ sym (place_put its (places_of old) k)

    -- what has a place was there
    put_there : (k : RelKey) → ((q : FilePlace) → place_at mid k ≡ Some q → is_there db k ≡ true) → is_some (place_at (places_of new) k) ≡ true → is_there db k ≡ true
    put_there k from h = go (same_key rel k) refl
      where
        some : (o : Option FilePlace) → place_at mid k ≡ o → is_some o ≡ true → is_there db k ≡ true
        some None e h = cc h
        some (Some q) e h = from q e

        go : (c : Bool) → same_key rel k ≡ c → is_there db k ≡ true
        go true e = ap (is_there db) (sym (same_key_is rel k e)) ∙ relation_is_there db rel there
        go false e = some (place_at mid k) refl (ap is_some (sym (placed k ∙ ap (λ c. cond c (Some its) (place_at mid k)) e)) ∙ h)

  -- rows change
  rows_same : (new : FileTable) (rel : RelKey) (file used : ℕ) → is_relation db rel ≡ true → file ≡ (files_of old).file rel → places_of new ≡ with_place rel file used (places_of old) → IndexBases new db
  rows_same new rel file used there file_is put =
      let file_kept : (k : RelKey) → (files_of new).file k ≡ (files_of old).file k = λ k. put_file new (places_of old) rel file used there file_is put k refl in
      let all : (files_of new).file ≡ (files_of old).file = λ i k. file_kept k i in
      same_left new db is
      (λ k. put_there new (places_of old) rel file used there file_is put k (λ q e. b.there k (ap is_some e)))
      (λ k here. put_base new (places_of old) rel file used there file_is put k refl) (λ k here. file_kept k)
      (subst (λ (g : RelKey → ℕ). list_all (λ (i : RelInfo). is_file (g i.key)) (entries db) ≡ true) (sym all) b.are_files)
      (subst (λ (g : RelKey → ℕ). differ_by nat_eq (map (λ (i : RelInfo). g i.key) (entries db)) ≡ true) (sym all) b.files_differ)
      (λ r at. of_all (λ (r : Relation). base_at (places_of old) r.info.key ≡ 0) db.relations r b.relations at) (λ v at. of_all (λ (v : View). base_at (places_of old) v.info.key ≡ 0) db.views v b.views at) (λ x at. at)

  -- ---- another structure

  module _ (new : FileTable) (rel : RelKey) (to : Spec) (keys : List ℕ) (file used : ℕ) (there : is_relation db rel ≡ true) (file_is : file ≡ (files_of old).file rel)
      (put : places_of new ≡ with_place rel file used (left_base file (places_of old))) where
    abbrev next : Db
    next = laid db (change.Modify rel to keys)

    keeps_key : (r : Relation) (c : Bool) → (elim c as (λ b. Relation) [ true ↦ restructured to keys r | false ↦ r ]).info.key ≡ r.info.key
    keeps_key r true = refl
    keeps_key r false = refl

    mod_rels : (r : Relation) → IsIn r next.relations → base_at (places_of old) r.info.key ≡ 0
    unfolding laid
    mod_rels r at =
        let m = map_in (λ (r : Relation). elim (same_key r.info.key rel) as (λ b. Relation) [ true ↦ restructured to keys r | false ↦ r ]) db.relations r at in
        ap (λ (r : Relation). base_at (places_of old) r.info.key) m.2 ∙ ap (base_at (places_of old)) (keeps_key m.0 (same_key m.0.info.key rel)) ∙ of_all (λ (r : Relation). base_at (places_of old) r.info.key ≡ 0) db.relations m.0 b.relations m.1

    mod_views : (v : View) → IsIn v next.views → base_at (places_of old) v.info.key ≡ 0
    unfolding laid
    mod_views v at = of_all (λ (v : View). base_at (places_of old) v.info.key ≡ 0) db.views v b.views at

    off : (c : Bool) → not c ≡ true → c ≡ false
    off true e = absurd (cc e)
    off false e = refl

    mod_indexes : (x : Index) → IsIn x next.indexes → IsIn x db.indexes × (same_key x.base rel ≡ false)
    unfolding laid
    mod_indexes x at = let f = filter_in (λ (x : Index). not (same_key x.base rel)) db.indexes x at in (f.0, off (same_key x.base rel) f.1)

    mod_kept : (k : RelKey) → is_there next k ≡ true → place_at (left_base file (places_of old)) k ≡ place_at (places_of old) k
    mod_kept k here =
        place_kept (places_of old) (left_base file (places_of old)) (λ p. not (p.base == file)) k refl
        (λ q at. ap not (ap (λ n. q.base == n) file_is
        ∙ off_base next mod_rels mod_views (λ x at. (mod_indexes x at).0) rel there (λ x at e. true≢false (sym (ap (λ k. same_key k rel) e ∙ same_key_itself rel) ∙ (mod_indexes x at).1)) k q here at))

    -- an index on the relation has no place any more
    mod_gone : (x : Index) → IsIn x db.indexes → x.base ≡ rel → is_some (place_at (places_of new) x.info.key) ≡ true → ⊥
    mod_gone x at on h = go (same_key rel x.info.key) refl
      where
        based : base_at (places_of old) x.info.key ≡ (files_of old).file rel
        based = of_all (λ (x : Index). base_at (places_of old) x.info.key ≡ (files_of old).file x.base) db.indexes x b.indexes at ∙ ap (files_of old).file on

        some : (o : Option FilePlace) → place_at (left_base file (places_of old)) x.info.key ≡ o → is_some o ≡ true → ⊥
        some None e h = cc h
        some (Some q) e h =
            let f = place_is (left_base file (places_of old)) x.info.key q e in
            let l = filter_in (λ (p : FilePlace). not (p.base == file)) (places_of old) q f.0 in
            let same : q.base ≡ file = sym (zero_base (places_of old) q.key q (its_place q l.0)) ∙ ap (base_at (places_of old)) f.1 ∙ based ∙ sym file_is in
            true≢false (sym (ap (λ n. n == file) same ∙ number_itself file) ∙ off (q.base == file) l.1)

        go : (c : Bool) → same_key rel x.info.key ≡ c → ⊥
        go true e =
            let zero = sym based ∙ ap (base_at (places_of old)) (sym (same_key_is rel x.info.key e)) ∙ relation_base rel there in
            let many = some_file rel (relation_is_there db rel there) in
            omega (arith, zero, many)
        go false e = some (place_at (left_base file (places_of old)) x.info.key) refl (ap is_some (sym (placed new (left_base file (places_of old)) rel file used there file_is put x.info.key ∙ ap (λ c. cond c (Some its) (place_at (left_base file (places_of old)) x.info.key)) e)) ∙ h)
          where
            its : FilePlace
            its = record { key = rel; file = file; used = used; base = 0 }

    mod_there : (k : RelKey) → is_some (place_at (places_of new) k) ≡ true → is_there next k ≡ true
    unfolding laid
    mod_there k h =
        kind db k (is_there next k ≡ true)
        (put_there new (left_base file (places_of old)) rel file used there file_is put k
        (λ q e. (let f = place_is (left_base file (places_of old)) k q e in ap (is_there db) (sym f.1) ∙ place_there q (filter_in (λ (p : FilePlace). not (p.base == file)) (places_of old) q f.0).0)) h)
        (λ r at same. ap (is_there next) (sym same ∙ sym (keeps_key r (same_key r.info.key rel)))
        ∙ relation_there next (elim (same_key r.info.key rel) as (λ b. Relation) [ true ↦ restructured to keys r | false ↦ r ])
        (in_map (λ (r : Relation). elim (same_key r.info.key rel) as (λ b. Relation) [ true ↦ restructured to keys r | false ↦ r ]) db.relations r at))
        (λ v at same. ap (is_there next) (sym same) ∙ view_there next v at)
        (λ x at same. index x at same (same_key x.base rel) refl)
      where
        index : (x : Index) → IsIn x db.indexes → x.info.key ≡ k → (c : Bool) → same_key x.base rel ≡ c → is_there next k ≡ true
        index x at same true e = absurd (mod_gone x at (same_key_is x.base rel e) (ap (λ k. is_some (place_at (places_of new) k)) same ∙ h))
        index x at same false e = ap (is_there next) (sym same) ∙ index_there next x (in_filter (λ (x : Index). not (same_key x.base rel)) db.indexes x at (ap not e))

    modified_same : SayTheSame next (files_at (with_place rel file used (places_of old))) (files_of new)
    modified_same = record {
      file = λ k here. file_same (with_place rel file used (places_of old)) (places_of new) k (put_among new (left_base file (places_of old)) rel file used there file_is put k (mod_kept k here));
      used = λ k here. used_same (with_place rel file used (places_of old)) (places_of new) k (put_among new (left_base file (places_of old)) rel file used there file_is put k (mod_kept k here));
    }

    modified_bases : IsDatabase next → list_all (λ i. is_file ((files_of new).file i.key)) (entries next) ≡ true → FilesDiffer next (files_of new) → IndexBases new next
    modified_bases leaves are_files differ =
        same_left new next leaves mod_there
        (λ k here. put_base new (left_base file (places_of old)) rel file used there file_is put k (mod_kept k here))
        (λ k here. put_file new (left_base file (places_of old)) rel file used there file_is put k (mod_kept k here))
        are_files differ mod_rels mod_views (λ x at. (mod_indexes x at).0)

  -- ---- what is destroyed

  -- what has one file is one
  one_file : (k l : RelKey) → is_there db k ≡ true → is_there db l ≡ true → (files_of old).file k ≡ (files_of old).file l → k ≡ l
  one_file k l here there same =
      let i = found_under db k here in
      let j = found_under db l there in
      sym i.2 ∙ ap (λ (i : RelInfo). i.key) (apart_same (λ (i j : RelInfo). (files_of old).file i.key == (files_of old).file j.key) (λ i j e. equal_turned ((files_of old).file j.key) ((files_of old).file i.key) ∙ e) (entries db) i.0 j.0
      (pairs_apart (λ (i j : RelInfo). (files_of old).file i.key == (files_of old).file j.key) (entries db)
      (pairs_unmap (λ (m n : ℕ). (m == n) ≡ false) (λ (i : RelInfo). (files_of old).file i.key) (entries db) (differ_pairs nat_eq (map (λ (i : RelInfo). (files_of old).file i.key) (entries db)) b.files_differ)))
      i.1 j.1 ((λ t. (files_of old).file (i.2 t) == (files_of old).file (j.2 t)) ∙ ap (λ n. n == (files_of old).file l) same ∙ number_itself ((files_of old).file l))) ∙ j.2

  module _ (new : FileTable) (rels : List RelKey) (put : places_of new ≡ left_all rels (places_of old)) where
    abbrev rest : Db
    rest = laid db (change.Destroy rels)

    none : (c : Bool) → not c ≡ true → c ≡ false
    none true e = absurd (cc e)
    none false e = refl

    neither : (c d : Bool) → not (c || d) ≡ true → (c ≡ false) × (d ≡ false)
    neither true d e = absurd (cc e)
    neither false true e = absurd (cc e)
    neither false false e = (refl, refl)

    rest_rels : (r : Relation) → IsIn r rest.relations → IsIn r db.relations × (has_key rels r.info.key ≡ false)
    unfolding laid
    rest_rels r at = let f = filter_in (λ (r : Relation). not (has_key rels r.info.key)) db.relations r at in (f.0, none (has_key rels r.info.key) f.1)

    rest_views : (v : View) → IsIn v rest.views → IsIn v db.views × (has_key rels v.info.key ≡ false)
    unfolding laid
    rest_views v at = let f = filter_in (λ (v : View). not (has_key rels v.info.key)) db.views v at in (f.0, none (has_key rels v.info.key) f.1)

    rest_indexes : (x : Index) → IsIn x rest.indexes → IsIn x db.indexes × (has_key rels x.info.key ≡ false) × (has_key rels x.base ≡ false)
    unfolding laid
    rest_indexes x at =
        let f = filter_in (λ (x : Index). not (has_key rels x.info.key || has_key rels x.base)) db.indexes x at in
        let n = neither (has_key rels x.info.key) (has_key rels x.base) f.1 in
        (f.0, n.0, n.1)

    rel_zero : (r : Relation) → IsIn r rest.relations → base_at (places_of old) r.info.key ≡ 0
    rel_zero r at = of_all (λ (r : Relation). base_at (places_of old) r.info.key ≡ 0) db.relations r b.relations (rest_rels r at).0

    view_zero : (v : View) → IsIn v rest.views → base_at (places_of old) v.info.key ≡ 0
    view_zero v at = of_all (λ (v : View). base_at (places_of old) v.info.key ≡ 0) db.views v b.views (rest_views v at).0

    rest_none : (k : RelKey) → is_there rest k ≡ true → has_key rels k ≡ false
    rest_none k here =
        kind rest k (has_key rels k ≡ false) here (λ r at same. ap (has_key rels) (sym same) ∙ (rest_rels r at).1) (λ v at same. ap (has_key rels) (sym same) ∙ (rest_views v at).1)
        (λ x at same. ap (has_key rels) (sym same) ∙ (rest_indexes x at).1)

    rest_apart : (k : RelKey) → is_there rest k ≡ true → (q p : FilePlace) → place_at (places_of old) k ≡ Some q → IsIn p (places_of old) → has_key rels p.key ≡ true → (q.base == p.file) ≡ false
    rest_apart k here q p at bt h =
        kind rest k ((q.base == p.file) ≡ false) here
        (λ r rt same. apart_zero p.file (place_file p bt) q.base (sym (zero_base (places_of old) k q at) ∙ ap (base_at (places_of old)) (sym same) ∙ rel_zero r rt))
        (λ v vt same. apart_zero p.file (place_file p bt) q.base (sym (zero_base (places_of old) k q at) ∙ ap (base_at (places_of old)) (sym same) ∙ view_zero v vt))
        (λ x xt same. index x xt same (q.base == p.file) refl)
      where
        index : (x : Index) → IsIn x rest.indexes → x.info.key ≡ k → (c : Bool) → (q.base == p.file) ≡ c → c ≡ false
        index x xt same true e =
            let i = rest_indexes x xt in
            let based : q.base ≡ (files_of old).file x.base = sym (zero_base (places_of old) k q at) ∙ ap (base_at (places_of old)) (sym same) ∙ of_all (λ (x : Index). base_at (places_of old) x.info.key ≡ (files_of old).file x.base) db.indexes x b.indexes i.0 in
            let file : (files_of old).file p.key ≡ p.file = (file_some (places_of old) p.key p (its_place p bt)).0 in
            let one = one_file x.base p.key (relation_is_there db x.base (base_is db is x i.0)) (place_there p bt) (sym based ∙ same_number q.base p.file e ∙ sym file) in
            absurd (true≢false (sym h ∙ ap (has_key rels) (sym one) ∙ i.2))
        index x xt same false e = refl

    rest_kept : (k : RelKey) → is_there rest k ≡ true → place_at (places_of new) k ≡ place_at (places_of old) k
    rest_kept k here = ap (λ (places : List FilePlace). place_at places k) put ∙ all_kept rels (places_of old) k (rest_none k here) (rest_apart k here)

    rest_there : (k : RelKey) → is_some (place_at (places_of new) k) ≡ true → is_there rest k ≡ true
    unfolding laid
    rest_there k h = go (place_at (places_of new) k) refl h
      where
        its : (p : FilePlace) → place_at (places_of new) k ≡ Some p → IsIn p (left_all rels (places_of old)) × (p.key ≡ k)
        its p e = let f = place_is (places_of new) k p e in (subst (λ (places : List FilePlace). IsIn p places) put f.0, f.1)

        index : (p : FilePlace) → IsIn p (left_all rels (places_of old)) → p.key ≡ k → has_key rels k ≡ false → (x : Index) → IsIn x db.indexes → x.info.key ≡ k → (c : Bool) → has_key rels x.base ≡ c → is_there rest k ≡ true
        index p at key off x xt same true e =
            let there = relation_is_there db x.base (base_is db is x xt) in
            let q = some_place x.base there in
            let file : (files_of old).file x.base ≡ q.0.file = (file_some (places_of old) x.base q.0 q.1).0 in
            let many = some_file x.base there in
            let zero : q.0.base ≡ 0 = sym (zero_base (places_of old) x.base q.0 q.1) ∙ relation_base x.base (base_is db is x xt) in
            let some : (q.0.file == 0) ≡ false = not_none q.0.file (omega (arith, many, file)) in
            let gone = bases_gone rels (places_of old) x.base q.0 p e q.1 some (λ p bt. apart_zero p.file (place_file p bt) q.0.base zero) at in
            let l = (all_left rels (places_of old) p at).0 in
            let based : p.base ≡ q.0.file = sym (zero_base (places_of old) p.key p (its_place p l)) ∙ ap (base_at (places_of old)) (key ∙ sym same) ∙ of_all (λ (x : Index). base_at (places_of old) x.info.key ≡ (files_of old).file x.base) db.indexes x b.indexes xt ∙ file in
            absurd (true≢false (sym (ap (λ n. n == q.0.file) based ∙ number_itself q.0.file) ∙ gone))
          where
            not_none : (n : ℕ) → 1 ≤ n → (n == 0) ≡ false
            not_none n some = none_is (n == 0) refl
              where
                none_is : (c : Bool) → (n == 0) ≡ c → c ≡ false
                none_is true e = absurd (let zero = same_number n 0 e in omega (arith, some, zero))
                none_is false e = refl
        index p at key off x xt same false e =
            ap (is_there rest) (sym same)
            ∙ index_there rest x (in_filter (λ (x : Index). not (has_key rels x.info.key || has_key rels x.base)) db.indexes x xt ((λ i. not ((ap (has_key rels) same ∙ off) i || e i))))

        go : (o : Option FilePlace) → place_at (places_of new) k ≡ o → is_some o ≡ true → is_there rest k ≡ true
        go None e h = cc h
        go (Some p) e h =
            let i = its p e in
            let l = all_left rels (places_of old) p i.0 in
            let off : has_key rels k ≡ false = ap (has_key rels) (sym i.1) ∙ l.1 in
            kind db k (is_there rest k ≡ true) (ap (is_there db) (sym i.1) ∙ place_there p l.0)
            (λ r at same. ap (is_there rest) (sym same) ∙ relation_there rest r (in_filter (λ (r : Relation). not (has_key rels r.info.key)) db.relations r at (ap not (ap (has_key rels) same ∙ off))))
            (λ v at same. ap (is_there rest) (sym same) ∙ view_there rest v (in_filter (λ (v : View). not (has_key rels v.info.key)) db.views v at (ap not (ap (has_key rels) same ∙ off))))
            (λ x at same. index p i.0 i.1 off x at same (has_key rels x.base) refl)

    destroyed_same : SayTheSame rest (files_of old) (files_of new)
    destroyed_same = record {
      file = λ k here. file_same (places_of old) (places_of new) k (rest_kept k here);
      used = λ k here. used_same (places_of old) (places_of new) k (rest_kept k here);
    }

    destroyed_bases : IsDatabase rest → list_all (λ i. is_file ((files_of new).file i.key)) (entries rest) ≡ true → FilesDiffer rest (files_of new) → IndexBases new rest
    destroyed_bases leaves are_files differ =
        same_left new rest leaves rest_there (λ k here. same_base (places_of new) (places_of old) k (rest_kept k here)) (λ k here. file_same (places_of old) (places_of new) k (rest_kept k here))
        are_files differ rel_zero view_zero (λ x at. (rest_indexes x at).0)

-- ---- each kind

-- the same places are the same table
same_places : (old new : FileTable) (db : Db) → IsDatabase db → IndexBases old db → places_of new ≡ places_of old → IndexBases new db
same_places old new db is b e = record {
  there = λ k h. b.there k (sym (ap (λ (places : List FilePlace). is_some (place_at places k)) e) ∙ h);
  are_files = subst (λ (places : List FilePlace). list_all (λ (i : RelInfo). is_file ((files_at places).file i.key)) (entries db) ≡ true) (sym e) b.are_files;
  files_differ = subst (λ (places : List FilePlace). differ_by nat_eq (map (λ (i : RelInfo). (files_at places).file i.key) (entries db)) ≡ true) (sym e) b.files_differ;
  relations = subst (λ (places : List FilePlace). AllByRecursion (λ (r : Relation). base_at places r.info.key ≡ 0) db.relations) (sym e) b.relations;
  views = subst (λ (places : List FilePlace). AllByRecursion (λ (v : View). base_at places v.info.key ≡ 0) db.views) (sym e) b.views;
  indexes = subst (λ (places : List FilePlace). AllByRecursion (λ (x : Index). base_at places x.info.key ≡ (files_at places).file x.base) db.indexes) (sym e) b.indexes;
}

module _ (db : Db) (old new : FileTable) (file used : ℕ) (is : IsDatabase db) (b : IndexBases old db) where
  -- a relation has a file, so the places below it go
  all_below : (rel : RelKey) → is_relation db rel ≡ true → file ≡ (files_of old).file rel → places_of new ≡ with_place rel file used (left_below file (places_of old))
      → places_of new ≡ with_place rel file used (left_base file (places_of old))
  all_below rel there file_is put = put ∙ ap (λ c. with_place rel file used (cond c (places_of old) (left_base file (places_of old)))) (go (file == 0) refl)
    where
      go : (c : Bool) → (file == 0) ≡ c → c ≡ false
      go true e = absurd (let zero = same_number file 0 e in let many = some_file old db is b rel (relation_is_there db rel there) in omega (arith, zero, many, file_is))
      go false e = refl

  -- the files are those after the change
  pub kept_after : (made : DbChange) → IsLawful db made → Suits made (files_of old) file used → places_of new ≡ places_after made file used (places_of old) → AreKept made db (files_after made file used (files_of old)) (files_of new)
  unfolding Suits places_after AreKept files_after placed_key names_what_is_there
  kept_after (change.Rows rel remove add) lawful suits put = files_put (places_of old) (places_of new) (record { key = rel; file = file; used = used; base = 0 }) put
  kept_after (change.Create info rows) lawful suits put = files_put (places_of old) (places_of new) (record { key = info.key; file = file; used = used; base = 0 }) put
  kept_after (change.Destroy rels) lawful suits put = destroyed_same old db is b new rels put
  kept_after (change.Modify rel to keys) lawful suits put =
      subst (λ f. SayTheSame (laid db (change.Modify rel to keys)) f (files_of new)) (files_put (places_of old) (with_place rel file used (places_of old)) (record { key = rel; file = file; used = used; base = 0 }) refl)
      (modified_same old db is b new rel to keys file used lawful.names_are_there suits.0 (all_below rel lawful.names_are_there suits.0 put))
  kept_after (change.Index base name keys) lawful suits put = files_put (places_of old) (places_of new) (record { key = key_of base.owner name; file = file; used = used; base = (files_of old).file base }) put
  kept_after (change.View info query) lawful suits put = files_put (places_of old) (places_of new) (record { key = info.key; file = file; used = used; base = 0 }) put
  kept_after (change.Permit rel permit) lawful suits put = ap files_at put
  kept_after (change.Rule rel rule) lawful suits put = ap files_at put
  kept_after (change.DropPermits rel numbers) lawful suits put = ap files_at put
  kept_after (change.DropRules rel numbers) lawful suits put = ap files_at put

  -- and the table is one of the database after it
  pub bases_after : (made : DbChange) → IsLawful db made → Suits made (files_of old) file used → places_of new ≡ places_after made file used (places_of old)
      → list_all (λ i. is_file ((files_of new).file i.key)) (entries (laid db made)) ≡ true → FilesDiffer (laid db made) (files_of new) → IndexBases new (laid db made)
  unfolding Suits places_after names_what_is_there new_key
  bases_after (change.Rows rel remove add) lawful suits put are_files differ =
      rows_bases new db rel remove add (rows_same old db is b new rel file used (both (is_relation db rel) _ lawful.names_are_there).0 suits.0 put)
  bases_after (change.Create info rows) lawful suits put are_files differ =
      created_bases old new db (record { key = info.key; file = file; used = used; base = 0 }) info rows is put (new_is_new (change.Create info rows) db info.key lawful refl) refl refl are_files differ b
  bases_after (change.Destroy rels) lawful suits put are_files differ = destroyed_bases old db is b new rels put lawful.leaves_a_database are_files differ
  bases_after (change.Modify rel to keys) lawful suits put are_files differ =
      modified_bases old db is b new rel to keys file used lawful.names_are_there suits.0 (all_below rel lawful.names_are_there suits.0 put) lawful.leaves_a_database are_files differ
  bases_after (change.Index base name keys) lawful suits put are_files differ =
      indexed_bases old new db (record { key = key_of base.owner name; file = file; used = used; base = (files_of old).file base }) base name keys is put (new_is_new (change.Index base name keys) db (key_of base.owner name) lawful refl) refl
      lawful.names_are_there refl are_files differ b
  bases_after (change.View info query) lawful suits put are_files differ =
      viewed_bases old new db (record { key = info.key; file = file; used = used; base = 0 }) info query is put (new_is_new (change.View info query) db info.key lawful refl) refl refl are_files differ b
  bases_after (change.Permit rel permit) lawful suits put are_files differ = permit_bases new db rel permit (same_places old new db is b put)
  bases_after (change.Rule rel rule) lawful suits put are_files differ = rule_bases new db rel rule (same_places old new db is b put)
  bases_after (change.DropPermits rel numbers) lawful suits put are_files differ = permits_dropped_bases new db rel numbers (same_places old new db is b put)
  bases_after (change.DropRules rel numbers) lawful suits put are_files differ = rules_dropped_bases new db rel numbers (same_places old new db is b put)
