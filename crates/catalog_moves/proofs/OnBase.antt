-- The places of the indexes on a relation are those of its indexes.
use Rattle.std.proofs.Common.{◌≡◌, refl, sym, ap, ◌∙◌, subst, inl, inr, ℕ, ◌≤◌, ◌==◌, Bool, true, false, cond, List, [], ◌∷◌, ◌++◌, map, filter, Some, None, Option, arith}
use Rattle.std.specs.Prelude.{nat_le, is_some, nat_eq, ◌⊎◌}
use Rattle.std.specs.List.{find, flat_map}
use Rattle.std.specs.List.Sorted.{IsStrictlySortedBy}
use Rattle.std.specs.declared.cmp.Ordering.{Ordering}
use Rattle.std.specs.declared.cmp.Ordering.TheVariants.{Less}
use Rattle.std.specs.Cmp.{IsTotalOrder}
use Rattle.std.proofs.lemmas.Bool.{leb-true}
use Rattle.std.proofs.lemmas.Cmp.{tied_itself}
use Rattle.std.proofs.lemmas.List.Kept.{IsStrictlySortedBy-filter}
use Rattle.calculus.specs.declared.query.RelKey.{RelKey}
use Rattle.calculus.specs.declared.schema.RelInfo.{RelInfo}
use Rattle.calculus.specs.Database.{Db, Relation, Index, View, entries, entry_at, is_relation}
use Rattle.calculus.specs.IsDatabase.{IsDatabase}
use Rattle.calculus.specs.Keys.{same_key, key_cmp}
use Rattle.base_trait.specs.Known.{known_at}
use Rattle.stored_database.proofs.Staying.{base_is}
use Rattle.stored_database.specs.Entries.{Entry, entry_bytes}
use Rattle.stored_database.specs.Printed.{is_file, index_entry}
use Rattle.stored_database.proofs.Members.{IsIn, of_all, of_tests, in_first, in_second, in_either, in_map, map_in, in_filter, filter_in, found_in, in_found, apart_same}
use Rattle.stored_database.proofs.Orders.{key_total, same_key_is, same_key_itself, same_key_turned}
use Rattle.stored_database.proofs.Pairs.{Pairs, all_unmap, pairs_apart, pairs_unmap, pairs_front, differ_pairs}
use Rattle.stored_database.proofs.PrintedEntries.{equal_turned}
use Rattle.stored_database.proofs.PrintedTrees.{relation_under}
use Rattle.stored_database.proofs.Reading.{both, same_number, number_itself}
use Rattle.catalog_moves.specs.declared.files.FilePlace.{FilePlace}
use Rattle.catalog_moves.specs.declared.files.FileTable.{FileTable}
use Rattle.catalog_moves.specs.Bases.{IndexBases, index_entries, rows_on}
use Rattle.catalog_moves.specs.Files.{place_at, places_of, files_of, base_at, by_place}
use Rattle.catalog_moves.specs.Moves.{entry_with}
use Rattle.catalog_moves.proofs.Known.{known_entry}
use Rattle.catalog_moves.proofs.Placing.{keys_up}
use Rattle.catalog_moves.proofs.Tables.{place_is, file_some, file_none}

-- ---- lists in order with the same members

-- what ascends and has the same members is the same
pub same_up : {A : Type 0} {cmp : A → A → Ordering} → IsTotalOrder cmp → (xs ys : List A) → IsStrictlySortedBy cmp xs → IsStrictlySortedBy cmp ys
    → ((z : A) → IsIn z xs → IsIn z ys) → ((z : A) → IsIn z ys → IsIn z xs) → xs ≡ ys
unfolding IsStrictlySortedBy
same_up order [] [] up over there back = refl
same_up order [] (y ∷ ys) up over there back = absurd (back y (inl refl))
same_up order (x ∷ xs) [] up over there back = absurd (there x (inl refl))
same_up {A} {cmp} order (x ∷ xs) (y ∷ ys) up over there back = ap (λ z. z ∷ xs) first ∙ ap (λ l. y ∷ l) (same_up order xs ys up.1 over.1 later sooner)
  where
    not_both : (a b : A) → cmp a b ≡ Less → cmp b a ≡ Less → ⊥
    not_both a b e f = cc (tied_itself order a, order.trans a b a e f)

    not_itself : (a : A) → cmp a a ≡ Less → ⊥
    not_itself a e = cc (tied_itself order a, e)

    first : x ≡ y
    first = go (there x (inl refl)) (back y (inl refl))
      where
        go : IsIn x (y ∷ ys) → IsIn y (x ∷ xs) → x ≡ y
        go (inl e) k = e
        go (inr at) (inl e) = sym e
        go (inr at) (inr bt) = absurd (not_both x y (of_all (λ z. cmp x z ≡ Less) xs y up.0 bt) (of_all (λ z. cmp y z ≡ Less) ys x over.0 at))

    later : (z : A) → IsIn z xs → IsIn z ys
    later z at = go (there z (inr at))
      where
        go : IsIn z (y ∷ ys) → IsIn z ys
        go (inl e) = absurd (not_itself z (subst (λ a. cmp a z ≡ Less) (first ∙ sym e) (of_all (λ z. cmp x z ≡ Less) xs z up.0 at)))
        go (inr k) = k

    sooner : (z : A) → IsIn z ys → IsIn z xs
    sooner z at = go (back z (inr at))
      where
        go : IsIn z (x ∷ xs) → IsIn z xs
        go (inl e) = absurd (not_itself z (subst (λ a. cmp a z ≡ Less) (sym first ∙ sym e) (of_all (λ z. cmp y z ≡ Less) ys z over.0 at)))
        go (inr k) = k

-- ---- rows of some

flat_cond : {X A : Type 0} (test : X → Bool) (g : X → List A) (xs : List X) → flat_map (λ x. cond (test x) (g x) []) xs ≡ flat_map g (filter test xs)
flat_cond test g [] = refl
flat_cond {X} {A} test g (x ∷ xs) = go (test x) (flat_cond test g xs)
  where
    go : (b : Bool) → flat_map (λ x. cond (test x) (g x) []) xs ≡ flat_map g (filter test xs) → cond b (g x) [] ++ flat_map (λ x. cond (test x) (g x) []) xs ≡ flat_map g (cond b (x ∷ filter test xs) (filter test xs))
    go true later = ap (λ l. g x ++ l) later
    go false later = later

flat_keys : {X K A : Type 0} (g : X → List A) (h : K → List A) (k : X → K) (xs : List X) → ((x : X) → IsIn x xs → g x ≡ h (k x)) → flat_map g xs ≡ flat_map h (map k xs)
flat_keys g h k [] same = refl
flat_keys g h k (x ∷ xs) same = ap (λ l. l ++ flat_map g xs) (same x (inl refl)) ∙ ap (λ l. h (k x) ++ l) (flat_keys g h k xs (λ y at. same y (inr at)))

flat_ones : {X K A : Type 0} (h : K → List A) (k : X → K) (g : X → A) (xs : List X) → ((x : X) → IsIn x xs → h (k x) ≡ g x ∷ []) → flat_map h (map k xs) ≡ map g xs
flat_ones h k g [] same = refl
flat_ones h k g (x ∷ xs) same = ap (λ l. l ++ flat_map h (map k xs)) (same x (inl refl)) ∙ ap (λ l. g x ∷ l) (flat_ones h k g xs (λ y at. same y (inr at)))

-- ---- places

-- each place is found under its key
pub found_self : (places : List FilePlace) → IsStrictlySortedBy by_place places → (p : FilePlace) → IsIn p places → place_at places p.key ≡ Some p
unfolding place_at IsStrictlySortedBy
found_self [] up p at = absurd at
found_self (q ∷ qs) up p (inl e) = ap (λ b. cond b (Some q) (find (λ (r : FilePlace). same_key r.key p.key) qs)) (ap (λ (r : FilePlace). same_key q.key r.key) e ∙ same_key_itself q.key) ∙ ap Some (sym e)
found_self (q ∷ qs) up p (inr at) = go (same_key q.key p.key) refl (found_self qs up.1 p at)
  where
    go : (b : Bool) → same_key q.key p.key ≡ b → find (λ (r : FilePlace). same_key r.key p.key) qs ≡ Some p → cond b (Some q) (find (λ (r : FilePlace). same_key r.key p.key) qs) ≡ Some p
    go true s later = cc (tied_itself key_total q.key, ap (key_cmp q.key) (same_key_is q.key p.key s), of_all (λ (r : FilePlace). key_cmp q.key r.key ≡ Less) qs p up.0 at)
    go false s later = later

-- by keys in order
pub up_by : {X : Type 0} (key_of : X → RelKey) (xs : List X) → IsStrictlySortedBy key_cmp (map key_of xs) → IsStrictlySortedBy (λ a b. key_cmp (key_of a) (key_of b)) xs
unfolding IsStrictlySortedBy
up_by key_of [] up = tt
up_by key_of (x ∷ xs) up = (all_unmap (λ k. key_cmp (key_of x) k ≡ Less) key_of xs up.0, up_by key_of xs up.1)

pub base_some : (places : List FilePlace) (k : RelKey) (p : FilePlace) → place_at places k ≡ Some p → base_at places k ≡ p.base
unfolding base_at
base_some places k p e = ap (λ (o : Option FilePlace). elim o [ None ↦ 0 | Some p ↦ p.base ]) e

module _ (db : Db) (is : IsDatabase db) where
  -- what stands under its key
  pub entry_itself : (i : RelInfo) → IsIn i (entries db) → entry_at db i.key ≡ Some i
  entry_itself i at =
      in_found (λ (j : RelInfo). same_key j.key i.key) (entries db) i at (same_key_itself i.key)
      (λ j bt same. apart_same (λ (a b : RelInfo). same_key a.key b.key) (λ a b e. same_key_turned a.key b.key e) (entries db) j i
      (pairs_apart (λ (a b : RelInfo). same_key a.key b.key) (entries db) (pairs_unmap (λ (k l : RelKey). same_key k l ≡ false) (λ (i : RelInfo). i.key) (entries db) (differ_pairs same_key (map (λ (i : RelInfo). i.key) (entries db)) is.keys_differ))) bt at same)

  -- and is known under it
  pub known_info : (i : RelInfo) → IsIn i (entries db) → known_at db i.key ≡ Some i
  known_info i at = known_entry db i.key i (entry_itself i at)

  pub index_in : (x : Index) → IsIn x db.indexes → IsIn x.info (entries db)
  index_in x at = in_second (map (λ (r : Relation). r.info) db.relations) _ x.info (in_second (map (λ (v : View). v.info) db.views) _ x.info (in_map (λ (x : Index). x.info) db.indexes x at))

  module _ (table : FileTable) (b : IndexBases table db) (rel : RelKey) (there : is_relation db rel ≡ true) where
    file_of : RelKey → ℕ
    file_of k = (files_of table).file k

    some_file : (i : RelInfo) → IsIn i (entries db) → 16 ≤ (files_of table).file i.key
    some_file i at = leb-true 16 ((files_of table).file i.key) (both (nat_le 16 ((files_of table).file i.key)) _ (of_tests (λ (i : RelInfo). is_file ((files_of table).file i.key)) (entries db) i b.are_files at)).0

    rel_file : 16 ≤ (files_of table).file rel
    rel_file =
        let u = relation_under db rel there in
        subst (λ k. 16 ≤ (files_of table).file k) u.its (some_file u.relation.info (in_first (map (λ (r : Relation). r.info) db.relations) _ u.relation.info (in_map (λ (r : Relation). r.info) db.relations u.relation u.there)))

    -- relations of one file have one key
    one_relation : (k : RelKey) → is_relation db k ≡ true → (files_of table).file k ≡ (files_of table).file rel → k ≡ rel
    one_relation k here same =
        let r = relation_under db k here in
        let s = relation_under db rel there in
        let one : r.relation ≡ s.relation = apart_same (λ (r s : Relation). (files_of table).file r.info.key == (files_of table).file s.info.key) (λ r s e. equal_turned ((files_of table).file s.info.key) ((files_of table).file r.info.key) ∙ e) db.relations r.relation s.relation
        (pairs_apart (λ (r s : Relation). (files_of table).file r.info.key == (files_of table).file s.info.key) db.relations by_relation) r.there s.there
        ((λ i. (files_of table).file (r.its i) == (files_of table).file (s.its i)) ∙ ap (λ n. n == (files_of table).file rel) same ∙ number_itself ((files_of table).file rel)) in
        sym r.its ∙ ap (λ (r : Relation). r.info.key) one ∙ s.its
      where
        by_relation : Pairs (λ (r s : Relation). ((files_of table).file r.info.key == (files_of table).file s.info.key) ≡ false) db.relations
        by_relation = pairs_unmap (λ (i j : RelInfo). ((files_of table).file i.key == (files_of table).file j.key) ≡ false) (λ (r : Relation). r.info) db.relations
            (pairs_front (λ (i j : RelInfo). ((files_of table).file i.key == (files_of table).file j.key) ≡ false) (map (λ (r : Relation). r.info) db.relations) _
            (pairs_unmap (λ (m n : ℕ). (m == n) ≡ false) (λ (i : RelInfo). (files_of table).file i.key) (entries db) (differ_pairs nat_eq (map (λ (i : RelInfo). (files_of table).file i.key) (entries db)) b.files_differ)))

    -- a place with the file of the relation as its base is that of an index on it
    pub of_index : (p : FilePlace) → IsIn p (places_of table) → p.base ≡ (files_of table).file rel → (x : Index) × IsIn x db.indexes × (x.info.key ≡ p.key) × (x.base ≡ rel)
    of_index p at base = go (entry_at db p.key) refl (b.there p.key (ap is_some found))
      where
        found : place_at (places_of table) p.key ≡ Some p
        found = found_self (places_of table) table.up p at

        none : base_at (places_of table) p.key ≡ 0 → ⊥
        none e = let zero_is : p.base ≡ 0 = sym (base_some (places_of table) p.key p found) ∙ e in absurd (omega (arith, zero_is, base, rel_file))

        which : (i : RelInfo) → i.key ≡ p.key → IsIn i (map (λ (r : Relation). r.info) db.relations) ⊎ IsIn i (map (λ (v : View). v.info) db.views ++ map (λ (x : Index). x.info) db.indexes)
            → (x : Index) × IsIn x db.indexes × (x.info.key ≡ p.key) × (x.base ≡ rel)
        which i same (inl k) = let r = map_in (λ (r : Relation). r.info) db.relations i k in absurd (none (ap (base_at (places_of table)) (sym same ∙ ap (λ (i : RelInfo). i.key) r.2) ∙ of_all (λ (r : Relation). base_at (places_of table) r.info.key ≡ 0) db.relations r.0 b.relations r.1))
        which i same (inr k) = last (in_either (map (λ (v : View). v.info) db.views) (map (λ (x : Index). x.info) db.indexes) i k)
          where
            last : IsIn i (map (λ (v : View). v.info) db.views) ⊎ IsIn i (map (λ (x : Index). x.info) db.indexes) → (x : Index) × IsIn x db.indexes × (x.info.key ≡ p.key) × (x.base ≡ rel)
            last (inl k) = let v = map_in (λ (v : View). v.info) db.views i k in absurd (none (ap (base_at (places_of table)) (sym same ∙ ap (λ (i : RelInfo). i.key) v.2) ∙ of_all (λ (v : View). base_at (places_of table) v.info.key ≡ 0) db.views v.0 b.views v.1))
            last (inr k) =
                let x = map_in (λ (x : Index). x.info) db.indexes i k in
                let key = sym (ap (λ (i : RelInfo). i.key) x.2) ∙ same in (
                  x.0,
                  x.1,
                  key,
                  one_relation x.0.base (base_is db is x.0 x.1)
                      (sym (of_all (λ (x : Index). base_at (places_of table) x.info.key ≡ (files_of table).file x.base) db.indexes x.0 b.indexes x.1) ∙ ap (base_at (places_of table)) key ∙ base_some (places_of table) p.key p found ∙ base),
                )

        go : (o : Option RelInfo) → entry_at db p.key ≡ o → is_some o ≡ true → (x : Index) × IsIn x db.indexes × (x.info.key ≡ p.key) × (x.base ≡ rel)
        go None e h = cc h
        go (Some i) e h =
            let f = found_in (λ (i : RelInfo). same_key i.key p.key) (entries db) i e in
            which i (same_key_is i.key p.key f.1) (in_either (map (λ (r : Relation). r.info) db.relations) _ i f.0)

    -- and an index on it has such a place
    pub place_of_index : (x : Index) → IsIn x db.indexes → x.base ≡ rel → (p : FilePlace) × IsIn p (places_of table) × (p.key ≡ x.info.key) × (p.base ≡ (files_of table).file rel)
    place_of_index x at base = go (place_at (places_of table) x.info.key) refl
      where
        go : (o : Option FilePlace) → place_at (places_of table) x.info.key ≡ o → (p : FilePlace) × IsIn p (places_of table) × (p.key ≡ x.info.key) × (p.base ≡ (files_of table).file rel)
        go None e = absurd (let many = some_file x.info (index_in x at) in let zero_is = (file_none (places_of table) x.info.key e).0 in omega (arith, many, zero_is))
        go (Some p) e =
            let f = place_is (places_of table) x.info.key p e in
            (p, f.0, f.1, sym (base_some (places_of table) x.info.key p e) ∙ of_all (λ (x : Index). base_at (places_of table) x.info.key ≡ (files_of table).file x.base) db.indexes x b.indexes at ∙ ap (files_of table).file base)

    abbrev ours : List FilePlace
    ours = filter (λ (p : FilePlace). p.base == (files_of table).file rel) (places_of table)

    abbrev theirs : List Index
    theirs = filter (λ (x : Index). same_key x.base rel) db.indexes

    keys_same : map (λ (p : FilePlace). p.key) ours ≡ map (λ (x : Index). x.info.key) theirs
    keys_same = same_up key_total (map (λ (p : FilePlace). p.key) ours) (map (λ (x : Index). x.info.key) theirs)
        (keys_up (λ (p : FilePlace). p.key) ours (IsStrictlySortedBy-filter by_place (λ (p : FilePlace). p.base == (files_of table).file rel) (places_of table) table.up))
        (keys_up (λ (x : Index). x.info.key) theirs (IsStrictlySortedBy-filter (λ (a b : Index). key_cmp a.info.key b.info.key) (λ (x : Index). same_key x.base rel) db.indexes (up_by (λ (x : Index). x.info.key) db.indexes is.indexes_ascend)))
        (λ k at. (let p = map_in (λ (p : FilePlace). p.key) ours k at in
        let f = filter_in (λ (p : FilePlace). p.base == (files_of table).file rel) (places_of table) p.0 p.1 in
        let x = of_index p.0 f.0 (same_number p.0.base ((files_of table).file rel) f.1) in
        subst (λ k. IsIn k (map (λ (x : Index). x.info.key) theirs)) (x.2 ∙ sym p.2)
        (in_map (λ (x : Index). x.info.key) theirs x.0 (in_filter (λ (x : Index). same_key x.base rel) db.indexes x.0 x.1 (ap (λ k. same_key k rel) x.3 ∙ same_key_itself rel)))))
        (λ k at. (let x = map_in (λ (x : Index). x.info.key) theirs k at in
        let f = filter_in (λ (x : Index). same_key x.base rel) db.indexes x.0 x.1 in
        let p = place_of_index x.0 f.0 (same_key_is x.0.base rel f.1) in
        subst (λ k. IsIn k (map (λ (p : FilePlace). p.key) ours)) (p.2 ∙ sym x.2)
        (in_map (λ (p : FilePlace). p.key) ours p.0 (in_filter (λ (p : FilePlace). p.base == (files_of table).file rel) (places_of table) p.0 p.1 (ap (λ n. n == (files_of table).file rel) p.3 ∙ number_itself ((files_of table).file rel))))))

    -- the row of the index under a key
    abbrev at_key : RelKey → List (List ℕ)
    at_key k = elim (known_at db k) [ None ↦ [] | Some info ↦ entry_bytes (entry_with ((files_of table).file k) ((files_of table).file rel) 0 0 info) ∷ [] ]

    at_place : (p : FilePlace) → IsIn p ours → map entry_bytes (index_entries db p) ≡ at_key p.key
    at_place p at =
        let f = filter_in (λ (p : FilePlace). p.base == (files_of table).file rel) (places_of table) p at in
        go (known_at db p.key) (sym (file_some (places_of table) p.key p (found_self (places_of table) table.up p f.0)).0) (same_number p.base ((files_of table).file rel) f.1)
      where
        go : (o : Option RelInfo) → p.file ≡ (files_of table).file p.key → p.base ≡ (files_of table).file rel
            → map entry_bytes (elim o as (λ (o : Option RelInfo). List Entry) [ None ↦ [] | Some info ↦ entry_with p.file p.base 0 0 info ∷ [] ])
            ≡ elim o as (λ (o : Option RelInfo). List (List ℕ)) [ None ↦ [] | Some info ↦ entry_bytes (entry_with ((files_of table).file p.key) ((files_of table).file rel) 0 0 info) ∷ [] ]
        go None e f = refl
        go (Some info) e f = λ i. entry_bytes (entry_with (e i) (f i) 0 0 info) ∷ []

    at_index : (x : Index) → IsIn x theirs → at_key x.info.key ≡ entry_bytes (index_entry (files_of table) x) ∷ []
    at_index x at =
        let f = filter_in (λ (x : Index). same_key x.base rel) db.indexes x at in
        ap (λ (o : Option RelInfo). elim o as (λ (o : Option RelInfo). List (List ℕ)) [ None ↦ [] | Some info ↦ entry_bytes (entry_with ((files_of table).file x.info.key) ((files_of table).file rel) 0 0 info) ∷ [] ]) (known_info x.info (index_in x f.0))
        ∙ ap (λ k. entry_bytes (entry_with ((files_of table).file x.info.key) ((files_of table).file k) 0 0 x.info) ∷ []) (sym (same_key_is x.base rel f.1))

    -- the rows at places with this base are those of the indexes on the relation
    pub on_base_rows : flat_map (rows_on ((files_of table).file rel) db) (places_of table) ≡ map (λ (x : Index). entry_bytes (index_entry (files_of table) x)) theirs
    on_base_rows =
        flat_cond (λ (p : FilePlace). p.base == (files_of table).file rel) (λ (p : FilePlace). map entry_bytes (index_entries db p)) (places_of table)
        ∙ flat_keys (λ (p : FilePlace). map entry_bytes (index_entries db p)) at_key (λ (p : FilePlace). p.key) ours at_place
        ∙ ap (flat_map at_key) keys_same
        ∙ flat_ones at_key (λ (x : Index). x.info.key) (λ (x : Index). entry_bytes (index_entry (files_of table) x)) theirs at_index
