-- A table stays one of its database, where something is made.
use Rattle.std.proofs.Common.{◌≡◌, refl, sym, ap, ◌∙◌, inl, inr, true≢false, ℕ, Bool, true, false, cond, List, ◌∷◌, ◌++◌, map, Some, None, Option}
use Rattle.std.specs.Prelude.{is_some, ◌⊎◌}
use Rattle.std.specs.List.{list_all}
use Rattle.std.specs.declared.cmp.Ordering.{Ordering}
use Rattle.std.specs.declared.cmp.Ordering.TheVariants.{Equal}
use Rattle.calculus.specs.declared.query.RelKey.{RelKey}
use Rattle.calculus.specs.declared.query.Query.{Query}
use Rattle.calculus.specs.declared.schema.RelInfo.{RelInfo}
use Rattle.calculus.specs.declared.change.DbChange.TheVariants as change
use Rattle.calculus.specs.Change.{laid, index_info}
use Rattle.calculus.specs.Database.{Db, Relation, Index, View, entries, entry_at, is_there, is_relation}
use Rattle.calculus.specs.IsDatabase.{IsDatabase}
use Rattle.calculus.specs.Keys.{same_key, key_cmp, key_of}
use Rattle.calculus.specs.Lists.{insert_by}
use Rattle.calculus.specs.Rows.{Row, set_of}
use Rattle.stored_database.specs.ChangeLaws.{FilesDiffer}
use Rattle.stored_database.proofs.Staying.{relation_there, view_there, index_there, relation_is_there, base_is, equal_keys}
use Rattle.stored_database.specs.Printed.{is_file}
use Rattle.stored_database.proofs.Members.{IsIn, of_all, all_of, in_either, map_in, found_in}
use Rattle.stored_database.proofs.Orders.{same_key_is, same_key_itself}
use Rattle.stored_database.proofs.Sets.{insert_in, in_insert}
use Rattle.catalog_moves.specs.declared.files.FilePlace.{FilePlace}
use Rattle.catalog_moves.specs.declared.files.FileTable.{FileTable}
use Rattle.catalog_moves.specs.Bases.{IndexBases}
use Rattle.catalog_moves.specs.Files.{place_at, places_of, files_of, files_at, base_at, by_place}
use Rattle.catalog_moves.proofs.Tables.{place_put}

-- what is there stays there, where relations, views and indexes stay
stays_there : (db next : Db) → ((r : Relation) → IsIn r db.relations → IsIn r next.relations) → ((v : View) → IsIn v db.views → IsIn v next.views) → ((x : Index) → IsIn x db.indexes → IsIn x next.indexes)
    → (k : RelKey) → is_there db k ≡ true → is_there next k ≡ true
stays_there db next rels vws ixs k h = go (entry_at db k) refl h
  where
    last : (i : RelInfo) → i.key ≡ k → IsIn i (map (λ (v : View). v.info) db.views) ⊎ IsIn i (map (λ (x : Index). x.info) db.indexes) → is_there next k ≡ true
    last i same (inl at) = let v = map_in (λ (v : View). v.info) db.views i at in ap (is_there next) (sym same ∙ ap (λ (i : RelInfo). i.key) v.2) ∙ view_there next v.0 (vws v.0 v.1)
    last i same (inr at) = let x = map_in (λ (x : Index). x.info) db.indexes i at in ap (is_there next) (sym same ∙ ap (λ (i : RelInfo). i.key) x.2) ∙ index_there next x.0 (ixs x.0 x.1)

    first : (i : RelInfo) → i.key ≡ k → IsIn i (map (λ (r : Relation). r.info) db.relations) ⊎ IsIn i (map (λ (v : View). v.info) db.views ++ map (λ (x : Index). x.info) db.indexes) → is_there next k ≡ true
    first i same (inl at) = let r = map_in (λ (r : Relation). r.info) db.relations i at in ap (is_there next) (sym same ∙ ap (λ (i : RelInfo). i.key) r.2) ∙ relation_there next r.0 (rels r.0 r.1)
    first i same (inr at) = last i same (in_either (map (λ (v : View). v.info) db.views) (map (λ (x : Index). x.info) db.indexes) i at)

    go : (o : Option RelInfo) → entry_at db k ≡ o → is_some o ≡ true → is_there next k ≡ true
    go None e h = cc h
    go (Some i) e h =
        let f = found_in (λ (i : RelInfo). same_key i.key k) (entries db) i e in
        first i (same_key_is i.key k f.1) (in_either (map (λ (r : Relation). r.info) db.relations) _ i f.0)

module _ (old new : FileTable) (db next : Db) (p : FilePlace) (put : places_of new ≡ insert_by by_place p (places_of old)) (fresh : is_there db p.key ≡ false) where
  at : (k : RelKey) → place_at (places_of new) k ≡ cond (same_key p.key k) (Some p) (place_at (places_of old) k)
  at k = ap (λ (places : List FilePlace). place_at places k) put ∙ place_put p (places_of old) k

  another : (k : RelKey) → is_there db k ≡ true → same_key p.key k ≡ false
  another k h = go (same_key p.key k) refl
    where
      go : (c : Bool) → same_key p.key k ≡ c → c ≡ false
      go true e = absurd (true≢false (sym h ∙ ap (is_there db) (sym (same_key_is p.key k e)) ∙ fresh))
      go false e = refl

  place_there : (k : RelKey) → is_there db k ≡ true → place_at (places_of new) k ≡ place_at (places_of old) k
  place_there k h = at k ∙ ap (λ c. cond c (Some p) (place_at (places_of old) k)) (another k h)

  base_there : (k : RelKey) → is_there db k ≡ true → base_at (places_of new) k ≡ base_at (places_of old) k
  unfolding base_at
  base_there k h = ap (λ (o : Option FilePlace). elim o [ None ↦ 0 | Some p ↦ p.base ]) (place_there k h)

  file_there : (k : RelKey) → is_there db k ≡ true → (files_of new).file k ≡ (files_of old).file k
  unfolding files_at
  file_there k h = ap (λ (o : Option FilePlace). elim o [ None ↦ 0 | Some p ↦ p.file ]) (place_there k h)

  base_here : (k : RelKey) → k ≡ p.key → base_at (places_of new) k ≡ p.base
  unfolding base_at
  base_here k e = ap (λ (o : Option FilePlace). elim o [ None ↦ 0 | Some p ↦ p.base ]) (at k ∙ ap (λ c. cond c (Some p) (place_at (places_of old) k)) (ap (same_key p.key) e ∙ same_key_itself p.key))

  pub made_bases : list_all (λ i. is_file ((files_of new).file i.key)) (entries next) ≡ true → FilesDiffer next (files_of new)
      → ((k : RelKey) → is_there db k ≡ true → is_there next k ≡ true) → is_there next p.key ≡ true
      → ((r : Relation) → IsIn r next.relations → IsIn r db.relations ⊎ ((r.info.key ≡ p.key) × (p.base ≡ 0)))
      → ((v : View) → IsIn v next.views → IsIn v db.views ⊎ ((v.info.key ≡ p.key) × (p.base ≡ 0)))
      → ((x : Index) → IsIn x next.indexes → IsIn x db.indexes ⊎ ((x.info.key ≡ p.key) × (p.base ≡ (files_of old).file x.base)))
      → ((x : Index) → IsIn x next.indexes → is_there db x.base ≡ true) → IndexBases old db → IndexBases new next
  made_bases are_files differ stay made rels vws ixs below b = record {
    there = λ k h. there k (same_key p.key k) refl h;
    are_files = are_files;
    files_differ = differ;
    relations = all_of (λ (r : Relation). base_at (places_of new) r.info.key ≡ 0) next.relations (λ r at. relation r (rels r at));
    views = all_of (λ (v : View). base_at (places_of new) v.info.key ≡ 0) next.views (λ v at. view v (vws v at));
    indexes = all_of (λ (x : Index). base_at (places_of new) x.info.key ≡ (files_of new).file x.base) next.indexes (λ x at. index x (ixs x at) (below x at));
  }
    where
      there : (k : RelKey) (c : Bool) → same_key p.key k ≡ c → is_some (place_at (places_of new) k) ≡ true → is_there next k ≡ true
      there k true e h = ap (is_there next) (sym (same_key_is p.key k e)) ∙ made
      there k false e h = stay k (b.there k (sym (ap is_some (at k ∙ ap (λ c. cond c (Some p) (place_at (places_of old) k)) e)) ∙ h))

      relation : (r : Relation) → IsIn r db.relations ⊎ ((r.info.key ≡ p.key) × (p.base ≡ 0)) → base_at (places_of new) r.info.key ≡ 0
      relation r (inl k) = base_there r.info.key (relation_there db r k) ∙ of_all (λ (r : Relation). base_at (places_of old) r.info.key ≡ 0) db.relations r b.relations k
      relation r (inr e) = base_here r.info.key e.0 ∙ e.1

      view : (v : View) → IsIn v db.views ⊎ ((v.info.key ≡ p.key) × (p.base ≡ 0)) → base_at (places_of new) v.info.key ≡ 0
      view v (inl k) = base_there v.info.key (view_there db v k) ∙ of_all (λ (v : View). base_at (places_of old) v.info.key ≡ 0) db.views v b.views k
      view v (inr e) = base_here v.info.key e.0 ∙ e.1

      index : (x : Index) → IsIn x db.indexes ⊎ ((x.info.key ≡ p.key) × (p.base ≡ (files_of old).file x.base)) → is_there db x.base ≡ true → base_at (places_of new) x.info.key ≡ (files_of new).file x.base
      index x (inl k) h = base_there x.info.key (index_there db x k) ∙ of_all (λ (x : Index). base_at (places_of old) x.info.key ≡ (files_of old).file x.base) db.indexes x b.indexes k ∙ sym (file_there x.base h)
      index x (inr e) h = base_here x.info.key e.0 ∙ e.1 ∙ sym (file_there x.base h)

-- ---- each kind

-- a relation is made
pub created_bases : (old new : FileTable) (db : Db) (p : FilePlace) (info : RelInfo) (rows : List Row) → IsDatabase db → places_of new ≡ insert_by by_place p (places_of old) → is_there db p.key ≡ false → info.key ≡ p.key → p.base ≡ 0
    → list_all (λ i. is_file ((files_of new).file i.key)) (entries (laid db (change.Create info rows))) ≡ true → FilesDiffer (laid db (change.Create info rows)) (files_of new)
    → IndexBases old db → IndexBases new (laid db (change.Create info rows))
unfolding laid
created_bases old new db p info rows is put fresh key base are_files differ b =
    made_bases old new db (laid db (change.Create info rows)) p put fresh are_files differ
    (stays_there db (laid db (change.Create info rows)) (λ r k. in_insert cmp made db.relations r clash (inr k)) (λ v k. k) (λ x k. k))
    (ap (is_there (laid db (change.Create info rows))) (sym key) ∙ relation_there (laid db (change.Create info rows)) made (in_insert cmp made db.relations made clash (inl refl)))
    (λ r k. which r (insert_in cmp made db.relations r k)) (λ v k. inl k) (λ x k. inl k) (λ x k. relation_is_there db x.base (base_is db is x k)) b
  where
    made : Relation
    made = record { info = info; rows = set_of rows }

    cmp : Relation → Relation → Ordering
    cmp a b = key_cmp a.info.key b.info.key

    clash : (r : Relation) → IsIn r db.relations → key_cmp info.key r.info.key ≡ Equal → record { info = info; rows = set_of rows } ≡ r
    clash r k e = absurd (true≢false (sym (relation_there db r k) ∙ ap (is_there db) (sym (equal_keys info.key r.info.key e) ∙ key) ∙ fresh))

    which : (r : Relation) → IsIn r (record { info = info; rows = set_of rows } ∷ db.relations) → IsIn r db.relations ⊎ ((r.info.key ≡ p.key) × (p.base ≡ 0))
    which r (inl e) = inr (ap (λ (r : Relation). r.info.key) e ∙ key, base)
    which r (inr k) = inl k

-- a view is made
pub viewed_bases : (old new : FileTable) (db : Db) (p : FilePlace) (info : RelInfo) (q : Query) → IsDatabase db → places_of new ≡ insert_by by_place p (places_of old) → is_there db p.key ≡ false → info.key ≡ p.key → p.base ≡ 0
    → list_all (λ i. is_file ((files_of new).file i.key)) (entries (laid db (change.View info q))) ≡ true → FilesDiffer (laid db (change.View info q)) (files_of new)
    → IndexBases old db → IndexBases new (laid db (change.View info q))
unfolding laid
viewed_bases old new db p info q is put fresh key base are_files differ b =
    made_bases old new db (laid db (change.View info q)) p put fresh are_files differ
    (stays_there db (laid db (change.View info q)) (λ r k. k) (λ v k. in_insert cmp made db.views v clash (inr k)) (λ x k. k))
    (ap (is_there (laid db (change.View info q))) (sym key) ∙ view_there (laid db (change.View info q)) made (in_insert cmp made db.views made clash (inl refl)))
    (λ r k. inl k) (λ v k. which v (insert_in cmp made db.views v k)) (λ x k. inl k) (λ x k. relation_is_there db x.base (base_is db is x k)) b
  where
    made : View
    made = record { info = info; query = q }

    cmp : View → View → Ordering
    cmp a b = key_cmp a.info.key b.info.key

    clash : (v : View) → IsIn v db.views → key_cmp info.key v.info.key ≡ Equal → record { info = info; query = q } ≡ v
    clash v k e = absurd (true≢false (sym (view_there db v k) ∙ ap (is_there db) (sym (equal_keys info.key v.info.key e) ∙ key) ∙ fresh))

    which : (v : View) → IsIn v (record { info = info; query = q } ∷ db.views) → IsIn v db.views ⊎ ((v.info.key ≡ p.key) × (p.base ≡ 0))
    which v (inl e) = inr (ap (λ (v : View). v.info.key) e ∙ key, base)
    which v (inr k) = inl k

-- an index is made
pub indexed_bases : (old new : FileTable) (db : Db) (p : FilePlace) (base_key : RelKey) (name keys : List ℕ) → IsDatabase db → places_of new ≡ insert_by by_place p (places_of old) → is_there db p.key ≡ false → key_of base_key.owner name ≡ p.key
    → is_relation db base_key ≡ true → p.base ≡ (files_of old).file base_key
    → list_all (λ i. is_file ((files_of new).file i.key)) (entries (laid db (change.Index base_key name keys))) ≡ true → FilesDiffer (laid db (change.Index base_key name keys)) (files_of new)
    → IndexBases old db → IndexBases new (laid db (change.Index base_key name keys))
unfolding laid
indexed_bases old new db p base_key name keys is put fresh key on base are_files differ b =
    made_bases old new db (laid db (change.Index base_key name keys)) p put fresh are_files differ
    (stays_there db (laid db (change.Index base_key name keys)) (λ r k. k) (λ v k. k) (λ x k. in_insert cmp made db.indexes x clash (inr k)))
    (ap (is_there (laid db (change.Index base_key name keys))) (sym key) ∙ index_there (laid db (change.Index base_key name keys)) made (in_insert cmp made db.indexes made clash (inl refl)))
    (λ r k. inl k) (λ v k. inl k) (λ x k. which x (insert_in cmp made db.indexes x k)) (λ x k. below x (insert_in cmp made db.indexes x k)) b
  where
    made : Index
    made = record { info = index_info base_key name keys; base = base_key }

    cmp : Index → Index → Ordering
    cmp a b = key_cmp a.info.key b.info.key

    clash : (x : Index) → IsIn x db.indexes → key_cmp (key_of base_key.owner name) x.info.key ≡ Equal → record { info = index_info base_key name keys; base = base_key } ≡ x
    clash x k e = absurd (true≢false (sym (index_there db x k) ∙ ap (is_there db) (sym (equal_keys (key_of base_key.owner name) x.info.key e) ∙ key) ∙ fresh))

    which : (x : Index) → IsIn x (record { info = index_info base_key name keys; base = base_key } ∷ db.indexes) → IsIn x db.indexes ⊎ ((x.info.key ≡ p.key) × (p.base ≡ (files_of old).file x.base))
    which x (inl e) = inr (ap (λ (x : Index). x.info.key) e ∙ key, base ∙ sym (ap (λ (x : Index). (files_of old).file x.base) e))
    which x (inr k) = inl k

    below : (x : Index) → IsIn x (record { info = index_info base_key name keys; base = base_key } ∷ db.indexes) → is_there db x.base ≡ true
    below x (inl e) = ap (λ (x : Index). is_there db x.base) e ∙ relation_is_there db base_key on
    below x (inr k) = relation_is_there db x.base (base_is db is x k)
