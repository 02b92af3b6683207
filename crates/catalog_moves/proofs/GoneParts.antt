-- The trees that go with a Destroy, place by place, are those of what is destroyed.
use Rattle.std.proofs.Common.{◌≡◌, refl, sym, ap, ap₂, ◌∙◌, inl, inr, ℕ, ◌≤◌, ◌&&◌, Bool, true, false, cond, List, [], ◌∷◌, ◌++◌, map, filter, Some, None, Option, arith, option_map}
use Rattle.std.specs.Prelude.{is_some, nat_le, Result, Ok, Err, OnOk}
use Rattle.std.specs.List.{flat_map}
use Rattle.std.specs.List.Sorted.{IsStrictlySortedBy}
use Rattle.std.specs.declared.cmp.Ordering.TheVariants.{Less}
use Rattle.std.proofs.lemmas.Bool.{leb-true}
use Rattle.std.proofs.lemmas.Cmp.{tied_itself}
use Rattle.std.proofs.lemmas.List.Folds.{flat_map-map}
use Rattle.std.proofs.lemmas.List.Kept.{IsStrictlySortedBy-filter}
use Rattle.calculus.specs.declared.query.RelKey.{RelKey}
use Rattle.calculus.specs.declared.query.Query.{Query}
use Rattle.calculus.specs.declared.schema.RelInfo.{RelInfo}
use Rattle.calculus.specs.declared.schema.Permit.{Permit}
use Rattle.calculus.specs.declared.schema.Rule.{Rule}
use Rattle.calculus.specs.Database.{Db, Relation, View, entries, view_at, is_relation}
use Rattle.calculus.specs.IsDatabase.{IsDatabase}
use Rattle.calculus.specs.Keys.{same_key, key_cmp, numbered_cmp, has_key}
use Rattle.base_trait.specs.Known.{query_at}
use Rattle.stored_database.specs.Moves.{destroyed}
use Rattle.quel_tree.specs.Permits.{rule, permit}
use Rattle.quel_tree.specs.Queries.{query}
use Rattle.tree_words.specs.Codec.{Codec}
use Rattle.stored_database.specs.Parts.{Part, of_view, of_rule, of_permit}
use Rattle.stored_database.specs.Printed.{is_file, parts_for, view_parts, numbered_parts}
use Rattle.stored_database.specs.Trees.{cut, parts_from, tree_bytes}
use Rattle.stored_database.proofs.Members.{IsIn, of_all, of_tests, in_first, in_second, in_map, in_filter, filter_in, found_in, in_found}
use Rattle.stored_database.proofs.Orders.{key_total, same_key_is, same_key_itself}
use Rattle.stored_database.proofs.PrintedTrees.{relation_under}
use Rattle.stored_database.proofs.Reading.{both, together}
use Rattle.catalog_moves.specs.declared.files.FilePlace.{FilePlace}
use Rattle.catalog_moves.specs.declared.files.FileTable.{FileTable}
use Rattle.catalog_moves.specs.declared.gone_trees.TreeSort.TheVariants as trees
use Rattle.catalog_moves.specs.Bases.{IndexBases}
use Rattle.catalog_moves.specs.Files.{place_at, places_of, files_of}
use Rattle.catalog_moves.specs.Gone.{gone_parts}
use Rattle.catalog_moves.proofs.ByPlaces.{all_matched, grouped, group, flat_flat, flat_same}
use Rattle.catalog_moves.proofs.OnBase.{found_self, up_by}
use Rattle.catalog_moves.proofs.Placing.{keys_up}
use Rattle.catalog_moves.proofs.Tables.{place_is, file_some, file_none}

-- what follows where it went well
pub on_ok : {A E : Type 0} {P Q : Type 0} (r : Result A E) → (P → Q) → OnOk r P → OnOk r Q
on_ok (Ok x) f h = f h
on_ok (Err e) f h = tt

-- where keys ascend, items of one key are one
pub one_of_key : {X : Type 0} (l : X → RelKey) (xs : List X) → IsStrictlySortedBy key_cmp (map l xs) → (x y : X) → IsIn x xs → IsIn y xs → l x ≡ l y → x ≡ y
unfolding IsStrictlySortedBy
one_of_key l [] up x y at bt same = absurd at
one_of_key {X} l (z ∷ zs) up x y at bt same = go at bt (λ k j. one_of_key l zs up.1 x y k j same)
  where
    above : (w : X) → IsIn w zs → key_cmp (l z) (l w) ≡ Less
    above w k = of_all (λ k. key_cmp (l z) k ≡ Less) (map l zs) (l w) up.0 (in_map l zs w k)

    go : IsIn x (z ∷ zs) → IsIn y (z ∷ zs) → (IsIn x zs → IsIn y zs → x ≡ y) → x ≡ y
    go (inl e) (inl f) later = e ∙ sym f
    go (inl e) (inr k) later = cc (sym (tied_itself key_total (l z)) ∙ ap (key_cmp (l z)) (sym (ap l e) ∙ same) ∙ above y k)
    go (inr k) (inl f) later = cc (sym (tied_itself key_total (l z)) ∙ ap (key_cmp (l z)) (sym (ap l f) ∙ sym same) ∙ above x k)
    go (inr k) (inr j) later = later k j

module _ (db : Db) (is : IsDatabase db) (table : FileTable) (b : IndexBases table db) where
  pub some_file : (i : RelInfo) → IsIn i (entries db) → 16 ≤ (files_of table).file i.key
  some_file i at = leb-true 16 ((files_of table).file i.key) (both (nat_le 16 ((files_of table).file i.key)) _ (of_tests (λ (i : RelInfo). is_file ((files_of table).file i.key)) (entries db) i b.are_files at)).0

  -- what is there has a place
  pub place_for : (i : RelInfo) → IsIn i (entries db) → (p : FilePlace) × IsIn p (places_of table) × (p.key ≡ i.key)
  place_for i at = go (place_at (places_of table) i.key) refl
    where
      go : (o : Option FilePlace) → place_at (places_of table) i.key ≡ o → (p : FilePlace) × IsIn p (places_of table) × (p.key ≡ i.key)
      go None e = absurd (let many = some_file i at in let zero_is = (file_none (places_of table) i.key e).0 in omega (arith, many, zero_is))
      go (Some p) e = let f = place_is (places_of table) i.key p e in (p, f.0, f.1)

  -- the file at a place is that of its key, and so is the number of pages
  pub its_file : (p : FilePlace) → IsIn p (places_of table) → p.file ≡ (files_of table).file p.key
  its_file p at = sym (file_some (places_of table) p.key p (found_self (places_of table) table.up p at)).0

  pub its_used : (p : FilePlace) → IsIn p (places_of table) → p.used ≡ (files_of table).used p.key
  its_used p at = sym (file_some (places_of table) p.key p (found_self (places_of table) table.up p at)).1

  pub relation_in : (r : Relation) → IsIn r db.relations → IsIn r.info (entries db)
  relation_in r at = in_first (map (λ (r : Relation). r.info) db.relations) _ r.info (in_map (λ (r : Relation). r.info) db.relations r at)

  pub view_in : (v : View) → IsIn v db.views → IsIn v.info (entries db)
  view_in v at = in_second (map (λ (r : Relation). r.info) db.relations) _ v.info (in_first (map (λ (v : View). v.info) db.views) _ v.info (in_map (λ (v : View). v.info) db.views v at))

  relation_place : (k : RelKey) → is_relation db k ≡ true → (p : FilePlace) × IsIn p (places_of table) × (p.key ≡ k)
  relation_place k there =
      let u = relation_under db k there in
      let p = place_for u.relation.info (relation_in u.relation u.there) in
      (p.0, p.1, p.2 ∙ u.its)

  query_of_view : (v : View) → IsIn v db.views → query_at db v.info.key ≡ Some v.query
  query_of_view v at =
      ap (option_map (λ (v : View). v.query))
      (in_found (λ (w : View). same_key w.info.key v.info.key) db.views v at (same_key_itself v.info.key)
      (λ w bt same. one_of_key (λ (v : View). v.info.key) db.views is.views_ascend w v bt at (same_key_is w.info.key v.info.key same)))

  module _ (rels : List RelKey) where
    -- ---- views

    views_gone : flat_map (gone_parts trees.View rels db) (places_of table) ≡ flat_map (view_parts (files_of table)) (filter (λ (v : View). has_key rels v.info.key) db.views)
    views_gone =
        all_matched (places_of table) table.up (λ (v : View). v.info.key) (filter (λ (v : View). has_key rels v.info.key) db.views) (λ (p : FilePlace). has_key rels p.key && is_some (query_at db p.key))
        (keys_up (λ (v : View). v.info.key) (filter (λ (v : View). has_key rels v.info.key) db.views) (IsStrictlySortedBy-filter (λ (a b : View). key_cmp a.info.key b.info.key) (λ (v : View). has_key rels v.info.key) db.views (up_by (λ (v : View). v.info.key) db.views is.views_ascend)))
        there back (gone_parts trees.View rels db) (view_parts (files_of table)) (λ p at. none (has_key rels p.key) p (query_at db p.key)) same
      where
        there : (p : FilePlace) → IsIn p (places_of table) → (has_key rels p.key && is_some (query_at db p.key)) ≡ true → (v : View) × IsIn v (filter (λ (v : View). has_key rels v.info.key) db.views) × (v.info.key ≡ p.key)
        there p at h = let t = both (has_key rels p.key) (is_some (query_at db p.key)) h in go (view_at db p.key) refl t.0 t.1
          where
            go : (o : Option View) → view_at db p.key ≡ o → has_key rels p.key ≡ true → is_some (option_map (λ (v : View). v.query) o) ≡ true → (v : View) × IsIn v (filter (λ (v : View). has_key rels v.info.key) db.views) × (v.info.key ≡ p.key)
            go None e k h = cc h
            go (Some v) e k h =
                let f = found_in (λ (v : View). same_key v.info.key p.key) db.views v e in
                let same = same_key_is v.info.key p.key f.1 in
                (v, in_filter (λ (v : View). has_key rels v.info.key) db.views v f.0 (ap (has_key rels) same ∙ k), same)

        back : (v : View) → IsIn v (filter (λ (v : View). has_key rels v.info.key) db.views) → (p : FilePlace) × IsIn p (places_of table) × (p.key ≡ v.info.key) × ((has_key rels p.key && is_some (query_at db p.key)) ≡ true)
        back v at =
            let f = filter_in (λ (v : View). has_key rels v.info.key) db.views v at in
            let p = place_for v.info (view_in v f.0) in
            (p.0, p.1, p.2, together (has_key rels p.0.key) (is_some (query_at db p.0.key)) (ap (has_key rels) p.2 ∙ f.1) (ap is_some (ap (query_at db) p.2 ∙ query_of_view v f.0)))

        none : (c : Bool) (p : FilePlace) (o : Option Query) → (c && is_some o) ≡ false → cond c (elim o as (λ (o : Option Query). List Part) [ None ↦ [] | Some q ↦ parts_from p.file of_view 0 0 (cut (tree_bytes query q)) ]) [] ≡ []
        none true p None h = refl
        none true p (Some q) h = cc h
        none false p o h = refl

        same : (p : FilePlace) (v : View) → IsIn p (places_of table) → IsIn v (filter (λ (v : View). has_key rels v.info.key) db.views) → p.key ≡ v.info.key → gone_parts trees.View rels db p ≡ view_parts (files_of table) v
        same p v at bt e =
            let f = filter_in (λ (v : View). has_key rels v.info.key) db.views v bt in
            let listed : has_key rels p.key ≡ true = ap (has_key rels) e ∙ f.1 in
            let asked : query_at db p.key ≡ Some v.query = ap (query_at db) e ∙ query_of_view v f.0 in
            let file : p.file ≡ (files_of table).file v.info.key = its_file p at ∙ ap (files_of table).file e in
            λ i. cond (listed i) (elim (asked i) as (λ (o : Option Query). List Part) [ None ↦ [] | Some q ↦ parts_from (file i) of_view 0 0 (cut (tree_bytes query q)) ]) []

    -- ---- rules and permits

    numbered_gone : {X : Type 0} (codec : ℕ → Codec X) (number : X → ℕ) (kind : ℕ) (xs : List (RelKey × X)) → IsStrictlySortedBy (numbered_cmp number) xs → ((y : RelKey × X) → IsIn y xs → is_relation db y.0 ≡ true)
        → flat_map (λ (p : FilePlace). cond (has_key rels p.key) (flat_map (λ (x : X). parts_from p.file kind (number x) 0 (cut (tree_bytes codec x))) (map (λ (y : RelKey × X). y.1) (filter (λ (y : RelKey × X). same_key y.0 p.key) xs))) []) (places_of table)
        ≡ flat_map (numbered_parts codec number kind (files_of table)) (filter (λ (y : RelKey × X). has_key rels y.0) xs)
    numbered_gone {X} codec number kind xs over there =
        flat_same _ (λ (p : FilePlace). flat_map (numbered_parts codec number kind (files_of table)) (group number xs over rels p)) (places_of table) (λ p at. each p at (has_key rels p.key))
        ∙ sym (flat_flat (numbered_parts codec number kind (files_of table)) (group number xs over rels) (places_of table))
        ∙ ap (flat_map (numbered_parts codec number kind (files_of table))) (grouped number xs over rels (places_of table) table.up (λ y at. relation_place y.0 (there y at)))
      where
        each : (p : FilePlace) → IsIn p (places_of table) → (c : Bool)
            → cond c (flat_map (λ (x : X). parts_from p.file kind (number x) 0 (cut (tree_bytes codec x))) (map (λ (y : RelKey × X). y.1) (filter (λ (y : RelKey × X). same_key y.0 p.key) xs))) []
            ≡ flat_map (numbered_parts codec number kind (files_of table)) (cond c (filter (λ (y : RelKey × X). same_key y.0 p.key) xs) [])
        each p at true =
            flat_map-map (λ (x : X). parts_from p.file kind (number x) 0 (cut (tree_bytes codec x))) (λ (y : RelKey × X). y.1) (filter (λ (y : RelKey × X). same_key y.0 p.key) xs)
            ∙ flat_same _ (numbered_parts codec number kind (files_of table)) (filter (λ (y : RelKey × X). same_key y.0 p.key) xs)
            (λ y bt. (let f = filter_in (λ (y : RelKey × X). same_key y.0 p.key) xs y bt in
            ap (λ n. parts_from n kind (number y.1) 0 (cut (tree_bytes codec y.1))) (its_file p at ∙ ap (files_of table).file (sym (same_key_is y.0 p.key f.1)))))
        each p at false = refl

    -- the trees of what goes are those of what is destroyed
    pub parts_gone : flat_map (gone_parts trees.View rels db) (places_of table) ++ (flat_map (gone_parts trees.Rule rels db) (places_of table) ++ flat_map (gone_parts trees.Permit rels db) (places_of table))
        ≡ parts_for (files_of table) (destroyed rels db)
    unfolding parts_for
    parts_gone =
        ap₂ (λ (k l : List Part). k ++ l) views_gone
        (ap₂ (λ (k l : List Part). k ++ l)
        (numbered_gone rule (λ (r : Rule). r.number) of_rule db.rules is.rules_ascend (λ y at. (both (is_relation db y.0) _ (of_tests _ db.rules y is.rules_stand at)).0))
        (numbered_gone permit (λ (p : Permit). p.number) of_permit db.permits is.permits_ascend (λ y at. (both (is_relation db y.0) _ (of_tests _ db.permits y is.permits_stand at)).0)))
