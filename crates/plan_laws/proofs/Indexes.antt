-- A database with other indexes.
use Rattle.std.proofs.Common.{◌≡◌, refl, sym, ap, ◌∙◌, subst, ℕ, suc, ◌≤◌, nat_le, Bool, true, false, ◌&&◌, ◌||◌, not, cond, IsTrue, List, [], ◌∷◌, ◌++◌, map, filter, length, arith, append_assoc}
use Rattle.std.specs.List.{list_all, list_any, AllByRecursion}
use Rattle.std.specs.List.Sorted.{IsStrictlySortedBy}
use Rattle.std.specs.declared.cmp.Ordering.TheVariants.{Less}
use Rattle.std.proofs.lemmas.Bool.Decides.{nat_tests}
use Rattle.std.proofs.lemmas.Map.Keys.{sorted_head, sorted_tail}
use Rattle.calculus.specs.declared.query.RelKey.{RelKey}
use Rattle.calculus.specs.declared.schema.RelInfo.{RelInfo}
use Rattle.calculus.specs.Keys.{same_key, key_cmp}
use Rattle.calculus.specs.Lists.{differ_by}
use Rattle.calculus.specs.Limits.{most_entries}
use Rattle.calculus.specs.Database.{Db, Index, entries}
use Rattle.calculus.specs.IsDatabase.{IsDatabase, key_is_named, valid_index}
use Rattle.plan_laws.proofs.Kept.{both, each, all_filter}
use Rattle.plan_laws.proofs.Alike.{Alike, levels_stay, vars_stay, queries_stay, expansions_stay, sizes_stay, rules_stay, permits_stay, indexes_stay}
use Rattle.plan_laws.proofs.Ranging.{indexed_alike}

-- ---- a database with these indexes

-- the indexes ascend and stand, and with them the entries are named, differ and are few enough
pub record IndexesStand (db : Db) (indexes : List Index) : Type 0 where
  pub named : IsTrue (list_all (λ i. key_is_named i.key) (entries (record db { indexes = indexes })))
  pub ascend : IsStrictlySortedBy key_cmp (map (λ x. x.info.key) indexes)
  pub differ : IsTrue (differ_by same_key (map (λ i. i.key) (entries (record db { indexes = indexes }))))
  pub stand : IsTrue (list_all (valid_index db) indexes)
  pub few : IsTrue (nat_le (length (entries (record db { indexes = indexes }))) most_entries)

pub with_indexes : (db : Db) (indexes : List Index) → IsDatabase db → IndexesStand db indexes → IsDatabase (record db { indexes = indexes })
with_indexes db indexes is new =
    let later : Db = record db { indexes = indexes } in
    let alike : Alike db later = indexed_alike db indexes in
    record {
      dba_is_named = is.dba_is_named;
      keys_are_named = new.named;
      relations_ascend = is.relations_ascend;
      indexes_ascend = new.ascend;
      views_ascend = is.views_ascend;
      rules_ascend = is.rules_ascend;
      permits_ascend = is.permits_ascend;
      keys_differ = new.differ;
      structures_stand = is.structures_stand;
      relation_attrs_stand = is.relation_attrs_stand;
      relations_are_stored = is.relations_are_stored;
      rows_ascend = is.rows_ascend;
      rows_fit = is.rows_fit;
      indexes_stand = sym (indexes_stay db later alike indexes) ∙ new.stand;
      view_infos_stand = is.view_infos_stand;
      view_attrs_stand = is.view_attrs_stand;
      view_attrs_are_targets = is.view_attrs_are_targets;
      views_name_what_is_there = sym (vars_stay db later alike db.views) ∙ is.views_name_what_is_there;
      views_have_levels = sym (levels_stay db later alike db.views) ∙ is.views_have_levels;
      view_queries_stand = sym (queries_stay db later alike db.views) ∙ is.view_queries_stand;
      rules_stand = sym (rules_stay db later alike db.rules) ∙ is.rules_stand;
      permits_stand = sym (permits_stay db later alike refl db.permits) ∙ is.permits_stand;
      few_entries = new.few;
      few_rows = is.few_rows;
      few_listed_variables = is.few_listed_variables;
      few_variables = is.few_variables;
      few_expanded_variables = sym (expansions_stay db later alike db.views) ∙ is.few_expanded_variables;
      small_views = sym (sizes_stay db later alike db.views) ∙ is.small_views;
      storable_views = is.storable_views;
      storable_rules = is.storable_rules;
      storable_permits = is.storable_permits;
      storable_lists = is.storable_lists;
      few_rules = is.few_rules;
      few_permits = is.few_permits;
      small_rule_numbers = is.small_rule_numbers;
      small_permit_numbers = is.small_permit_numbers;
    }

-- ---- fewer of them

-- the infos of indexes that are kept
abbrev pub infos : List Index → List RelInfo
infos indexes = map (λ x. x.info) indexes

-- a test that passes for each entry passes for each that is left
all_fewer : (test : RelInfo → Bool) (front : List RelInfo) (kept : Index → Bool) (indexes : List Index) → IsTrue (list_all test (front ++ infos indexes))
    → IsTrue (list_all test (front ++ infos (filter kept indexes)))
all_fewer test (i ∷ front) kept indexes t =
    let parts = both (test i) (list_all test (front ++ infos indexes)) t in
    each (test i) (list_all test (front ++ infos (filter kept indexes))) parts.0 (all_fewer test front kept indexes parts.1)
all_fewer test [] kept [] t = refl
all_fewer test [] kept (x ∷ indexes) t =
    let parts = both (test x.info) (list_all test (infos indexes)) t in
    go (kept x) parts.0 (all_fewer test [] kept indexes parts.1)
  where
    go : (b : Bool) → IsTrue (test x.info) → IsTrue (list_all test (infos (filter kept indexes))) → IsTrue (list_all test (infos (cond b (x ∷ filter kept indexes) (filter kept indexes))))
    go true own later = each (test x.info) (list_all test (infos (filter kept indexes))) own later
    go false own later = later

fewer_entries : (front : List RelInfo) (kept : Index → Bool) (indexes : List Index) → length (front ++ infos (filter kept indexes)) ≤ length (front ++ infos indexes)
fewer_entries (i ∷ front) kept indexes = omega (arith, fewer_entries front kept indexes)
fewer_entries [] kept [] = omega arith
fewer_entries [] kept (x ∷ indexes) = go (kept x) (fewer_entries [] kept indexes)
  where
    go : (b : Bool) → length (infos (filter kept indexes)) ≤ length (infos indexes) → length (infos (cond b (x ∷ filter kept indexes) (filter kept indexes))) ≤ suc (length (infos indexes))
    go true later = omega (arith, later)
    go false later = omega (arith, later)

-- none passes where each fails, and the other way round
all_fail : {X : Type 0} (test : X → Bool) (xs : List X) → list_any test xs ≡ false → IsTrue (list_all (λ x. not (test x)) xs)
all_fail test [] h = refl
all_fail test (x ∷ xs) h = go (test x) h (all_fail test xs)
  where
    go : (b : Bool) → (b || list_any test xs) ≡ false → (list_any test xs ≡ false → IsTrue (list_all (λ x. not (test x)) xs)) → IsTrue (not b && list_all (λ x. not (test x)) xs)
    go true h later = cc h
    go false h later = later h

none_passes : {X : Type 0} (test : X → Bool) (xs : List X) → IsTrue (list_all (λ x. not (test x)) xs) → list_any test xs ≡ false
none_passes test [] t = refl
none_passes test (x ∷ xs) t = go (test x) t (none_passes test xs)
  where
    go : (b : Bool) → IsTrue (not b && list_all (λ x. not (test x)) xs) → (IsTrue (list_all (λ x. not (test x)) xs) → list_any test xs ≡ false) → (b || list_any test xs) ≡ false
    go true t later = cc t
    go false t later = later t

-- the keys of entries
abbrev pub keys : List RelInfo → List RelKey
keys es = map (λ i. i.key) es

pub all-map : {X Y : Type 0} (test : Y → Bool) (f : X → Y) (xs : List X) → list_all test (map f xs) ≡ list_all (λ x. test (f x)) xs
all-map test f [] = refl
all-map test f (x ∷ xs) = ap (λ b. test (f x) && b) (all-map test f xs)

-- a key that is none of the entries' is none of those that are left
none_fewer : (key : RelKey) (front : List RelInfo) (kept : Index → Bool) (indexes : List Index) → list_any (same_key key) (keys (front ++ infos indexes)) ≡ false
    → list_any (same_key key) (keys (front ++ infos (filter kept indexes))) ≡ false
none_fewer key front kept indexes h =
    none_passes (same_key key) (keys (front ++ infos (filter kept indexes)))
    (all-map (λ k. not (same_key key k)) (λ i. i.key) (front ++ infos (filter kept indexes))
    ∙ all_fewer (λ i. not (same_key key i.key)) front kept indexes
    (sym (all-map (λ k. not (same_key key k)) (λ i. i.key) (front ++ infos indexes)) ∙ all_fail (same_key key) (keys (front ++ infos indexes)) h))

pub is_no : (b : Bool) → IsTrue (not b) → b ≡ false
is_no true t = cc t
is_no false t = refl

differ_fewer : (front : List RelInfo) (kept : Index → Bool) (indexes : List Index) → IsTrue (differ_by same_key (keys (front ++ infos indexes)))
    → IsTrue (differ_by same_key (keys (front ++ infos (filter kept indexes))))
differ_fewer (i ∷ front) kept indexes t =
    let parts = both (not (list_any (same_key i.key) (keys (front ++ infos indexes)))) (differ_by same_key (keys (front ++ infos indexes))) t in
    each (not (list_any (same_key i.key) (keys (front ++ infos (filter kept indexes))))) (differ_by same_key (keys (front ++ infos (filter kept indexes))))
    (ap not (none_fewer i.key front kept indexes (is_no (list_any (same_key i.key) (keys (front ++ infos indexes))) parts.0))) (differ_fewer front kept indexes parts.1)
differ_fewer [] kept [] t = refl
differ_fewer [] kept (x ∷ indexes) t =
    let parts = both (not (list_any (same_key x.info.key) (keys (infos indexes)))) (differ_by same_key (keys (infos indexes))) t in
    go (kept x) (ap not (none_fewer x.info.key [] kept indexes (is_no (list_any (same_key x.info.key) (keys (infos indexes))) parts.0))) (differ_fewer [] kept indexes parts.1)
  where
    go : (b : Bool) → IsTrue (not (list_any (same_key x.info.key) (keys (infos (filter kept indexes))))) → IsTrue (differ_by same_key (keys (infos (filter kept indexes))))
        → IsTrue (differ_by same_key (keys (infos (cond b (x ∷ filter kept indexes) (filter kept indexes)))))
    go true own later = each (not (list_any (same_key x.info.key) (keys (infos (filter kept indexes))))) (differ_by same_key (keys (infos (filter kept indexes)))) own later
    go false own later = later

before_fewer : (key : RelKey) (kept : Index → Bool) (indexes : List Index) → AllByRecursion (λ k. key_cmp key k ≡ Less) (map (λ x. x.info.key) indexes)
    → AllByRecursion (λ k. key_cmp key k ≡ Less) (map (λ x. x.info.key) (filter kept indexes))
before_fewer key kept [] h = tt
before_fewer key kept (x ∷ indexes) h = go (kept x) (before_fewer key kept indexes h.1)
  where
    go : (b : Bool) → AllByRecursion (λ k. key_cmp key k ≡ Less) (map (λ x. x.info.key) (filter kept indexes))
        → AllByRecursion (λ k. key_cmp key k ≡ Less) (map (λ x. x.info.key) (cond b (x ∷ filter kept indexes) (filter kept indexes)))
    go true later = (h.0, later)
    go false later = later

sorted-cons : (key : RelKey) (ks : List RelKey) → AllByRecursion (λ k. key_cmp key k ≡ Less) ks → IsStrictlySortedBy key_cmp ks → IsStrictlySortedBy key_cmp (key ∷ ks)
unfolding IsStrictlySortedBy
sorted-cons key ks h s = (h, s)

ascend_fewer : (kept : Index → Bool) (indexes : List Index) → IsStrictlySortedBy key_cmp (map (λ x. x.info.key) indexes) → IsStrictlySortedBy key_cmp (map (λ x. x.info.key) (filter kept indexes))
ascend_fewer kept [] h = h
ascend_fewer kept (x ∷ indexes) h =
    go (kept x) (before_fewer x.info.key kept indexes (sorted_head key_cmp x.info.key (map (λ x. x.info.key) indexes) h)) (ascend_fewer kept indexes (sorted_tail key_cmp x.info.key (map (λ x. x.info.key) indexes) h))
  where
    go : (b : Bool) → AllByRecursion (λ k. key_cmp x.info.key k ≡ Less) (map (λ x. x.info.key) (filter kept indexes)) → IsStrictlySortedBy key_cmp (map (λ x. x.info.key) (filter kept indexes))
        → IsStrictlySortedBy key_cmp (map (λ x. x.info.key) (cond b (x ∷ filter kept indexes) (filter kept indexes)))
    go true before later = sorted-cons x.info.key (map (λ x. x.info.key) (filter kept indexes)) before later
    go false before later = later

-- a database without some of its indexes is one
pub without_indexes : (db : Db) (kept : Index → Bool) → IsDatabase db → IsDatabase (record db { indexes = filter kept db.indexes })
without_indexes db kept is = with_indexes db (filter kept db.indexes) is (record {
  named = subst (λ es. IsTrue (list_all (λ i. key_is_named i.key) es)) (together later) (all_fewer (λ i. key_is_named i.key) front kept db.indexes
      (subst (λ es. IsTrue (list_all (λ i. key_is_named i.key) es)) (sym (together db.indexes)) is.keys_are_named));
  ascend = ascend_fewer kept db.indexes is.indexes_ascend;
  differ = subst (λ es. IsTrue (differ_by same_key (keys es))) (together later) (differ_fewer front kept db.indexes (subst (λ es. IsTrue (differ_by same_key (keys es))) (sym (together db.indexes)) is.keys_differ));
  stand = all_filter (valid_index db) kept db.indexes is.indexes_stand;
  few = subst (λ es. IsTrue (nat_le (length es) most_entries)) (together later)
      (still_few (length (front ++ infos later)) (length (front ++ infos db.indexes)) (fewer_entries front kept db.indexes)
      (subst (λ es. IsTrue (nat_le (length es) most_entries)) (sym (together db.indexes)) is.few_entries));
})
  where
    later : List Index
    later = filter kept db.indexes

    front : List RelInfo
    front = map (λ r. r.info) db.relations ++ map (λ v. v.info) db.views

    together : (indexes : List Index) → front ++ infos indexes ≡ map (λ r. r.info) db.relations ++ (map (λ v. v.info) db.views ++ infos indexes)
    together indexes = append_assoc (map (λ r. r.info) db.relations) (map (λ v. v.info) db.views) (infos indexes)

    still_few : (m n : ℕ) → m ≤ n → IsTrue (nat_le n most_entries) → IsTrue (nat_le m most_entries)
    still_few m n le t = grind (arith, nat_tests, le, t)
