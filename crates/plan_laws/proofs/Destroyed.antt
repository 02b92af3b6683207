-- Relations, views and indexes that go.
use Rattle.std.proofs.Common.{◌≡◌, refl, sym, ap, ◌∙◌, subst, ℕ, ◌≤◌, nat_le, Bool, true, false, ◌&&◌, ◌||◌, not, cond, IsTrue, List, [], ◌∷◌, Option, Some, None, map, filter, length, arith}
use Rattle.std.specs.Prelude.{find, flat_map, is_some, Ok}
use Rattle.std.specs.List.{list_all, list_any, AllByRecursion}
use Rattle.std.proofs.lemmas.Bool.Decides.{nat_tests}
use Rattle.std.proofs.lemmas.List.{length-map}
use Rattle.std.proofs.lemmas.List.Kept.{IsStrictlySortedBy-filter}
use Rattle.calculus.specs.declared.query.RelKey.{RelKey}
use Rattle.calculus.specs.declared.request.Utility.TheVariants as utility
use Rattle.calculus.specs.declared.change.DbChange.{DbChange}
use Rattle.calculus.specs.declared.change.DbChange.TheVariants as change
use Rattle.calculus.specs.Keys.{same_key, has_key, key_cmp, numbered_cmp}
use Rattle.calculus.specs.Lists.{differ_by}
use Rattle.calculus.specs.Limits.{most_entries, most_rows, most_rules, most_permits}
use Rattle.calculus.specs.Rows.{Row, Ascends, set_of}
use Rattle.calculus.specs.Catalogue.{is_catalogue, relation_key, attribute_key, catalogue_at, relation_info, attribute_info, relation_row, attribute_rows, all_entries}
use Rattle.calculus.specs.Database.{Db, Relation, View, Index, relation_at, view_at, entries, is_there, rules_on, permits_on}
use Rattle.calculus.specs.Stored.{range_at}
use Rattle.calculus.specs.QueryParts.{vars_of, targets_of}
use Rattle.calculus.specs.IsDatabase.{IsDatabase, key_is_named, valid_structure, attrs_stand, are_stored, relation_rows_fit, valid_index, valid_view_info, attrs_are_targets, vars_are_there, valid_query}
use Rattle.calculus.specs.Change.{laid, without_keys, names_what_is_there, adds_what_is_new, lists_once, IsLawful}
use Rattle.quel_meaning.specs.Planned.{planned, plan_refusals, plan_change, is_in_use}
use Rattle.plan_laws.proofs.Kept.{both, each, all_filter, filter_fewer}
use Rattle.plan_laws.proofs.Orders.{same_key_is}
use Rattle.plan_laws.proofs.Planned.{neither, all_absent, not_refused}
use Rattle.plan_laws.proofs.Alike.{AlikeRange}
use Rattle.plan_laws.proofs.Ranging.{AlikeRelation, same_relation, ranged, ranged_alike}
use Rattle.plan_laws.proofs.NewNumbers.{of_key, all_imply}
use Rattle.plan_laws.proofs.Indexes.{is_no}
use Rattle.plan_laws.proofs.PlainQueries.{query_plain}
use Rattle.plan_laws.proofs.Staying.{Staying}
use Rattle.plan_laws.proofs.StayingFacts.{ViewStays, levels_hold, vars_hold, queries_hold, sizes_hold, expansions_hold, rules_hold, permits_hold, indexes_hold}
use Rattle.plan_laws.proofs.Created.{each_true, each_from, both_each, found_has, viewed_is_found}
use Rattle.plan_laws.proofs.Sublists.{IsPart, part_filter, part_map, part_append, part_all, part_each, part_shorter, part_differs, part_sorted}

-- ---- lists

each_kept : {X : Type 0} (Q : X → Type 0) (kept : X → Bool) (xs : List X) → AllByRecursion Q xs → AllByRecursion (λ x. IsTrue (kept x) × Q x) (filter kept xs)
each_kept Q kept [] h = tt
each_kept {X} Q kept (x ∷ xs) h = go (kept x) refl (each_kept Q kept xs h.1)
  where
    go : (b : Bool) → kept x ≡ b → AllByRecursion (λ x. IsTrue (kept x) × Q x) (filter kept xs) → AllByRecursion (λ x. IsTrue (kept x) × Q x) (cond b (x ∷ filter kept xs) (filter kept xs))
    go true e later = ((e, h.0), later)
    go false e later = later

each_false : {X : Type 0} (test : X → Bool) (xs : List X) → list_any test xs ≡ false → AllByRecursion (λ x. test x ≡ false) xs
each_false test [] h = tt
each_false test (x ∷ xs) h = let parts = neither (test x) (list_any test xs) h in (parts.0, each_false test xs parts.1)

for_all : {X : Type 0} (xs : List X) → AllByRecursion (λ x. Unit {0}) xs
for_all [] = tt
for_all (x ∷ xs) = (tt, for_all xs)

found_true : {X : Type 0} (test : X → Bool) (xs : List X) (x : X) → find test xs ≡ Some x → test x ≡ true
found_true test [] x e = cc e
found_true {X} test (y ∷ ys) x e = go (test y) refl e (λ e. found_true test ys x e)
  where
    the : {x y : X} → Some x ≡ Some y → x ≡ y
    the e = cc e

    go : (b : Bool) → test y ≡ b → cond b (Some y) (find test ys) ≡ Some x → (find test ys ≡ Some x → test x ≡ true) → test x ≡ true
    go true f e later = ap test (sym (the e)) ∙ f
    go false f e later = later e

-- what is found is found among those that are kept, where all that pass the test are kept
found_kept : {X : Type 0} (test kept : X → Bool) (xs : List X) → ((x : X) → test x ≡ true → kept x ≡ true) → find test (filter kept xs) ≡ find test xs
found_kept test kept [] h = refl
found_kept {X} test kept (x ∷ xs) h = go (kept x) refl (test x) refl (found_kept test kept xs h)
  where
    go : (b : Bool) → kept x ≡ b → (c : Bool) → test x ≡ c → find test (filter kept xs) ≡ find test xs
        → find test (cond b (x ∷ filter kept xs) (filter kept xs)) ≡ cond (test x) (Some x) (find test xs)
    go true e c f later = ap (cond (test x) (Some x)) later
    go false e true f later = let k = h x f in cc (sym k ∙ e)
    go false e false f later = later ∙ sym (ap (λ b. cond b (Some x) (find test xs)) f)

-- ---- what is left

-- the database without these
abbrev pub left : Db → List RelKey → Db
left db rels = record db {
  relations = filter (λ r. not (has_key rels r.info.key)) db.relations;
  indexes = filter (λ x. not (has_key rels x.info.key || has_key rels x.base)) db.indexes;
  views = filter (λ v. not (has_key rels v.info.key)) db.views;
  rules = without_keys rels db.rules;
  permits = without_keys rels db.permits;
}

-- a key that stays
abbrev Stays : List RelKey → RelKey → Type 0
Stays rels key = has_key rels key ≡ false

-- what has such a key is kept
is_kept : (rels : List RelKey) (key own : RelKey) → Stays rels key → same_key own key ≡ true → not (has_key rels own) ≡ true
is_kept rels key own stays same = ap (λ k. not (has_key rels k)) (same_key_is own key same) ∙ ap not stays

catalogue_left : (db : Db) (rels : List RelKey) (key : RelKey) → AlikeRelation (catalogue_at db key) (catalogue_at (left db rels) key)
unfolding catalogue_at
catalogue_left db rels key =
    go (same_key key (relation_key db)) (same_key key (attribute_key db))
    (set_of (map relation_row (all_entries db))) (set_of (flat_map attribute_rows (all_entries db)))
    (set_of (map relation_row (all_entries (left db rels)))) (set_of (flat_map attribute_rows (all_entries (left db rels))))
  where
    catalogue : Bool → Bool → List Row → List Row → Option Relation
    catalogue a b rows others = elim a [
      | true ↦ Some (record { info = relation_info db; rows = rows })
      | false ↦ elim b [ true ↦ Some (record { info = attribute_info db; rows = others }) | false ↦ None ]
    ]

    go : (a b : Bool) (r s t u : List Row) → AlikeRelation (catalogue a b r s) (catalogue a b t u)
    go true b r s t u = refl
    go false true r s t u = refl
    go false false r s t u = tt

relation_left : (db : Db) (rels : List RelKey) (key : RelKey) → Stays rels key → relation_at (left db rels) key ≡ relation_at db key
relation_left db rels key stays = found_kept (λ r. same_key r.info.key key) (λ r. not (has_key rels r.info.key)) db.relations (λ r same. is_kept rels key r.info.key stays same)

view_left : (db : Db) (rels : List RelKey) (key : RelKey) → Stays rels key → view_at (left db rels) key ≡ view_at db key
view_left db rels key stays = found_kept (λ v. same_key v.info.key key) (λ v. not (has_key rels v.info.key)) db.views (λ v same. is_kept rels key v.info.key stays same)

ranges_left : (db : Db) (rels : List RelKey) (key : RelKey) → Stays rels key → AlikeRange (range_at db key) (range_at (left db rels) key)
unfolding range_at
ranges_left db rels key stays =
    subst (λ v. AlikeRange (range_at db key) (ranged (relation_at (left db rels) key) v (catalogue_at (left db rels) key))) (sym (view_left db rels key stays))
    (ranged_alike (relation_at db key) (relation_at (left db rels) key) (subst (AlikeRelation (relation_at db key)) (sym (relation_left db rels key stays)) (same_relation (relation_at db key)))
    (view_at db key) (catalogue_at db key) (catalogue_at (left db rels) key) (catalogue_left db rels key))

-- what a view that stays names stays, where nothing that goes is in use
vars_left : (db : Db) (rels : List RelKey) (v : View) → (not (has_key rels v.info.key) && list_any (has_key rels) (vars_of v.query)) ≡ false → Stays rels v.info.key
    → AllByRecursion (Stays rels) (vars_of v.query)
vars_left db rels v unused stays =
    each_false (has_key rels) (vars_of v.query) (sym (ap (λ b. not b && list_any (has_key rels) (vars_of v.query)) stays) ∙ unused)

stay_left : (db : Db) (rels : List RelKey) → is_in_use db rels ≡ false → Staying (Stays rels) db (left db rels)
stay_left db rels unused = record {
  ranges = λ key stays. ranges_left db rels key stays;
  relations = λ key stays. ap is_some (sym (relation_left db rels key stays));
  closed = λ key view stays range.
      let found = viewed_is_found db key view range in
      let own = same_key_is view.info.key key (found_true (λ v. same_key v.info.key key) db.views view found) in
      vars_left db rels view (found_has Unused (λ v. same_key v.info.key key) db.views view (each_false _ db.views unused) found) (ap (has_key rels) own ∙ stays);
}
  where
    Unused : View → Type 0
    Unused v = (not (has_key rels v.info.key) && list_any (has_key rels) (vars_of v.query)) ≡ false

-- ---- the change

pub destroyed_lawful : (db : Db) (rels : List RelKey) → IsDatabase db → IsTrue (list_all (is_there db) rels) → IsTrue (differ_by same_key rels) → is_in_use db rels ≡ false
    → IsLawful db (change.Destroy rels)
unfolding laid names_what_is_there adds_what_is_new lists_once
destroyed_lawful db rels is there differ unused = record {
  names_are_there = there;
  additions_are_new = refl;
  nothing_is_listed_twice = differ;
  leaves_a_database = record {
    dba_is_named = is.dba_is_named;
    keys_are_named = part_all (λ i. key_is_named i.key) (entries later) (entries db) entries_left is.keys_are_named;
    relations_ascend = part_sorted key_cmp _ _ (part_map (λ r. r.info.key) later.relations db.relations (part_filter keep_relation db.relations)) is.relations_ascend;
    indexes_ascend = part_sorted key_cmp _ _ (part_map (λ x. x.info.key) later.indexes db.indexes (part_filter keep_index db.indexes)) is.indexes_ascend;
    views_ascend = part_sorted key_cmp _ _ (part_map (λ v. v.info.key) later.views db.views (part_filter keep_view db.views)) is.views_ascend;
    rules_ascend = IsStrictlySortedBy-filter (numbered_cmp (λ r. r.number)) (λ p. not (has_key rels p.0)) db.rules is.rules_ascend;
    permits_ascend = IsStrictlySortedBy-filter (numbered_cmp (λ p. p.number)) (λ p. not (has_key rels p.0)) db.permits is.permits_ascend;
    keys_differ = part_differs same_key _ _ (part_map (λ i. i.key) (entries later) (entries db) entries_left) is.keys_differ;
    structures_stand = all_filter (λ r. valid_structure r.info) keep_relation db.relations is.structures_stand;
    relation_attrs_stand = all_filter (λ r. attrs_stand r.info.attrs) keep_relation db.relations is.relation_attrs_stand;
    relations_are_stored = all_filter (λ r. are_stored r.info.attrs) keep_relation db.relations is.relations_are_stored;
    rows_ascend = part_each (λ r. Ascends r.rows) later.relations db.relations (part_filter keep_relation db.relations) is.rows_ascend;
    rows_fit = all_filter relation_rows_fit keep_relation db.relations is.rows_fit;
    indexes_stand = sym (indexes_hold (Stays rels) db later stay later.indexes based) ∙ all_filter (valid_index db) keep_index db.indexes is.indexes_stand;
    view_infos_stand = all_filter (λ v. valid_view_info v.info) keep_view db.views is.view_infos_stand;
    view_attrs_stand = all_filter (λ v. attrs_stand v.info.attrs) keep_view db.views is.view_attrs_stand;
    view_attrs_are_targets = all_filter (λ v. attrs_are_targets v.info.attrs (targets_of v.query)) keep_view db.views is.view_attrs_are_targets;
    views_name_what_is_there = sym (vars_hold (Stays rels) db later stay later.views views) ∙ all_filter (λ v. vars_are_there db v.query) keep_view db.views is.views_name_what_is_there;
    views_have_levels = sym (levels_hold (Stays rels) db later stay later.views views) ∙ all_filter _ keep_view db.views is.views_have_levels;
    view_queries_stand = sym (queries_hold (Stays rels) db later stay later.views views) ∙ all_filter (λ v. valid_query db v.query) keep_view db.views is.view_queries_stand;
    rules_stand = sym (rules_hold (Stays rels) db later stay later.rules ruled) ∙ all_filter _ (λ p. not (has_key rels p.0)) db.rules is.rules_stand;
    permits_stand = sym (permits_hold (Stays rels) db later stay refl later.permits permitted) ∙ all_filter _ (λ p. not (has_key rels p.0)) db.permits is.permits_stand;
    few_entries = fewer (length (entries later)) (length (entries db)) most_entries (part_shorter (entries later) (entries db) entries_left) is.few_entries;
    few_rows = all_filter (λ r. nat_le (length r.rows) most_rows) keep_relation db.relations is.few_rows;
    few_listed_variables = all_filter _ keep_view db.views is.few_listed_variables;
    few_variables = all_filter _ keep_view db.views is.few_variables;
    few_expanded_variables = sym (expansions_hold (Stays rels) db later stay later.views views) ∙ all_filter _ keep_view db.views is.few_expanded_variables;
    small_views = sym (sizes_hold (Stays rels) db later stay later.views views) ∙ all_filter _ keep_view db.views is.small_views;
    storable_views = all_filter _ keep_view db.views is.storable_views;
    storable_rules = all_filter _ (λ p. not (has_key rels p.0)) db.rules is.storable_rules;
    storable_permits = all_filter _ (λ p. not (has_key rels p.0)) db.permits is.storable_permits;
    storable_lists = all_filter _ (λ p. not (has_key rels p.0)) db.permits is.storable_lists;
    few_rules = all_imply (λ (r : Relation). nat_le (length (rules_on db r.info.key)) most_rules) (λ r. nat_le (length (rules_on later r.info.key)) most_rules)
        (λ r t. fewer (length (rules_on later r.info.key)) (length (rules_on db r.info.key)) most_rules (fewer_rules r.info.key) t) later.relations (all_filter _ keep_relation db.relations is.few_rules);
    few_permits = all_imply (λ (r : Relation). nat_le (length (permits_on db r.info.key)) most_permits) (λ r. nat_le (length (permits_on later r.info.key)) most_permits)
        (λ r t. fewer (length (permits_on later r.info.key)) (length (permits_on db r.info.key)) most_permits (fewer_permits r.info.key) t) later.relations (all_filter _ keep_relation db.relations is.few_permits);
    small_rule_numbers = all_filter _ (λ p. not (has_key rels p.0)) db.rules is.small_rule_numbers;
    small_permit_numbers = all_filter _ (λ p. not (has_key rels p.0)) db.permits is.small_permit_numbers;
  };
}
  where
    later : Db
    later = left db rels

    keep_relation : Relation → Bool
    keep_relation r = not (has_key rels r.info.key)

    keep_view : View → Bool
    keep_view v = not (has_key rels v.info.key)

    keep_index : Index → Bool
    keep_index x = not (has_key rels x.info.key || has_key rels x.base)

    entries_left : IsPart (entries later) (entries db)
    entries_left = part_append (map (λ r. r.info) later.relations) (map (λ r. r.info) db.relations) _ _
        (part_map (λ r. r.info) later.relations db.relations (part_filter keep_relation db.relations))
        (part_append (map (λ v. v.info) later.views) (map (λ v. v.info) db.views) (map (λ x. x.info) later.indexes) (map (λ x. x.info) db.indexes)
        (part_map (λ v. v.info) later.views db.views (part_filter keep_view db.views)) (part_map (λ x. x.info) later.indexes db.indexes (part_filter keep_index db.indexes)))

    stay : Staying (Stays rels) db later
    stay = stay_left db rels unused

    fewer : (m n most : ℕ) → m ≤ n → IsTrue (nat_le n most) → IsTrue (nat_le m most)
    fewer m n most le t = grind (arith, nat_tests, le, t)

    fewer_rules : (key : RelKey) → length (rules_on later key) ≤ length (rules_on db key)
    fewer_rules key =
        let bound = filter_fewer (of_key key) (λ p. not (has_key rels p.0)) db.rules in
        omega (arith, bound, length-map (filter (of_key key) later.rules) (λ p. p.1), length-map (filter (of_key key) db.rules) (λ p. p.1))

    fewer_permits : (key : RelKey) → length (permits_on later key) ≤ length (permits_on db key)
    fewer_permits key =
        let bound = filter_fewer (of_key key) (λ p. not (has_key rels p.0)) db.permits in
        omega (arith, bound, length-map (filter (of_key key) later.permits) (λ p. p.1), length-map (filter (of_key key) db.permits) (λ p. p.1))

    views : AllByRecursion (ViewStays (Stays rels)) later.views
    views = each_from _ (ViewStays (Stays rels)) later.views
        (each_kept _ keep_view db.views (both_each _ _ db.views (each_false _ db.views unused) (each_true (λ v. valid_query db v.query) db.views is.view_queries_stand)))
        (λ v k. let stays = is_no (has_key rels v.info.key) k.0 in record { key = stays; vars = vars_left db rels v k.1.0 stays; plain = query_plain db v.query k.1.1 })

    ruled : AllByRecursion (λ p. Stays rels p.0) later.rules
    ruled = each_from _ _ later.rules (each_kept _ (λ p. not (has_key rels p.0)) db.rules (for_all db.rules)) (λ p k. is_no (has_key rels p.0) k.0)

    permitted : AllByRecursion (λ p. Stays rels p.0) later.permits
    permitted = each_from _ _ later.permits (each_kept _ (λ p. not (has_key rels p.0)) db.permits (for_all db.permits)) (λ p k. is_no (has_key rels p.0) k.0)

    based : AllByRecursion (λ x. Stays rels x.base) later.indexes
    based = each_from _ _ later.indexes (each_kept _ keep_index db.indexes (for_all db.indexes)) (λ x k. (neither (has_key rels x.info.key) (has_key rels x.base) (is_no _ k.0)).1)

-- where each is there or a catalogue, and none is a catalogue, each is there
each_is_there : (db : Db) (rels : List RelKey) → IsTrue (list_all (λ key. is_there db key || is_catalogue db key) rels) → list_any (is_catalogue db) rels ≡ false → IsTrue (list_all (is_there db) rels)
each_is_there db [] t h = refl
each_is_there db (key ∷ rels) t h =
    let parts = both (is_there db key || is_catalogue db key) (list_all (λ key. is_there db key || is_catalogue db key) rels) t in
    let none = neither (is_catalogue db key) (list_any (is_catalogue db) rels) h in
    each (is_there db key) (list_all (is_there db) rels) (only (is_there db key) (is_catalogue db key) parts.0 none.0) (each_is_there db rels parts.1 none.1)
  where
    only : (a b : Bool) → IsTrue (a || b) → b ≡ false → IsTrue a
    only true b t e = refl
    only false b t e = cc (sym t ∙ e)

pub destroyed_planned : (db : Db) (user : List ℕ) (rels : List RelKey) (made : DbChange) → IsDatabase db
    → IsTrue (list_all (λ key. is_there db key || is_catalogue db key) rels) → IsTrue (differ_by same_key rels) → planned db user (utility.Destroy rels) ≡ Ok made → IsLawful db made
unfolding plan_refusals plan_change
destroyed_planned db user rels made is there differ e =
    let plan = not_refused db user (utility.Destroy rels) made e in
    let absent = all_absent (plan_refusals db user (utility.Destroy rels)) plan.0 in
    subst (IsLawful db) plan.1 (destroyed_lawful db rels is (each_is_there db rels there absent.0) differ absent.1.1.0)
