-- A view that is made.
use Rattle.std.proofs.Common.{◌≡◌, refl, sym, ap, ◌∙◌, subst, ℕ, suc, ◌+◌, ◌≤◌, nat_le, nat_lt, Bool, true, false, ◌&&◌, not, IsTrue, List, [], ◌∷◌, ◌++◌, Option, Some, None, map, length, arith}
use Rattle.std.specs.Prelude.{flat_map, is_some, option_map, sum, sum_by, Ok}
use Rattle.std.specs.List.{list_all, AllByRecursion}
use Rattle.std.proofs.lemmas.Bool.Decides.{nat_tests, Decides-eqb}
use Rattle.std.proofs.lemmas.Cmp.{on_total}
use Rattle.std.proofs.lemmas.Slice.Eq.{bytes_eq-Decides}
use Rattle.calculus.specs.declared.value.Domain.{Domain}
use Rattle.calculus.specs.declared.value.Domain.TheVariants.{I1, I2, I4, C}
use Rattle.calculus.specs.declared.value.Kind.{Kind}
use Rattle.calculus.specs.declared.value.Kind.TheVariants.{Of, Wide}
use Rattle.calculus.specs.declared.query.RelKey.{RelKey}
use Rattle.calculus.specs.declared.query.QAgg.{QAgg}
use Rattle.calculus.specs.declared.query.Query.{Query}
use Rattle.calculus.specs.declared.query.Target.{Target}
use Rattle.calculus.specs.declared.schema.RelInfo.{RelInfo}
use Rattle.calculus.specs.declared.request.Utility.TheVariants as utility
use Rattle.calculus.specs.declared.change.DbChange.{DbChange}
use Rattle.calculus.specs.declared.change.DbChange.TheVariants as change
use Rattle.calculus.specs.Keys.{same_key}
use Rattle.calculus.specs.Lists.{insert_by}
use Rattle.calculus.specs.Limits.{most_entries, most_expanded_variables, most_variables, greatest_size}
use Rattle.calculus.specs.Rows.{Row, set_of}
use Rattle.calculus.specs.Catalogue.{relation_key, attribute_key, catalogue_at, relation_info, attribute_info, relation_row, attribute_rows, all_entries}
use Rattle.calculus.specs.Database.{Db, Relation, View, relation_at, view_at, is_relation, entries, is_there}
use Rattle.calculus.specs.Stored.{Viewed, range_at, kinds_at}
use Rattle.calculus.specs.QueryParts.{vars_of, targets_of, query_aggregates}
use Rattle.calculus.specs.Sizes.{Measure, greater_level, greatest_of, level_above, range_level, level_within, level_of, query_measure, measure_of, variables, expanded_variables, query_size, source_variables}
use Rattle.calculus.specs.Storable.{query_is_storable}
use Rattle.calculus.specs.IsDatabase.{IsDatabase, key_is_named, valid_view_info, attrs_stand, attrs_are_targets, same_domain, same_kind, vars_are_there, valid_query, valid_index, valid_row_qual, valid_permit}
use Rattle.calculus.specs.Change.{laid, names_what_is_there, adds_what_is_new, lists_once, IsLawful}
use Rattle.quel_meaning.specs.Planned.{planned, plan_refusals, plan_change, view_info, target_attr}
use Rattle.quel_meaning.proofs.InOrder.{in_order-insert}
use Rattle.plan_laws.specs.Fitting.{IsFitView}
use Rattle.plan_laws.proofs.Kept.{both, each, all_insert}
use Rattle.plan_laws.proofs.Orders.{key_total}
use Rattle.plan_laws.proofs.Planned.{not_refused}
use Rattle.plan_laws.proofs.Alike.{AlikeRange}
use Rattle.plan_laws.proofs.Ranging.{AlikeRelation, same_relation, ranged, ranged_alike}
use Rattle.plan_laws.proofs.Indexes.{all-map, is_no}
use Rattle.plan_laws.proofs.NewIndexes.{not_there, new-all, all-append}
use Rattle.plan_laws.proofs.PlainQueries.{query_plain}
use Rattle.plan_laws.proofs.Staying.{Staying, map_same, all_same, level_stays, query_stays, kinds_stay, there_stays}
use Rattle.plan_laws.proofs.StayingFacts.{ViewStays, stands_with, levels_hold, vars_hold, queries_hold, sizes_hold, expansions_hold, rules_hold, permits_hold, indexes_hold}
use Rattle.plan_laws.proofs.Created.{none_found, no_view, nothing_ranges, ranged_is_other, relation_is_ranged, viewed_is_found, index_based, each_true, each_from, both_each, found_has}
use Rattle.plan_laws.proofs.BesideViews.{by_view, views_known, found_beside, all_behind, differ_behind, one_behind, found_itself, sorted_by_view, sorted_by_key}

-- ---- levels

there_both : (l g : Option ℕ) → is_some l ≡ true → is_some (option_map suc g) ≡ true → is_some (option_map suc (greater_level l g)) ≡ true
there_both None g h k = cc h
there_both (Some i) None h k = cc k
there_both (Some i) (Some j) h k = refl

pub there_above : (f : RelKey → Option ℕ) (keys : List RelKey) → IsTrue (list_all (λ key. is_some (f key)) keys) → is_some (level_above (map f keys)) ≡ true
there_above f [] h = refl
there_above f (key ∷ keys) h = let parts = both (is_some (f key)) (list_all (λ key. is_some (f key)) keys) h in there_both (f key) (greatest_of (map f keys)) parts.0 (there_above f keys parts.1)

level_of_view : (db : Db) (key : RelKey) (view : View) → range_at db key ≡ Some (Viewed view) → IsTrue (list_all (λ key. is_some (level_within 15 db key)) (vars_of view.query)) → is_some (level_of db key) ≡ true
unfolding level_of
level_of_view db key view range below =
    ap (λ r. is_some (range_level (λ view. level_above (map (level_within 15 db) (vars_of view.query))) r)) range ∙ there_above (level_within 15 db) (vars_of view.query) below

-- ---- attributes

domain_itself : (d : Domain) → same_domain d d ≡ true
domain_itself I1 = refl
domain_itself I2 = refl
domain_itself I4 = refl
domain_itself (C n) = (Decides-eqb n n).1 refl

kind_itself : (k : Kind) → same_kind k k ≡ true
kind_itself Wide = refl
kind_itself (Of d) = domain_itself d

targets_itself : (ts : List Target) → IsTrue (attrs_are_targets (map target_attr ts) ts)
targets_itself [] = refl
targets_itself (t ∷ ts) = each _ _ ((bytes_eq-Decides t.name t.name).1 refl) (each _ _ (kind_itself t.kind) (targets_itself ts))

-- ---- what stands with it

-- the database with the view
abbrev pub viewed : Db → View → Db
viewed db new = record db { views = insert_by by_view new db.views }

catalogue_viewed : (db : Db) (new : View) (key : RelKey) → AlikeRelation (catalogue_at db key) (catalogue_at (viewed db new) key)
unfolding catalogue_at
catalogue_viewed db new key =
    go (same_key key (relation_key db)) (same_key key (attribute_key db))
    (set_of (map relation_row (all_entries db))) (set_of (flat_map attribute_rows (all_entries db)))
    (set_of (map relation_row (all_entries (viewed db new)))) (set_of (flat_map attribute_rows (all_entries (viewed db new))))
  where
    catalogue : Bool → Bool → List Row → List Row → Option Relation
    catalogue a b rows others = elim a [
      | true ↦ Some (record { info = relation_info db; rows = rows })
      | false ↦ elim b [ true ↦ Some (record { info = attribute_info db; rows = others }) | false ↦ None ]
    ]

    go : (a b : Bool) (r s t u : List Row) → AlikeRelation (catalogue a b r s) (catalogue a b t u)
    go true b r s t u = refl
    go false true r s t u = refl
    go false false r s t u = tt

pub ranges_viewed : (db : Db) (new : View) (key : RelKey) → same_key new.info.key key ≡ false → AlikeRange (range_at db key) (range_at (viewed db new) key)
unfolding range_at
ranges_viewed db new key other =
    subst (λ v. AlikeRange (range_at db key) (ranged (relation_at db key) v (catalogue_at (viewed db new) key))) (sym (found_beside key new db.views other))
    (ranged_alike (relation_at db key) (relation_at db key) (same_relation (relation_at db key)) (view_at db key) (catalogue_at db key) (catalogue_at (viewed db new) key) (catalogue_viewed db new key))

-- the view stands under its key
pub ranges_over_it : (db : Db) (new : View) → is_there db new.info.key ≡ false → range_at (viewed db new) new.info.key ≡ Some (Viewed new)
unfolding range_at
ranges_over_it db new unused =
    let found = none_found new.info.key db.relations (map (λ v. v.info) db.views ++ map (λ x. x.info) db.indexes) unused in
    let view = no_view new.info.key db.views (map (λ x. x.info) db.indexes) found.1 in
    λ i. ranged (found.0 i) (found_itself new db.views view i) (catalogue_at (viewed db new) new.info.key)

-- ---- the change

pub view_lawful : (db : Db) (rel : RelKey) (q : Query) → IsDatabase db → IsFitView db rel q → IsLawful db (change.View (view_info rel q) q)
unfolding laid names_what_is_there adds_what_is_new lists_once query_size expanded_variables
view_lawful db rel q is fit = record {
  names_are_there = refl;
  additions_are_new = ap not fit.unused;
  nothing_is_listed_twice = refl;
  leaves_a_database = record {
    dba_is_named = is.dba_is_named;
    keys_are_named = all_behind (λ i. key_is_named i.key) front new db.views behind fit.named is.keys_are_named;
    relations_ascend = is.relations_ascend;
    indexes_ascend = is.indexes_ascend;
    views_ascend = sorted_by_key (insert_by by_view new db.views) (in_order-insert (on_total (λ (v : View). v.info.key) key_total) new db.views (sorted_by_view db.views is.views_ascend));
    rules_ascend = is.rules_ascend;
    permits_ascend = is.permits_ascend;
    keys_differ = differ_behind front new db.views behind (not_there rel (entries db) fit.unused) is.keys_differ;
    structures_stand = is.structures_stand;
    relation_attrs_stand = is.relation_attrs_stand;
    relations_are_stored = is.relations_are_stored;
    rows_ascend = is.rows_ascend;
    rows_fit = is.rows_fit;
    indexes_stand = sym (indexes_hold Other db later stay db.indexes based) ∙ is.indexes_stand;
    view_infos_stand = put (λ v. valid_view_info v.info) refl is.view_infos_stand;
    view_attrs_stand = put (λ v. attrs_stand v.info.attrs) fit.attributes is.view_attrs_stand;
    view_attrs_are_targets = put (λ v. attrs_are_targets v.info.attrs (targets_of v.query)) (targets_itself (targets_of q)) is.view_attrs_are_targets;
    views_name_what_is_there = put (λ v. vars_are_there later v.query)
        (sym (all_same Other (λ key. is_some (range_at db key)) (λ key. is_some (range_at later key)) (vars_of q) own_vars (λ key p. there_stays Other db later stay key p)) ∙ fit.vars)
        (sym (vars_hold Other db later stay db.views views) ∙ is.views_name_what_is_there);
    views_have_levels = put (λ v. is_some (level_of later v.info.key)) (level_of_view later rel new (ranges_over_it db new fit.unused) below)
        (sym (levels_hold Other db later stay db.views views) ∙ is.views_have_levels);
    view_queries_stand = put (λ v. valid_query later v.query)
        (sym (ap (λ kinds. stands_with kinds q) (map_same Other (kinds_at db) (kinds_at later) (vars_of q) own_vars (λ key p. kinds_stay Other db later stay key p))) ∙ fit.stands)
        (sym (queries_hold Other db later stay db.views views) ∙ is.view_queries_stand);
    rules_stand = sym (rules_hold Other db later stay db.rules ruled) ∙ is.rules_stand;
    permits_stand = sym (permits_hold Other db later stay refl db.permits permitted) ∙ is.permits_stand;
    few_entries = room (length (entries later)) (length (entries db)) (one_behind front new db.views behind) fit.room;
    few_rows = is.few_rows;
    few_listed_variables = put (λ v. nat_le (length (vars_of v.query)) most_expanded_variables) fit.few_listed is.few_listed_variables;
    few_variables = put (λ v. nat_le (variables v.query) most_variables) fit.few is.few_variables;
    few_expanded_variables = put (λ v. nat_le (expanded_variables later v.query) most_expanded_variables) (sym (ap (λ n. nat_le n most_expanded_variables) expansion) ∙ fit.few_expanded)
        (sym (expansions_hold Other db later stay db.views views) ∙ is.few_expanded_variables);
    small_views = put (λ v. nat_le (query_size later v.query) greatest_size)
        (sym (ap (λ (m : Measure). nat_le (sum m.attrs + m.qual) greatest_size) (query_stays Other db later stay q own_vars)) ∙ fit.small)
        (sym (sizes_hold Other db later stay db.views views) ∙ is.small_views);
    storable_views = put (λ v. query_is_storable v.query) fit.storable is.storable_views;
    storable_rules = is.storable_rules;
    storable_permits = is.storable_permits;
    storable_lists = is.storable_lists;
    few_rules = is.few_rules;
    few_permits = is.few_permits;
    small_rule_numbers = is.small_rule_numbers;
    small_permit_numbers = is.small_permit_numbers;
  };
}
  where
    new : View
    new = record { info = view_info rel q; query = q }

    later : Db
    later = viewed db new

    front : List RelInfo
    front = map (λ r. r.info) db.relations

    behind : List RelInfo
    behind = map (λ x. x.info) db.indexes

    Other : RelKey → Type 0
    Other key = same_key rel key ≡ false

    nothing : range_at db rel ≡ None
    nothing = nothing_ranges db rel fit.named fit.unused

    put : (test : View → Bool) → IsTrue (test new) → IsTrue (list_all test db.views) → IsTrue (list_all test (insert_by by_view new db.views))
    put test = all_insert by_view test new db.views

    room : (m n : ℕ) → m ≤ suc n → IsTrue (nat_lt n most_entries) → IsTrue (nat_le m most_entries)
    room m n le t = grind (arith, nat_tests, le, t)

    vars_other : (p : Query) → IsTrue (vars_are_there db p) → AllByRecursion Other (vars_of p)
    vars_other p t = each_from _ Other (vars_of p) (each_true (λ key. is_some (range_at db key)) (vars_of p) t) (λ key there. ranged_is_other db rel key nothing there)

    own_vars : AllByRecursion Other (vars_of q)
    own_vars = vars_other q fit.vars

    there : AllByRecursion (λ v. IsTrue (vars_are_there db v.query)) db.views
    there = each_true (λ v. vars_are_there db v.query) db.views is.views_name_what_is_there

    stood : AllByRecursion (λ v. IsTrue (valid_query db v.query)) db.views
    stood = each_true (λ v. valid_query db v.query) db.views is.view_queries_stand

    stay : Staying Other db later
    stay = record {
      ranges = λ key other. ranges_viewed db new key other;
      relations = λ key other. refl;
      closed = λ key view other found. vars_other view.query (found_has (λ v. IsTrue (vars_are_there db v.query)) (λ v. same_key v.info.key key) db.views view there (viewed_is_found db key view found));
    }

    below : IsTrue (list_all (λ key. is_some (level_within 15 later key)) (vars_of q))
    below = sym (all_same Other (λ key. is_some (level_within 15 db key)) (λ key. is_some (level_within 15 later key)) (vars_of q) own_vars (λ key p. ap is_some (level_stays Other db later stay 15 key p))) ∙ fit.levels

    with : Db → Measure → List QAgg → ℕ
    with d m gs = m.variables + sum_by (λ g. source_variables (measure_of d) g.source) gs

    expansion : with db (query_measure (measure_of db) q) (query_aggregates q) ≡ with later (query_measure (measure_of later) q) (query_aggregates q)
    expansion =
        let plain = query_plain db q fit.stands in
        ap (with db (query_measure (measure_of db) q)) plain ∙ ap (λ (m : Measure). m.variables + 0) (query_stays Other db later stay q own_vars) ∙ sym (ap (with later (query_measure (measure_of later) q)) plain)

    differs : RelInfo → Bool
    differs i = not (same_key rel i.key)

    unnamed : AllByRecursion (λ v. IsTrue (not (same_key rel v.info.key))) db.views
    unnamed =
        let all = sym (new-all rel (entries db)) ∙ not_there rel (entries db) fit.unused in
        let rest = both (list_all differs front) (list_all differs (views_known db.views ++ behind)) (sym (all-append differs front (views_known db.views ++ behind)) ∙ all) in
        let own = both (list_all differs (views_known db.views)) (list_all differs behind) (sym (all-append differs (views_known db.views) behind) ∙ rest.1) in
        each_true (λ v. differs v.info) db.views (sym (all-map differs (λ v. v.info) db.views) ∙ own.0)

    views : AllByRecursion (ViewStays Other) db.views
    views = each_from _ (ViewStays Other) db.views (both_each (λ v. IsTrue (not (same_key rel v.info.key))) _ db.views unnamed (both_each _ _ db.views there stood))
        (λ v k. record { key = is_no (same_key rel v.info.key) k.0; vars = vars_other v.query k.1.0; plain = query_plain db v.query k.1.1 })

    ruled : AllByRecursion (λ p. Other p.0) db.rules
    ruled = each_from _ _ db.rules (each_true (λ p. is_relation db p.0 && valid_row_qual db p.0 p.1.qual) db.rules is.rules_stand)
        (λ p t. ranged_is_other db rel p.0 nothing (relation_is_ranged db p.0 (both (is_relation db p.0) (valid_row_qual db p.0 p.1.qual) t).0))

    permitted : AllByRecursion (λ p. Other p.0) db.permits
    permitted = each_from _ _ db.permits (each_true (λ p. valid_permit db p.0 p.1) db.permits is.permits_stand)
        (λ p t. ranged_is_other db rel p.0 nothing (relation_is_ranged db p.0 (both (is_relation db p.0) _ t).0))

    based : AllByRecursion (λ x. Other x.base) db.indexes
    based = each_from _ _ db.indexes (each_true (valid_index db) db.indexes is.indexes_stand) (λ x t. ranged_is_other db rel x.base nothing (relation_is_ranged db x.base (index_based db x t)))

pub view_planned : (db : Db) (user : List ℕ) (rel : RelKey) (q : Query) (made : DbChange) → IsDatabase db → IsFitView db rel q
    → planned db user (utility.View rel q) ≡ Ok made → IsLawful db made
unfolding plan_refusals plan_change
view_planned db user rel q made is fit e = subst (IsLawful db) (not_refused db user (utility.View rel q) made e).1 (view_lawful db rel q is fit)
