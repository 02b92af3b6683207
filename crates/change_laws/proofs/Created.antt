-- A relation that is made.
use Rattle.std.proofs.Common.{◌≡◌, refl, sym, ap, ◌∙◌, ℕ, suc, ◌≤◌, nat_le, nat_lt, Bool, true, false, ◌&&◌, not, IsTrue, List, [], ◌∷◌, ◌++◌, None, map, length, arith}
use Rattle.std.specs.Prelude.{◌↔◌, is_some}
use Rattle.std.specs.List.{list_all, AllByRecursion}
use Rattle.std.proofs.lemmas.Bool.Decides.{nat_tests}
use Rattle.std.proofs.lemmas.Cmp.{on_total}
use Rattle.std.proofs.lemmas.List.{length-map, length-append}
use Rattle.std.specs.Ordering.{is_eq}
use Rattle.calculus.specs.declared.query.RelKey.{RelKey}
use Rattle.calculus.specs.declared.schema.RelInfo.{RelInfo}
use Rattle.calculus.specs.declared.change.DbChange.TheVariants as change
use Rattle.calculus.specs.Keys.{same_key}
use Rattle.calculus.specs.Lists.{insert_by}
use Rattle.calculus.specs.Limits.{most_entries, most_rows, most_rules, most_permits}
use Rattle.calculus.specs.Rows.{Row, Ascends, has, set_of}
use Rattle.calculus.specs.Database.{Db, Relation, View, is_relation, entries, is_there, rules_on, permits_on}
use Rattle.calculus.specs.Stored.{range_at}
use Rattle.calculus.specs.QueryParts.{vars_of}
use Rattle.calculus.specs.IsDatabase.{IsDatabase, row_fits, key_is_named, valid_structure, attrs_stand, are_stored, relation_rows_fit, vars_are_there, valid_query, valid_index, valid_row_qual, valid_permit}
use Rattle.calculus.specs.Change.{laid, rows_differ, names_what_is_there, adds_what_is_new, lists_once, IsLawful}
use Rattle.calculus.proofs.Sets.{Ascends-set_of, has-set_of}
use Rattle.quel_meaning.specs.Passing.{is_full}
use Rattle.change_laws.specs.Fit.{key_is_free, relation_is_fit}
use Rattle.quel_meaning.proofs.InOrder.{in_order-insert}
use Rattle.plan_laws.proofs.Kept.{both, each, all_insert}
use Rattle.plan_laws.proofs.Created.{ranges_beside, each_true, nothing_ranges, ranged_is_other, relation_is_ranged, viewed_is_found, each_from, none_of_key, both_each, index_based}
use Rattle.plan_laws.proofs.Indexes.{is_no, all-map}
use Rattle.plan_laws.proofs.RowsChanged.{all_put}
use Rattle.plan_laws.proofs.Orders.{key_total}
use Rattle.plan_laws.proofs.Alike.{AlikeRange}
use Rattle.plan_laws.proofs.NewIndexes.{not_there, new-all, all-append}
use Rattle.plan_laws.proofs.PlainQueries.{query_plain}
use Rattle.plan_laws.proofs.Staying.{Staying}
use Rattle.plan_laws.proofs.StayingFacts.{ViewStays, levels_hold, vars_hold, queries_hold, sizes_hold, expansions_hold, rules_hold, permits_hold, indexes_hold}
use Rattle.plan_laws.proofs.Beside.{by_rel, known_of, found_beside, each_beside, all_beside, differ_beside, one_beside, sorted_by_rel, sorted_by_key}
use Rattle.plan_laws.proofs.Tests.{has_room, not_full, found_has}
use Rattle.change_laws.proofs.Counted.{all_of_put, length_put}
use Rattle.change_laws.proofs.Inserted.{insert_passes, length_insert, never_equal}

-- ---- a set of rows

all_set : (test : Row → Bool) (rows : List Row) → IsTrue (list_all test rows) → IsTrue (list_all test (set_of rows))
all_set test [] t = refl
all_set test (row ∷ rows) t = let parts = both (test row) (list_all test rows) t in all_put test row (set_of rows) parts.0 (all_set test rows parts.1)

all_of_set : (test : Row → Bool) (rows : List Row) → IsTrue (list_all test (set_of rows)) → IsTrue (list_all test rows)
all_of_set test [] t = refl
all_of_set test (row ∷ rows) t = let parts = all_of_put test row (set_of rows) t in each (test row) (list_all test rows) parts.0 (all_of_set test rows parts.1)

length_set : (rows : List Row) → IsTrue (rows_differ rows) → length (set_of rows) ≡ length rows
length_set [] d = refl
length_set (row ∷ rows) d =
    let differ = both (not (has rows row)) (rows_differ rows) d in
    length_put row (set_of rows) (has-set_of rows row ∙ is_no (has rows row) differ.0) ∙ ap suc (length_set rows differ.1)

-- ---- the change

-- a relation under a free key, with rows that differ, fit and aren't too many
pub made_lawful : (db : Db) (info : RelInfo) (rows : List Row) → IsDatabase db → IsTrue (key_is_named info.key) → is_there db info.key ≡ false → IsTrue (nat_lt (length (entries db)) most_entries)
    → IsTrue (valid_structure info) → IsTrue (attrs_stand info.attrs) → IsTrue (are_stored info.attrs)
    → IsTrue (rows_differ rows) → IsTrue (list_all (row_fits info.attrs) rows) → IsTrue (nat_le (length rows) most_rows) → IsLawful db (change.Create info rows)
unfolding laid names_what_is_there adds_what_is_new lists_once
made_lawful db info rows is named unused room structure attributes domains differ fits few = record {
  names_are_there = refl;
  additions_are_new = ap not unused;
  nothing_is_listed_twice = differ;
  leaves_a_database = record {
    dba_is_named = is.dba_is_named;
    keys_are_named = all_beside (λ i. key_is_named i.key) new db.relations others named is.keys_are_named;
    relations_ascend = sorted_by_key (insert_by by_rel new db.relations) (in_order-insert (on_total (λ (r : Relation). r.info.key) key_total) new db.relations (sorted_by_rel db.relations is.relations_ascend));
    indexes_ascend = is.indexes_ascend;
    views_ascend = is.views_ascend;
    rules_ascend = is.rules_ascend;
    permits_ascend = is.permits_ascend;
    keys_differ = differ_beside new db.relations others (not_there info.key (entries db) unused) is.keys_differ;
    structures_stand = put (λ r. valid_structure r.info) structure is.structures_stand;
    relation_attrs_stand = put (λ r. attrs_stand r.info.attrs) attributes is.relation_attrs_stand;
    relations_are_stored = put (λ r. are_stored r.info.attrs) domains is.relations_are_stored;
    rows_ascend = each_beside (λ r. Ascends r.rows) new db.relations (Ascends-set_of rows) is.rows_ascend;
    rows_fit = put relation_rows_fit (all_set (row_fits info.attrs) rows fits) is.rows_fit;
    indexes_stand = sym (indexes_hold Other db later stay db.indexes based) ∙ is.indexes_stand;
    view_infos_stand = is.view_infos_stand;
    view_attrs_stand = is.view_attrs_stand;
    view_attrs_are_targets = is.view_attrs_are_targets;
    views_name_what_is_there = sym (vars_hold Other db later stay db.views views) ∙ is.views_name_what_is_there;
    views_have_levels = sym (levels_hold Other db later stay db.views views) ∙ is.views_have_levels;
    view_queries_stand = sym (queries_hold Other db later stay db.views views) ∙ is.view_queries_stand;
    rules_stand = sym (rules_hold Other db later stay db.rules ruled) ∙ is.rules_stand;
    permits_stand = sym (permits_hold Other db later stay refl db.permits permitted) ∙ is.permits_stand;
    few_entries = one_fits (length (entries later)) (length (entries db)) (one_beside new db.relations others) room;
    few_rows = put (λ r. nat_le (length r.rows) most_rows) (ap (λ n. nat_le n most_rows) (length_set rows differ) ∙ few) is.few_rows;
    few_listed_variables = is.few_listed_variables;
    few_variables = is.few_variables;
    few_expanded_variables = sym (expansions_hold Other db later stay db.views views) ∙ is.few_expanded_variables;
    small_views = sym (sizes_hold Other db later stay db.views views) ∙ is.small_views;
    storable_views = is.storable_views;
    storable_rules = is.storable_rules;
    storable_permits = is.storable_permits;
    storable_lists = is.storable_lists;
    few_rules = put (λ r. nat_le (length (rules_on db r.info.key)) most_rules) (ap (λ ps. nat_le (length (map (λ p. p.1) ps)) most_rules) (none_of_key info.key db.rules ruled)) is.few_rules;
    few_permits = put (λ r. nat_le (length (permits_on db r.info.key)) most_permits) (ap (λ ps. nat_le (length (map (λ p. p.1) ps)) most_permits) (none_of_key info.key db.permits permitted)) is.few_permits;
    small_rule_numbers = is.small_rule_numbers;
    small_permit_numbers = is.small_permit_numbers;
  };
}
  where
    new : Relation
    new = record { info = info; rows = set_of rows }

    rel : RelKey
    rel = info.key

    later : Db
    later = record db { relations = insert_by by_rel new db.relations }

    others : List RelInfo
    others = map (λ v. v.info) db.views ++ map (λ x. x.info) db.indexes

    Other : RelKey → Type 0
    Other key = same_key rel key ≡ false

    nothing : range_at db rel ≡ None
    nothing = nothing_ranges db rel named unused

    put : (test : Relation → Bool) → IsTrue (test new) → IsTrue (list_all test db.relations) → IsTrue (list_all test (insert_by by_rel new db.relations))
    put test = all_insert by_rel test new db.relations

    one_fits : (m n : ℕ) → m ≤ suc n → IsTrue (nat_lt n most_entries) → IsTrue (nat_le m most_entries)
    one_fits m n le t = grind (arith, nat_tests, le, t)

    vars_other : (v : View) → IsTrue (vars_are_there db v.query) → AllByRecursion Other (vars_of v.query)
    vars_other v t = each_from _ Other (vars_of v.query) (each_true (λ key. is_some (range_at db key)) (vars_of v.query) t) (λ key there. ranged_is_other db rel key nothing there)

    there : AllByRecursion (λ v. IsTrue (vars_are_there db v.query)) db.views
    there = each_true (λ v. vars_are_there db v.query) db.views is.views_name_what_is_there

    ranges_alike : (key : RelKey) → same_key rel key ≡ false → AlikeRange (range_at db key) (range_at later key)
    ranges_alike key other = ranges_beside db new key other

    stood : AllByRecursion (λ v. IsTrue (valid_query db v.query)) db.views
    stood = each_true (λ v. valid_query db v.query) db.views is.view_queries_stand

    differs : RelInfo → Bool
    differs i = not (same_key rel i.key)

    unnamed : AllByRecursion (λ v. IsTrue (not (same_key rel v.info.key))) db.views
    unnamed =
        let all = sym (new-all rel (entries db)) ∙ not_there info.key (entries db) unused in
        let behind = both (list_all differs (known_of db.relations)) (list_all differs others) (sym (all-append differs (known_of db.relations) others) ∙ all) in
        let front = both (list_all differs (map (λ v. v.info) db.views)) (list_all differs (map (λ x. x.info) db.indexes))
        (sym (all-append differs (map (λ v. v.info) db.views) (map (λ x. x.info) db.indexes)) ∙ behind.1) in
        each_true (λ v. differs v.info) db.views (sym (all-map differs (λ v. v.info) db.views) ∙ front.0)

    stay : Staying Other db later
    stay = record {
      ranges = λ key other. ranges_alike key other;
      relations = λ key other. ap is_some (sym (found_beside key new db.relations other));
      closed = λ key view other found. vars_other view (found_has (λ v. IsTrue (vars_are_there db v.query)) (λ v. same_key v.info.key key) db.views view there (viewed_is_found db key view found));
    }

    views : AllByRecursion (ViewStays Other) db.views
    views = each_from _ (ViewStays Other) db.views (both_each (λ v. IsTrue (not (same_key rel v.info.key))) _ db.views unnamed (both_each _ _ db.views there stood))
        (λ v k. record { key = is_no (same_key rel v.info.key) k.0; vars = vars_other v k.1.0; plain = query_plain db v.query k.1.1 })

    ruled : AllByRecursion (λ p. Other p.0) db.rules
    ruled = each_from _ _ db.rules (each_true (λ p. is_relation db p.0 && valid_row_qual db p.0 p.1.qual) db.rules is.rules_stand)
        (λ p t. ranged_is_other db rel p.0 nothing (relation_is_ranged db p.0 (both (is_relation db p.0) (valid_row_qual db p.0 p.1.qual) t).0))

    permitted : AllByRecursion (λ p. Other p.0) db.permits
    permitted = each_from _ _ db.permits (each_true (λ p. valid_permit db p.0 p.1) db.permits is.permits_stand)
        (λ p t. ranged_is_other db rel p.0 nothing (relation_is_ranged db p.0 (both (is_relation db p.0) _ t).0))

    based : AllByRecursion (λ x. Other x.base) db.indexes
    based = each_from _ _ db.indexes (each_true (valid_index db) db.indexes is.indexes_stand) (λ x t. ranged_is_other db rel x.base nothing (relation_is_ranged db x.base (index_based db x t)))

-- ---- the test

pub relation_fits_exactly : (db : Db) (info : RelInfo) (rows : List Row) → IsDatabase db → (relation_is_fit db info rows ≡ true) ↔ IsLawful db (change.Create info rows)
unfolding relation_is_fit key_is_free laid adds_what_is_new lists_once
relation_fits_exactly db info rows is = (to, from)
  where
    to : relation_is_fit db info rows ≡ true → IsLawful db (change.Create info rows)
    to t =
        let free = both (key_is_free db info.key) _ t in
        let named = both (key_is_named info.key) (not (is_there db info.key) && not (is_full db)) free.0 in
        let unused = both (not (is_there db info.key)) (not (is_full db)) named.1 in
        let structure = both (valid_structure info) _ free.1 in
        let attributes = both (attrs_stand info.attrs) _ structure.1 in
        let domains = both (are_stored info.attrs) _ attributes.1 in
        let differ = both (rows_differ rows) _ domains.1 in
        let fits = both (list_all (row_fits info.attrs) rows) (nat_le (length rows) most_rows) differ.1 in
        made_lawful db info rows is named.0 (is_no (is_there db info.key) unused.0) (has_room db unused.1) structure.0 attributes.0 domains.0 differ.0 fits.0 fits.1

    from : IsLawful db (change.Create info rows) → relation_is_fit db info rows ≡ true
    from l =
        each _ _ (each _ _ named (each _ _ l.additions_are_new (not_full db room))) (each _ _ (its (λ r. valid_structure r.info) after.structures_stand) (each _ _ (its (λ r. attrs_stand r.info.attrs) after.relation_attrs_stand)
        (each _ _ (its (λ r. are_stored r.info.attrs) after.relations_are_stored) (each _ _ l.nothing_is_listed_twice (each _ _ (all_of_set (row_fits info.attrs) rows (its relation_rows_fit after.rows_fit))
        (ap (λ n. nat_le n most_rows) (sym (length_set rows l.nothing_is_listed_twice)) ∙ its (λ r. nat_le (length r.rows) most_rows) after.few_rows))))))
      where
        new : Relation
        new = record { info = info; rows = set_of rows }

        others : List RelInfo
        others = map (λ v. v.info) db.views ++ map (λ x. x.info) db.indexes

        later : Db
        later = record db { relations = insert_by by_rel new db.relations }

        after : IsDatabase later
        after = l.leaves_a_database

        its : (test : Relation → Bool) → IsTrue (list_all test (insert_by by_rel new db.relations)) → IsTrue (test new)
        its test = insert_passes by_rel test new db.relations

        named : IsTrue (key_is_named info.key)
        named = its (λ r. key_is_named r.info.key) (sym (all-map (λ i. key_is_named i.key) (λ r. r.info) (insert_by by_rel new db.relations))
            ∙ (both (list_all (λ i. key_is_named i.key) (known_of (insert_by by_rel new db.relations))) (list_all (λ i. key_is_named i.key) others)
            (sym (all-append (λ i. key_is_named i.key) (known_of (insert_by by_rel new db.relations)) others) ∙ after.keys_are_named)).0)

        unlike : AllByRecursion (λ r. is_eq (by_rel new r) ≡ false) db.relations
        unlike =
            let all = sym (new-all info.key (entries db)) ∙ not_there info.key (entries db) (is_no (is_there db info.key) l.additions_are_new) in
            let front = both (list_all (λ i. not (same_key info.key i.key)) (known_of db.relations)) (list_all (λ i. not (same_key info.key i.key)) others)
            (sym (all-append (λ i. not (same_key info.key i.key)) (known_of db.relations) others) ∙ all) in
            each_from _ _ db.relations (each_true (λ r. not (same_key info.key r.info.key)) db.relations (sym (all-map (λ i. not (same_key info.key i.key)) (λ r. r.info) db.relations) ∙ front.0))
            (λ r t. never_equal info.key r.info.key (is_no (same_key info.key r.info.key) t))

        more : length (entries later) ≡ suc (length (entries db))
        more =
            let rows_later = length-append (known_of (insert_by by_rel new db.relations)) others in
            let rows_before = length-append (known_of db.relations) others in
            let one = length_insert by_rel new db.relations unlike in
            let later_known = length-map (insert_by by_rel new db.relations) (λ r. r.info) in
            let before_known = length-map db.relations (λ r. r.info) in
            omega (arith, rows_later, rows_before, one, later_known, before_known)

        less : (m n : ℕ) → m ≡ suc n → IsTrue (nat_le m most_entries) → IsTrue (nat_lt n most_entries)
        less m n e t = grind (arith, nat_tests, e, t)

        room : IsTrue (nat_lt (length (entries db)) most_entries)
        room = less (length (entries later)) (length (entries db)) more after.few_entries
