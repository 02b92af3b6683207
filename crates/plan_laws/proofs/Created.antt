-- A relation that is made without rows.
use Rattle.std.proofs.Common.{◌≡◌, refl, sym, ap, ◌∙◌, subst, ℕ, suc, ◌≤◌, nat_le, nat_lt, Bool, true, false, ◌&&◌, ◌||◌, not, cond, IsTrue, List, [], ◌∷◌, ◌++◌, Option, Some, None, map, filter, length, arith}
use Rattle.std.specs.Prelude.{bytes_eq, codes, find, is_some, Ok}
use Rattle.std.specs.List.{list_all, AllByRecursion}
use Rattle.std.proofs.lemmas.Bool.Decides.{nat_tests}
use Rattle.std.proofs.lemmas.Cmp.{on_total}
use Rattle.calculus.specs.declared.query.RelKey.{RelKey}
use Rattle.calculus.specs.declared.schema.Attr.{Attr}
use Rattle.calculus.specs.declared.schema.RelInfo.{RelInfo}
use Rattle.calculus.specs.declared.request.Utility.TheVariants as utility
use Rattle.calculus.specs.declared.change.DbChange.{DbChange}
use Rattle.calculus.specs.declared.change.DbChange.TheVariants as change
use Rattle.calculus.specs.Keys.{same_key}
use Rattle.calculus.specs.Lists.{insert_by}
use Rattle.calculus.specs.Limits.{most_entries, most_rows, most_rules, most_permits}
use Rattle.calculus.specs.Rows.{Row, Ascends, set_of}
use Rattle.calculus.specs.Catalogue.{is_catalogue_name, is_catalogue, catalogue_at}
use Rattle.calculus.specs.Database.{Db, Relation, View, Index, relation_at, view_at, is_relation, entries, is_there, rules_on, permits_on}
use Rattle.calculus.specs.Stored.{Viewed, range_at}
use Rattle.calculus.specs.Structures.{is_index}
use Rattle.calculus.specs.QueryParts.{vars_of}
use Rattle.calculus.specs.Name.{is_name}
use Rattle.calculus.specs.IsDatabase.{IsDatabase, row_fits, key_is_named, valid_structure, attrs_stand, are_stored, relation_rows_fit, vars_are_there, valid_query, valid_index, valid_row_qual, valid_permit}
use Rattle.calculus.specs.Change.{laid, names_what_is_there, adds_what_is_new, lists_once, IsLawful}
use Rattle.calculus.proofs.Sets.{Ascends-nil, Ascends-set_of, has-set_of, same_set}
use Rattle.quel_meaning.specs.Planned.{planned, plan_refusals, plan_change, heap_info}
use Rattle.quel_meaning.proofs.InOrder.{in_order-insert}
use Rattle.plan_laws.specs.Fitting.{IsFitRelation}
use Rattle.plan_laws.proofs.Kept.{both, all_insert}
use Rattle.plan_laws.proofs.Orders.{key_total, same_key_is}
use Rattle.plan_laws.proofs.Planned.{neither, not_refused, no_catalogue}
use Rattle.plan_laws.proofs.Alike.{AlikeRange}
use Rattle.plan_laws.proofs.Ranging.{AlikeRelation, same_relation, ranged, ranged_alike, catalogue_alike}
use Rattle.plan_laws.proofs.Indexes.{is_no, all-map}
use Rattle.plan_laws.proofs.NewIndexes.{other_way, not_there, new-all, all-append}
use Rattle.plan_laws.proofs.RowsChanged.{rows_that_ascend_differ}
use Rattle.plan_laws.proofs.PlainQueries.{query_plain}
use Rattle.plan_laws.proofs.Staying.{Staying}
use Rattle.plan_laws.proofs.StayingFacts.{ViewStays, levels_hold, vars_hold, queries_hold, sizes_hold, expansions_hold, rules_hold, permits_hold, indexes_hold}
use Rattle.plan_laws.proofs.Beside.{by_rel, known_of, found_beside, each_beside, all_beside, differ_beside, one_beside, sorted_by_rel, sorted_by_key}

-- ---- nothing stands under a new key

pub none_found : (key : RelKey) (rs : List Relation) (others : List RelInfo) → is_some (find (λ i. same_key i.key key) (known_of rs ++ others)) ≡ false
    → (find (λ r. same_key r.info.key key) rs ≡ None) × (is_some (find (λ i. same_key i.key key) others) ≡ false)
none_found key [] others h = (refl, h)
none_found key (r ∷ rs) others h = go (same_key r.info.key key) refl h (none_found key rs others)
  where
    go : (b : Bool) → same_key r.info.key key ≡ b → is_some (cond b (Some r.info) (find (λ i. same_key i.key key) (known_of rs ++ others))) ≡ false
        → (is_some (find (λ i. same_key i.key key) (known_of rs ++ others)) ≡ false → (find (λ r. same_key r.info.key key) rs ≡ None) × (is_some (find (λ i. same_key i.key key) others) ≡ false))
        → (cond (same_key r.info.key key) (Some r) (find (λ r. same_key r.info.key key) rs) ≡ None) × (is_some (find (λ i. same_key i.key key) others) ≡ false)
    go true e h later = cc h
    go false e h later = let found = later h in (ap (λ b. cond b (Some r) (find (λ r. same_key r.info.key key) rs)) e ∙ found.0, found.1)

-- no view is found
pub no_view : (key : RelKey) (vs : List View) (others : List RelInfo) → is_some (find (λ i. same_key i.key key) (map (λ v. v.info) vs ++ others)) ≡ false → find (λ v. same_key v.info.key key) vs ≡ None
no_view key [] others h = refl
no_view key (v ∷ vs) others h = go (same_key v.info.key key) refl h (no_view key vs others)
  where
    go : (b : Bool) → same_key v.info.key key ≡ b → is_some (cond b (Some v.info) (find (λ i. same_key i.key key) (map (λ v. v.info) vs ++ others))) ≡ false
        → (is_some (find (λ i. same_key i.key key) (map (λ v. v.info) vs ++ others)) ≡ false → find (λ v. same_key v.info.key key) vs ≡ None)
        → cond (same_key v.info.key key) (Some v) (find (λ v. same_key v.info.key key) vs) ≡ None
    go true e h later = cc h
    go false e h later = ap (λ b. cond b (Some v) (find (λ v. same_key v.info.key key) vs)) e ∙ later h

named_is_no_catalogue : (db : Db) (key : RelKey) → IsTrue (key_is_named key) → is_catalogue db key ≡ false
named_is_no_catalogue db key t =
    let names = both (is_name key.owner) (is_name key.name && not (is_catalogue_name key.name)) t in
    let name = both (is_name key.name) (not (is_catalogue_name key.name)) names.1 in
    let neither_name = neither (bytes_eq key.name (codes "relation")) (bytes_eq key.name (codes "attribute")) (is_no (is_catalogue_name key.name) name.1) in
    (λ i. (bytes_eq key.owner db.dba && neither_name.0 i) || (bytes_eq key.owner db.dba && neither_name.1 i)) ∙ and_false (bytes_eq key.owner db.dba)
  where
    and_false : (b : Bool) → ((b && false) || (b && false)) ≡ false
    and_false true = refl
    and_false false = refl

pub nothing_stands : (db : Db) (key : RelKey) → is_there db key ≡ false → is_catalogue db key ≡ false → range_at db key ≡ None
unfolding range_at
nothing_stands db key unused none =
    let found = none_found key db.relations (map (λ v. v.info) db.views ++ map (λ x. x.info) db.indexes) unused in
    let view = no_view key db.views (map (λ x. x.info) db.indexes) found.1 in
    let catalogue = no_catalogue db key none in
    λ i. ranged (found.0 i) (view i) (catalogue i)

pub nothing_ranges : (db : Db) (key : RelKey) → IsTrue (key_is_named key) → is_there db key ≡ false → range_at db key ≡ None
nothing_ranges db key named unused = nothing_stands db key unused (named_is_no_catalogue db key named)

-- ---- what is there has another key

-- something to range over has another key than one under which there is nothing
pub ranged_is_other : (db : Db) (rel key : RelKey) → range_at db rel ≡ None → is_some (range_at db key) ≡ true → same_key rel key ≡ false
ranged_is_other db rel key nothing there = go (same_key rel key) refl
  where
    go : (b : Bool) → same_key rel key ≡ b → b ≡ false
    go true e = let f : is_some (range_at db key) ≡ false = ap (λ k. is_some (range_at db k)) (sym (same_key_is rel key e)) ∙ ap is_some nothing in cc (sym there ∙ f)
    go false e = refl

pub relation_is_ranged : (db : Db) (key : RelKey) → is_relation db key ≡ true → is_some (range_at db key) ≡ true
unfolding range_at
relation_is_ranged db key h = go (relation_at db key) h
  where
    go : (o : Option Relation) → is_some o ≡ true → is_some (ranged o (view_at db key) (catalogue_at db key)) ≡ true
    go None h = cc h
    go (Some r) h = refl

pub viewed_is_found : (db : Db) (key : RelKey) (view : View) → range_at db key ≡ Some (Viewed view) → view_at db key ≡ Some view
unfolding range_at
viewed_is_found db key view h = go (relation_at db key) (view_at db key) (catalogue_at db key) h
  where
    go : (r : Option Relation) (v : Option View) (c : Option Relation) → ranged r v c ≡ Some (Viewed view) → v ≡ Some view
    go (Some r) v c h = cc h
    go None (Some w) c h = cc h
    go None None None h = cc h
    go None None (Some r) h = cc h

pub each_true : {X : Type 0} (test : X → Bool) (xs : List X) → IsTrue (list_all test xs) → AllByRecursion (λ x. IsTrue (test x)) xs
each_true test [] t = tt
each_true test (x ∷ xs) t = let parts = both (test x) (list_all test xs) t in (parts.0, each_true test xs parts.1)

pub each_from : {X : Type 0} (P Q : X → Type 0) (xs : List X) → AllByRecursion P xs → ((x : X) → P x → Q x) → AllByRecursion Q xs
each_from P Q [] h f = tt
each_from P Q (x ∷ xs) h f = (f x h.0, each_from P Q xs h.1 f)

pub found_has : (P : View → Type 0) (test : View → Bool) (vs : List View) (view : View) → AllByRecursion P vs → find test vs ≡ Some view → P view
found_has P test [] view h e = cc e
found_has P test (v ∷ vs) view h e = go (test v) e (λ e. found_has P test vs view h.1 e)
  where
    the : {x y : View} → Some x ≡ Some y → x ≡ y
    the e = cc e

    go : (b : Bool) → cond b (Some v) (find test vs) ≡ Some view → (find test vs ≡ Some view → P view) → P view
    go true e later = subst P (the e) h.0
    go false e later = later e

-- those of one key are none, where each has another
pub none_of_key : {X : Type 0} (rel : RelKey) (ps : List (RelKey × X)) → AllByRecursion (λ p. same_key rel p.0 ≡ false) ps → filter (λ p. same_key p.0 rel) ps ≡ []
none_of_key rel [] h = refl
none_of_key rel (p ∷ ps) h = ap (λ b. cond b (p ∷ filter (λ p. same_key p.0 rel) ps) (filter (λ p. same_key p.0 rel) ps)) (other_way rel p.0 h.0) ∙ none_of_key rel ps h.1

pub both_each : {X : Type 0} (P Q : X → Type 0) (xs : List X) → AllByRecursion P xs → AllByRecursion Q xs → AllByRecursion (λ x. P x × Q x) xs
both_each P Q [] p q = tt
both_each P Q (x ∷ xs) p q = ((p.0, q.0), both_each P Q xs p.1 q.1)

pub ranges_beside : (db : Db) (new : Relation) (key : RelKey) → same_key new.info.key key ≡ false
    → AlikeRange (range_at db key) (range_at (record db { relations = insert_by by_rel new db.relations }) key)
unfolding range_at
ranges_beside db new key other =
    ranged_alike (relation_at db key) (relation_at later key)
    (subst (AlikeRelation (relation_at db key)) (sym (found_beside key new db.relations other)) (same_relation (relation_at db key)))
    (view_at db key) (catalogue_at db key) (catalogue_at later key) (catalogue_alike db (insert_by by_rel new db.relations) db.indexes key)
  where
    later : Db
    later = record db { relations = insert_by by_rel new db.relations }

pub index_based : (db : Db) (x : Index) → IsTrue (valid_index db x) → is_relation db x.base ≡ true
index_based db x t = (both (is_relation db x.base) _ (both (is_index x.info.spec) _ t).1).0

-- the set of rows that ascend is these rows
set_itself : (rows : List Row) → Ascends rows → set_of rows ≡ rows
set_itself rows ascend = same_set (set_of rows) rows (Ascends-set_of rows) ascend (has-set_of rows)

-- ---- the change

-- a relation with a set of rows that fit and aren't too many
pub made_lawful : (db : Db) (rel : RelKey) (attrs : List Attr) (rows : List Row) → IsDatabase db → IsFitRelation db rel attrs
    → Ascends rows → IsTrue (list_all (row_fits attrs) rows) → IsTrue (nat_le (length rows) most_rows) → IsLawful db (change.Create (heap_info rel attrs) rows)
unfolding laid names_what_is_there adds_what_is_new lists_once
made_lawful db rel attrs rows is fit ascend fits few = record {
  names_are_there = refl;
  additions_are_new = ap not fit.unused;
  nothing_is_listed_twice = rows_that_ascend_differ rows ascend;
  leaves_a_database = record {
    dba_is_named = is.dba_is_named;
    keys_are_named = all_beside (λ i. key_is_named i.key) new db.relations others fit.named is.keys_are_named;
    relations_ascend = sorted_by_key (insert_by by_rel new db.relations) (in_order-insert (on_total (λ (r : Relation). r.info.key) key_total) new db.relations (sorted_by_rel db.relations is.relations_ascend));
    indexes_ascend = is.indexes_ascend;
    views_ascend = is.views_ascend;
    rules_ascend = is.rules_ascend;
    permits_ascend = is.permits_ascend;
    keys_differ = differ_beside new db.relations others (not_there rel (entries db) fit.unused) is.keys_differ;
    structures_stand = put (λ r. valid_structure r.info) refl is.structures_stand;
    relation_attrs_stand = put (λ r. attrs_stand r.info.attrs) fit.attributes is.relation_attrs_stand;
    relations_are_stored = put (λ r. are_stored r.info.attrs) fit.domains is.relations_are_stored;
    rows_ascend = each_beside (λ r. Ascends r.rows) new db.relations (Ascends-set_of rows) is.rows_ascend;
    rows_fit = put relation_rows_fit (subst (λ rows. IsTrue (list_all (row_fits attrs) rows)) (sym (set_itself rows ascend)) fits) is.rows_fit;
    indexes_stand = sym (indexes_hold Other db later stay db.indexes based) ∙ is.indexes_stand;
    view_infos_stand = is.view_infos_stand;
    view_attrs_stand = is.view_attrs_stand;
    view_attrs_are_targets = is.view_attrs_are_targets;
    views_name_what_is_there = sym (vars_hold Other db later stay db.views views) ∙ is.views_name_what_is_there;
    views_have_levels = sym (levels_hold Other db later stay db.views views) ∙ is.views_have_levels;
    view_queries_stand = sym (queries_hold Other db later stay db.views views) ∙ is.view_queries_stand;
    rules_stand = sym (rules_hold Other db later stay db.rules ruled) ∙ is.rules_stand;
    permits_stand = sym (permits_hold Other db later stay refl db.permits permitted) ∙ is.permits_stand;
    few_entries = room (length (entries later)) (length (entries db)) (one_beside new db.relations others) fit.room;
    few_rows = put (λ r. nat_le (length r.rows) most_rows) (ap (λ rows. nat_le (length rows) most_rows) (set_itself rows ascend) ∙ few) is.few_rows;
    few_listed_variables = is.few_listed_variables;
    few_variables = is.few_variables;
    few_expanded_variables = sym (expansions_hold Other db later stay db.views views) ∙ is.few_expanded_variables;
    small_views = sym (sizes_hold Other db later stay db.views views) ∙ is.small_views;
    storable_views = is.storable_views;
    storable_rules = is.storable_rules;
    storable_permits = is.storable_permits;
    storable_lists = is.storable_lists;
    few_rules = put (λ r. nat_le (length (rules_on db r.info.key)) most_rules) (ap (λ ps. nat_le (length (map (λ p. p.1) ps)) most_rules) (none_of_key rel db.rules ruled)) is.few_rules;
    few_permits = put (λ r. nat_le (length (permits_on db r.info.key)) most_permits) (ap (λ ps. nat_le (length (map (λ p. p.1) ps)) most_permits) (none_of_key rel db.permits permitted)) is.few_permits;
    small_rule_numbers = is.small_rule_numbers;
    small_permit_numbers = is.small_permit_numbers;
  };
}
  where
    new : Relation
    new = record { info = heap_info rel attrs; rows = set_of rows }

    later : Db
    later = record db { relations = insert_by by_rel new db.relations }

    others : List RelInfo
    others = map (λ v. v.info) db.views ++ map (λ x. x.info) db.indexes

    Other : RelKey → Type 0
    Other key = same_key rel key ≡ false

    nothing : range_at db rel ≡ None
    nothing = nothing_ranges db rel fit.named fit.unused

    put : (test : Relation → Bool) → IsTrue (test new) → IsTrue (list_all test db.relations) → IsTrue (list_all test (insert_by by_rel new db.relations))
    put test = all_insert by_rel test new db.relations

    room : (m n : ℕ) → m ≤ suc n → IsTrue (nat_lt n most_entries) → IsTrue (nat_le m most_entries)
    room m n le t = grind (arith, nat_tests, le, t)

    vars_other : (v : View) → IsTrue (vars_are_there db v.query) → AllByRecursion Other (vars_of v.query)
    vars_other v t = each_from _ Other (vars_of v.query) (each_true (λ key. is_some (range_at db key)) (vars_of v.query) t) (λ key there. ranged_is_other db rel key nothing there)

    there : AllByRecursion (λ v. IsTrue (vars_are_there db v.query)) db.views
    there = each_true (λ v. vars_are_there db v.query) db.views is.views_name_what_is_there

    ranges_alike : (key : RelKey) → same_key rel key ≡ false → AlikeRange (range_at db key) (range_at later key)
    ranges_alike key other = ranges_beside db new key other

    stood : AllByRecursion (λ v. IsTrue (valid_query db v.query)) db.views
    stood = each_true (λ v. valid_query db v.query) db.views is.view_queries_stand

    differs : RelInfo → Bool
    differs i = not (same_key rel i.key)

    unnamed : AllByRecursion (λ v. IsTrue (not (same_key rel v.info.key))) db.views
    unnamed =
        let all = sym (new-all rel (entries db)) ∙ not_there rel (entries db) fit.unused in
        let behind = both (list_all differs (known_of db.relations)) (list_all differs others) (sym (all-append differs (known_of db.relations) others) ∙ all) in
        let front = both (list_all differs (map (λ v. v.info) db.views)) (list_all differs (map (λ x. x.info) db.indexes))
        (sym (all-append differs (map (λ v. v.info) db.views) (map (λ x. x.info) db.indexes)) ∙ behind.1) in
        each_true (λ v. differs v.info) db.views (sym (all-map differs (λ v. v.info) db.views) ∙ front.0)

    stay : Staying Other db later
    stay = record {
      ranges = λ key other. ranges_alike key other;
      relations = λ key other. ap is_some (sym (found_beside key new db.relations other));
      closed = λ key view other found. vars_other view (found_has (λ v. IsTrue (vars_are_there db v.query)) (λ v. same_key v.info.key key) db.views view there (viewed_is_found db key view found));
    }

    views : AllByRecursion (ViewStays Other) db.views
    views = each_from _ (ViewStays Other) db.views (both_each (λ v. IsTrue (not (same_key rel v.info.key))) _ db.views unnamed (both_each _ _ db.views there stood))
        (λ v k. record { key = is_no (same_key rel v.info.key) k.0; vars = vars_other v k.1.0; plain = query_plain db v.query k.1.1 })

    ruled : AllByRecursion (λ p. Other p.0) db.rules
    ruled = each_from _ _ db.rules (each_true (λ p. is_relation db p.0 && valid_row_qual db p.0 p.1.qual) db.rules is.rules_stand)
        (λ p t. ranged_is_other db rel p.0 nothing (relation_is_ranged db p.0 (both (is_relation db p.0) (valid_row_qual db p.0 p.1.qual) t).0))

    permitted : AllByRecursion (λ p. Other p.0) db.permits
    permitted = each_from _ _ db.permits (each_true (λ p. valid_permit db p.0 p.1) db.permits is.permits_stand)
        (λ p t. ranged_is_other db rel p.0 nothing (relation_is_ranged db p.0 (both (is_relation db p.0) _ t).0))

    based : AllByRecursion (λ x. Other x.base) db.indexes
    based = each_from _ _ db.indexes (each_true (valid_index db) db.indexes is.indexes_stand) (λ x t. ranged_is_other db rel x.base nothing (relation_is_ranged db x.base (index_based db x t)))

pub created_planned : (db : Db) (user : List ℕ) (rel : RelKey) (attrs : List Attr) (made : DbChange) → IsDatabase db → IsFitRelation db rel attrs
    → planned db user (utility.Create rel attrs) ≡ Ok made → IsLawful db made
unfolding plan_refusals plan_change
created_planned db user rel attrs made is fit e = subst (IsLawful db) (not_refused db user (utility.Create rel attrs) made e).1 (made_lawful db rel attrs [] is fit Ascends-nil refl refl)
