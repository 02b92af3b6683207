-- A view that is made may be made.
use Rattle.std.proofs.Common.{◌≡◌, refl, sym, ap, ◌∙◌, subst, ℕ, zero, suc, ◌+◌, nat_le, nat_lt, Bool, true, false, ◌&&◌, ◌||◌, not, IsTrue, List, [], ◌∷◌, ◌++◌, Some, None, map, length, arith}
use Rattle.std.specs.Prelude.{◌↔◌, is_some, sum, sum_by}
use Rattle.std.specs.List.{list_all, AllByRecursion}
use Rattle.std.specs.Ordering.{is_eq}
use Rattle.std.proofs.lemmas.Bool.Decides.{nat_tests}
use Rattle.std.proofs.lemmas.List.{length-map, length-append}
use Rattle.calculus.specs.declared.query.RelKey.{RelKey}
use Rattle.calculus.specs.declared.query.QAgg.{QAgg}
use Rattle.calculus.specs.declared.query.Query.{Query}
use Rattle.calculus.specs.declared.schema.RelInfo.{RelInfo}
use Rattle.calculus.specs.declared.change.DbChange.TheVariants as change
use Rattle.calculus.specs.Keys.{same_key, has_key}
use Rattle.calculus.specs.Limits.{most_entries, most_expanded_variables, most_variables, greatest_size}
use Rattle.calculus.specs.Database.{Db, View, entries, is_there}
use Rattle.calculus.specs.Stored.{Viewed, range_at, kinds_at}
use Rattle.calculus.specs.QueryParts.{vars_of, targets_of, query_aggregates}
use Rattle.calculus.specs.Sizes.{Measure, level_above, range_level, level_within, level_of, query_level, query_measure, measure_of, variables, expanded_variables, query_size, source_variables}
use Rattle.calculus.specs.Storable.{query_is_storable}
use Rattle.calculus.specs.IsDatabase.{IsDatabase, key_is_named, valid_view_info, attrs_stand, attrs_are_targets, vars_are_there, valid_query}
use Rattle.calculus.specs.Change.{laid, adds_what_is_new, IsLawful}
use Rattle.quel_meaning.specs.Passing.{is_full, is_too_high}
use Rattle.quel_meaning.specs.Planned.{view_info}
use Rattle.change_laws.specs.Fit.{key_is_free, view_is_small, view_is_fit}
use Rattle.plan_laws.specs.Fitting.{IsFitView}
use Rattle.plan_laws.proofs.ViewMade.{viewed, ranges_over_it, view_lawful}
use Rattle.plan_laws.proofs.Kept.{both, each}
use Rattle.plan_laws.proofs.Orders.{same_key_is}
use Rattle.plan_laws.proofs.Indexes.{is_no, all-map}
use Rattle.plan_laws.proofs.Created.{each_true, nothing_ranges}
use Rattle.plan_laws.proofs.Changed.{each_maps}
use Rattle.plan_laws.proofs.NewIndexes.{new-all, all-append, not_there}
use Rattle.plan_laws.proofs.PlainQueries.{query_plain}
use Rattle.plan_laws.proofs.Staying.{Staying, map_same, all_same, level_stays, query_stays, kinds_stay, there_stays}
use Rattle.plan_laws.proofs.StayingFacts.{stands_with}
use Rattle.plan_laws.proofs.BesideViews.{by_view, views_known}
use Rattle.plan_laws.proofs.Tests.{has_room, not_full}
use Rattle.change_laws.proofs.Inserted.{insert_passes, length_insert, never_equal}
use Rattle.plan_laws.proofs.Levels.{there_below, below_the_greatest, not_too_high}
use Rattle.change_laws.proofs.ViewMade.{view_known, staying}

-- ---- a view with a level doesn't name itself

-- what each of some keys passes, one of them passes
one_passes : (test : RelKey → Bool) (key : RelKey) (keys : List RelKey) → has_key keys key ≡ true → IsTrue (list_all test keys) → test key ≡ true
one_passes test key [] h t = cc h
one_passes test key (k ∷ keys) h t = go (same_key key k) refl h (both (test k) (list_all test keys) t) (one_passes test key keys)
  where
    go : (b : Bool) → same_key key k ≡ b → (b || has_key keys key) ≡ true → IsTrue (test k) × IsTrue (list_all test keys)
        → (has_key keys key ≡ true → IsTrue (list_all test keys) → test key ≡ true) → test key ≡ true
    go true e h parts later = ap test (same_key_is key k e) ∙ parts.0
    go false e h parts later = later h parts.1

not_above_itself : (db : Db) (rel : RelKey) (view : View) → range_at db rel ≡ Some (Viewed view) → has_key (vars_of view.query) rel ≡ true → (n : ℕ) → is_some (level_within n db rel) ≡ true → ⊥
not_above_itself db rel view range own zero there =
    let none : false ≡ true = sym (ap (λ r. is_some (range_level (λ view. None) r)) range) ∙ there in
    cc none
not_above_itself db rel view range own (suc n) there =
    let above : is_some (level_above (map (level_within n db) (vars_of view.query))) ≡ true =
    sym (ap (λ r. is_some (range_level (λ view. level_above (map (level_within n db) (vars_of view.query))) r)) range) ∙ there in
    not_above_itself db rel view range own n (one_passes (λ key. is_some (level_within n db key)) rel (vars_of view.query) own (there_below (level_within n db) (vars_of view.query) above))

none_is_it : (rel : RelKey) (keys : List RelKey) → has_key keys rel ≡ false → AllByRecursion (λ key. same_key rel key ≡ false) keys
none_is_it rel [] h = tt
none_is_it rel (key ∷ keys) h = go (same_key rel key) refl h (none_is_it rel keys)
  where
    go : (b : Bool) → same_key rel key ≡ b → (b || has_key keys rel) ≡ false → (has_key keys rel ≡ false → AllByRecursion (λ key. same_key rel key ≡ false) keys)
        → (same_key rel key ≡ false) × AllByRecursion (λ key. same_key rel key ≡ false) keys
    go true e h later = cc h
    go false e h later = (e, later h)

-- what the view names is below the greatest level and has another key
below_it : (db : Db) (rel : RelKey) (view : View) → range_at db rel ≡ Some (Viewed view) → is_some (level_of db rel) ≡ true
    → IsTrue (list_all (λ key. is_some (level_within 15 db key)) (vars_of view.query)) × AllByRecursion (λ key. same_key rel key ≡ false) (vars_of view.query)
unfolding level_of
below_it db rel view range there = (there_below (level_within 15 db) (vars_of view.query) above, none_is_it rel (vars_of view.query) (go (has_key (vars_of view.query) rel) refl))
  where
    above : is_some (level_above (map (level_within 15 db) (vars_of view.query))) ≡ true
    above = sym (ap (λ r. is_some (range_level (λ view. level_above (map (level_within 15 db) (vars_of view.query))) r)) range) ∙ there

    go : (b : Bool) → has_key (vars_of view.query) rel ≡ b → b ≡ false
    go true e = absurd (not_above_itself db rel view range e 16 there)
    go false e = refl

-- ---- the test

-- what must hold of a view: it is kept as one, its attributes are the targets of its query, and a view of that fits
record ViewFacts (db : Db) (info : RelInfo) (q : Query) : Type 0 where
  kept : IsTrue (valid_view_info info)
  targets : IsTrue (attrs_are_targets info.attrs (targets_of q))
  fit : IsFitView db info.key q

-- it holds where the view is lawful
lawful_view : (db : Db) (info : RelInfo) (q : Query) → IsDatabase db → IsLawful db (change.View info q) → ViewFacts db info q
unfolding laid adds_what_is_new query_size expanded_variables
lawful_view db info q is l = record {
  kept = kept;
  targets = targets;
  fit = record {
    named = named;
    unused = unused;
    room = less (length (entries later)) (length (entries db)) more after.few_entries;
    attributes = subst (λ i. IsTrue (attrs_stand i.attrs)) (sym known) (its (λ v. attrs_stand v.info.attrs) after.view_attrs_stand);
    vars = all_same Other (λ key. is_some (range_at db key)) (λ key. is_some (range_at later key)) (vars_of q) own_vars (λ key p. there_stays Other db later stay key p)
        ∙ its (λ v. vars_are_there later v.query) after.views_name_what_is_there;
    levels = all_same Other (λ key. is_some (level_within 15 db key)) (λ key. is_some (level_within 15 later key)) (vars_of q) own_vars (λ key p. ap is_some (level_stays Other db later stay 15 key p)) ∙ below.0;
    stands = stands;
    few_listed = its (λ v. nat_le (length (vars_of v.query)) most_expanded_variables) after.few_listed_variables;
    few = its (λ v. nat_le (variables v.query) most_variables) after.few_variables;
    few_expanded = ap (λ n. nat_le n most_expanded_variables) expansion ∙ its (λ v. nat_le (expanded_variables later v.query) most_expanded_variables) after.few_expanded_variables;
    small = ap (λ (m : Measure). nat_le (sum m.attrs + m.qual) greatest_size) (query_stays Other db later stay q own_vars) ∙ its (λ v. nat_le (query_size later v.query) greatest_size) after.small_views;
    storable = its (λ v. query_is_storable v.query) after.storable_views;
  };
}
  where
    new : View
    new = record { info = info; query = q }

    later : Db
    later = viewed db new

    after : IsDatabase later
    after = l.leaves_a_database

    Other : RelKey → Type 0
    Other key = same_key info.key key ≡ false

    relations : List RelInfo
    relations = map (λ r. r.info) db.relations

    indexes : List RelInfo
    indexes = map (λ x. x.info) db.indexes

    its : (test : View → Bool) → IsTrue (list_all test later.views) → IsTrue (test new)
    its test = insert_passes by_view test new db.views

    middle : (test : RelInfo → Bool) (vs : List RelInfo) → IsTrue (list_all test (relations ++ (vs ++ indexes))) → IsTrue (list_all test vs)
    middle test vs t =
        let rest = both (list_all test relations) (list_all test (vs ++ indexes)) (sym (all-append test relations (vs ++ indexes)) ∙ t) in
        (both (list_all test vs) (list_all test indexes) (sym (all-append test vs indexes) ∙ rest.1)).0

    kept : IsTrue (valid_view_info info)
    kept = its (λ v. valid_view_info v.info) after.view_infos_stand

    targets : IsTrue (attrs_are_targets info.attrs (targets_of q))
    targets = its (λ v. attrs_are_targets v.info.attrs (targets_of v.query)) after.view_attrs_are_targets

    known : view_info info.key q ≡ info
    known = view_known info q kept targets

    named : IsTrue (key_is_named info.key)
    named = its (λ v. key_is_named v.info.key) (sym (all-map (λ i. key_is_named i.key) (λ v. v.info) later.views) ∙ middle (λ i. key_is_named i.key) (views_known later.views) after.keys_are_named)

    unused : is_there db info.key ≡ false
    unused = is_no (is_there db info.key) l.additions_are_new

    nothing : range_at db info.key ≡ None
    nothing = nothing_ranges db info.key named unused

    stay : Staying Other db later
    stay = staying db new is nothing

    below : IsTrue (list_all (λ key. is_some (level_within 15 later key)) (vars_of q)) × AllByRecursion Other (vars_of q)
    below = below_it later info.key new (ranges_over_it db new unused) (its (λ v. is_some (level_of later v.info.key)) after.views_have_levels)

    own_vars : AllByRecursion Other (vars_of q)
    own_vars = below.1

    stands : IsTrue (valid_query db q)
    stands = ap (λ kinds. stands_with kinds q) (map_same Other (kinds_at db) (kinds_at later) (vars_of q) own_vars (λ key p. kinds_stay Other db later stay key p))
        ∙ its (λ v. valid_query later v.query) after.view_queries_stand

    with : Db → Measure → List QAgg → ℕ
    with d m gs = m.variables + sum_by (λ g. source_variables (measure_of d) g.source) gs

    expansion : with db (query_measure (measure_of db) q) (query_aggregates q) ≡ with later (query_measure (measure_of later) q) (query_aggregates q)
    expansion =
        let plain = query_plain db q stands in
        ap (with db (query_measure (measure_of db) q)) plain ∙ ap (λ (m : Measure). m.variables + 0) (query_stays Other db later stay q own_vars) ∙ sym (ap (with later (query_measure (measure_of later) q)) plain)

    unlike : AllByRecursion (λ v. is_eq (by_view new v) ≡ false) db.views
    unlike =
        let other : RelInfo → Bool = λ i. not (same_key info.key i.key) in
        let all = sym (new-all info.key (entries db)) ∙ not_there info.key (entries db) unused in
        each_maps _ _ db.views (each_true (λ v. not (same_key info.key v.info.key)) db.views (sym (all-map other (λ v. v.info) db.views) ∙ middle other (views_known db.views) all))
        (λ v t. never_equal info.key v.info.key (is_no (same_key info.key v.info.key) t))

    number : (vs : List RelInfo) → length (relations ++ (vs ++ indexes)) ≡ length relations + (length vs + length indexes)
    number vs =
        let front = length-append relations (vs ++ indexes) in
        let rest = length-append vs indexes in
        omega (arith, front, rest)

    more : length (entries later) ≡ suc (length (entries db))
    more =
        let all_later = number (views_known later.views) in
        let all_before = number (views_known db.views) in
        let one = length_insert by_view new db.views unlike in
        let later_known = length-map later.views (λ v. v.info) in
        let before_known = length-map db.views (λ v. v.info) in
        omega (arith, all_later, all_before, one, later_known, before_known)

    less : (m n : ℕ) → m ≡ suc n → IsTrue (nat_le m most_entries) → IsTrue (nat_lt n most_entries)
    less m n e t = grind (arith, nat_tests, e, t)

pub view_fits_exactly : (db : Db) (info : RelInfo) (q : Query) → IsDatabase db → (view_is_fit db info q ≡ true) ↔ IsLawful db (change.View info q)
unfolding view_is_fit view_is_small key_is_free
view_fits_exactly db info q is = (to, from)
  where
    to : view_is_fit db info q ≡ true → IsLawful db (change.View info q)
    to t =
        let free = both (key_is_free db info.key) _ t in
        let named = both (key_is_named info.key) (not (is_there db info.key) && not (is_full db)) free.0 in
        let unused = both (not (is_there db info.key)) (not (is_full db)) named.1 in
        let kept = both (valid_view_info info) _ free.1 in
        let attributes = both (attrs_stand info.attrs) _ kept.1 in
        let targets = both (attrs_are_targets info.attrs (targets_of q)) _ attributes.1 in
        let vars = both (vars_are_there db q) _ targets.1 in
        let level = both (not (is_too_high (query_level db q))) _ vars.1 in
        let stands = both (valid_query db q) (view_is_small db q) level.1 in
        let listed = both (nat_le (length (vars_of q)) most_expanded_variables) _ stands.1 in
        let few = both (nat_le (variables q) most_variables) _ listed.1 in
        let expanded = both (nat_le (expanded_variables db q) most_expanded_variables) _ few.1 in
        let small = both (nat_le (query_size db q) greatest_size) (query_is_storable q) expanded.1 in
        let known = view_known info q kept.0 targets.0 in
        subst (λ i. IsLawful db (change.View i q)) known (view_lawful db info.key q is (record {
          named = named.0;
          unused = is_no (is_there db info.key) unused.0;
          room = has_room db unused.1;
          attributes = subst (λ i. IsTrue (attrs_stand i.attrs)) (sym known) attributes.0;
          vars = vars.0;
          levels = below_the_greatest db q level.0;
          stands = stands.0;
          few_listed = listed.0;
          few = few.0;
          few_expanded = expanded.0;
          small = small.0;
          storable = small.1;
        }))

    from : IsLawful db (change.View info q) → view_is_fit db info q ≡ true
    from l =
        let facts = lawful_view db info q is l in
        let fit = facts.fit in
        let attributes : IsTrue (attrs_stand info.attrs) = subst (λ i. IsTrue (attrs_stand i.attrs)) (view_known info q facts.kept facts.targets) fit.attributes in
        each _ _ (each _ _ fit.named (each _ _ (ap not fit.unused) (not_full db fit.room))) (each _ _ facts.kept (each _ _ attributes (each _ _ facts.targets (each _ _ fit.vars
        (each _ _ (not_too_high db q fit.levels) (each _ _ fit.stands (each _ _ fit.few_listed (each _ _ fit.few (each _ _ fit.few_expanded (each _ _ fit.small fit.storable))))))))))
