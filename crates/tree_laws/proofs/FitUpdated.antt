-- An update is fit once its expansions are put in, where it was fit but for views.
use Rattle.std.proofs.Common.{◌≡◌, refl, sym, ap, ◌∙◌, subst, inl, inr, ℕ, zero, suc, ◌+◌, ◌≤◌, Bool, true, false, cond, ◌&&◌, ◌||◌, List, [], ◌∷◌, ◌++◌, map, length, filter, Option, Some, None, is_some, arith}
use Rattle.std.proofs.lemmas.Bool.Decides.{nat_tests}
use Rattle.std.proofs.lemmas.List.Sums.{sum_by-cons}
use Rattle.std.specs.Prelude.{nat_le, sum_by, slice_get, ◌==◌, option_map}
use Rattle.std.specs.List.{list_all, enumerate_from}
use Rattle.calculus.specs.declared.query.RelKey.{RelKey}
use Rattle.calculus.specs.declared.query.QTerm.{QTerm}
use Rattle.calculus.specs.declared.query.Target.{Target}
use Rattle.calculus.specs.declared.query.Query.{Query}
use Rattle.calculus.specs.declared.request.Update.{Update}
use Rattle.calculus.specs.declared.request.UpdateOp.{UpdateOp}
use Rattle.calculus.specs.declared.request.UpdateOp.TheVariants as op
use Rattle.calculus.specs.Lists.{is_any}
use Rattle.calculus.specs.Limits.{most_expanded_variables}
use Rattle.calculus.specs.Kinds.{comparable, kinds_fit}
use Rattle.calculus.specs.Sizes.{measure_of, update_vars, update_expanded_variables}
use Rattle.calculus.specs.Who.{Who}
use Rattle.calculus.specs.Database.{Db, Relation, View, relation_at, view_at, is_relation}
use Rattle.calculus.specs.Catalogue.{catalogue_at}
use Rattle.calculus.specs.IsDatabase.{IsDatabase, is_kind, var_kinds}
use Rattle.calculus.specs.Stored.{Range, Kept, Viewed, range_at, kinds_at}
use Rattle.calculus.specs.Rights.{Right, Retrieve}
use Rattle.calculus.specs.QueryParts.{term_aggregates, qual_aggregates, query_aggregates, vars_of, targets_of, qual_of}
use Rattle.calculus.specs.Used.{used, used_in_query}
use Rattle.calculus.specs.Assignments.{changed, is_changed}
use Rattle.calculus_laws.proofs.Enough.{same_key-exact}
use Rattle.calculus_laws.proofs.Members.{In, Within}
use Rattle.calculus_laws.proofs.Plain.{in_targets}
use Rattle.quel_meaning.specs.KindsInQueries.{kind_in_query, kinds_fit_in_query}
use Rattle.quel_meaning.specs.FitQueries.{Allowed, is_kept, keeps_rows, kept_alone, kept_or_viewed, can_be_ranged_over, reads_fit}
use Rattle.quel_meaning.specs.Fit.{update_kinds_fit, is_this_key, relation_fits}
use Rattle.view_text.specs.declared.expansion.Expansion.{Expansion}
use Rattle.view_text.specs.Replaced.{Substitution, replaced, replaced_target}
use Rattle.view_text.specs.Scoped.{is_scoped}
use Rattle.view_text.specs.Expansions.{used_expansion, expansions_vars, substituted_from, conditions_from}
use Rattle.view_text.specs.ExpansionOf.{restriction, expansion_of}
use Rattle.view_text.specs.Expanded.{expanded_made, expanded_over, read_restriction, changed_expansion, update_expansion, update_expansions, expanded_update}
use Rattle.tree_laws.proofs.Scopes.{both_true}
use Rattle.tree_laws.proofs.Joint.{both_are, all_append}
use Rattle.tree_laws.proofs.Queries.{targets_of-put}
use Rattle.tree_laws.proofs.Values.{within_left, within_itself}
use Rattle.tree_laws.proofs.Within.{all_scoped}
use Rattle.tree_laws.proofs.Changing.{expansion_by, expansion_with, changed_within, update_named}
use Rattle.tree_laws.proofs.Beside.{own_expansion, plain_expansion}
use Rattle.tree_laws.proofs.Nests.{compared_there}
use Rattle.tree_laws.proofs.SameKinds.{HasKinds, Names}
use Rattle.tree_laws.proofs.FitExpansions.{kinds_of, all_fit, IsFitExpansion, restriction_fits, kept_fits, FitEach, put_kinds, conditions_kinds}
use Rattle.tree_laws.proofs.FitWithin.{all_count}
use Rattle.tree_laws.proofs.FitPlain.{vars_fit}
use Rattle.tree_laws.proofs.FitOver.{kept_measure, target_names, reads_put, kind_over, qual_over, kept_counts, sources_over}
use Rattle.tree_laws.proofs.FitAsked.{targets_pass}

-- ---- keys

get_in : {X : Type 0} (xs : List X) (v : ℕ) (x : X) → slice_get xs v ≡ Some x → In x xs
get_in [] zero x h = cc h
get_in [] (suc v) x h = cc h
get_in (y ∷ xs) zero x h = inl (cc h)
get_in (y ∷ xs) (suc v) x h = inr (get_in xs v x h)

abbrev ranged_by : Option Relation → Option View → Option Relation → Option Range
ranged_by r v c = elim r [
  | Some relation ↦ Some (Kept relation)
  | None ↦ elim v [ Some view ↦ Some (Viewed view) | None ↦ option_map Kept c ]
]

pub relation_kept : (db : Db) (key : RelKey) → is_relation db key ≡ true → is_kept db key ≡ true
unfolding range_at
relation_kept db key h = by (relation_at db key) h
  where
    by : (r : Option Relation) → is_some r ≡ true → keeps_rows (ranged_by r (view_at db key) (catalogue_at db key)) ≡ true
    by (Some relation) h = refl
    by None h = cc h

pub key_is : (o : Option RelKey) (rel key : RelKey) → is_this_key o rel ≡ true → o ≡ Some key → key ≡ rel
key_is None rel key h e = cc h
key_is (Some k) rel key h e = let same : k ≡ key = cc e in sym same ∙ same_key-exact k rel h

-- the changed variable ranges over what is kept
pub over_op : (db : Db) (u : Update) (o : UpdateOp) → relation_fits db (record u { op = o }) ≡ true
    → (v : ℕ) (key : RelKey) → slice_get (vars_of u.query) v ≡ Some key → is_changed (record u { op = o }) v ≡ true → is_kept db key ≡ true
over_op db u op.Append h v key there c = cc c
over_op db u op.Into h v key there c = cc c
over_op db u op.Replace h v key there c =
    let same : u.old ≡ v = grind (arith, nat_tests, c) in
    let parts = both_true (is_relation db u.rel) (is_this_key (slice_get (vars_of u.query) u.old) u.rel) h in
    ap (is_kept db) (key_is (slice_get (vars_of u.query) u.old) u.rel key parts.1 (ap (slice_get (vars_of u.query)) same ∙ there)) ∙ relation_kept db u.rel parts.0
over_op db u op.Delete h v key there c =
    let same : u.old ≡ v = grind (arith, nat_tests, c) in
    let parts = both_true (is_relation db u.rel) (is_this_key (slice_get (vars_of u.query) u.old) u.rel) h in
    ap (is_kept db) (key_is (slice_get (vars_of u.query) u.old) u.rel key parts.1 (ap (slice_get (vars_of u.query)) same ∙ there)) ∙ relation_kept db u.rel parts.0

-- ---- the expansions of an update's variables

module _ (db : Db) (d : IsDatabase db) (who : Who) where
  abbrev may : Allowed
  may = kept_or_viewed db

  read_fits : (read : List ℕ) (key : RelKey) → all_fit (kinds_at db key ∷ []) (read_restriction db who read key) ≡ true
  read_fits [] key = refl
  read_fits (a ∷ read) key = restriction_fits db d who Retrieve (a ∷ read) key

  changed_fits : (right : Right) (places read : List ℕ) (key : RelKey) → is_kept db key ≡ true → IsFitExpansion db key (changed_expansion db who right places read key)
  changed_fits right places read key kept =
      kept_fits db key (restriction db who right places key ++ read_restriction db who read key) kept (changed_within db who right places read key)
      (all_append (λ q. kinds_fit q (kinds_at db key ∷ [])) (restriction db who right places key) (read_restriction db who read key)
      ∙ both_are (all_fit (kinds_at db key ∷ []) (restriction db who right places key)) (all_fit (kinds_at db key ∷ []) (read_restriction db who read key)) (restriction_fits db d who right places key) (read_fits read key))

  -- what is known of an expansion: it ranges over what is kept, its conditions fit, and where its variable is used it fits
  record IsGood (key : RelKey) (attrs : List ℕ) (expansion : Expansion) : Type 0 where
    pub kept : list_all (is_kept db) expansion.vars ≡ true
    pub conditions : all_fit (kinds_of db expansion.vars) expansion.conditions ≡ true
    pub fits : is_any attrs ≡ true → IsFitExpansion db key expansion

  used_good : (key : RelKey) (attrs : List ℕ) → ((attrs : List ℕ) → IsFitExpansion db key (expansion_of db who key attrs)) → IsGood key attrs (used_expansion (expansion_of db who) key attrs)
  used_good key [] fits = record { kept = refl; conditions = refl; fits = λ h. cc h }
  used_good key (a ∷ attrs) fits = let one = fits (a ∷ attrs) in record { kept = one.kept; conditions = one.conditions; fits = λ h. one }

  module _ (u : Update) where
    good_by : (v : ℕ) (key : RelKey) (right : Right) (b : Bool) → (b ≡ true → is_kept db key ≡ true) → ((attrs : List ℕ) → IsFitExpansion db key (expansion_of db who key attrs))
        → IsGood key (used_in_query v u.query) (expansion_by db who u v key right b)
    good_by v key right true kept fits =
        let one = changed_fits right u.places (used_in_query v u.query) key (kept refl) in record { kept = one.kept; conditions = one.conditions; fits = λ h. one }
    good_by v key right false kept fits = used_good key (used_in_query v u.query) fits

    abbrev changed_in : ℕ → Option (ℕ × Right) → Bool
    changed_in v o = elim o [ None ↦ false | Some c ↦ c.0 == v ]

    good_with : (v : ℕ) (key : RelKey) (o : Option (ℕ × Right)) → (changed_in v o ≡ true → is_kept db key ≡ true) → ((attrs : List ℕ) → IsFitExpansion db key (expansion_of db who key attrs))
        → IsGood key (used_in_query v u.query) (expansion_with db who u v key o)
    good_with v key None kept fits = used_good key (used_in_query v u.query) fits
    good_with v key (Some c) kept fits = good_by v key c.1 (c.0 == v) kept fits

    good : (v : ℕ) (key : RelKey) → (is_changed u v ≡ true → is_kept db key ≡ true) → ((attrs : List ℕ) → IsFitExpansion db key (expansion_of db who key attrs)) → IsGood key (used_in_query v u.query) (update_expansion db who u v key)
    good v key kept fits = good_with v key (changed u) kept fits

  -- ---- an update whose parts fit

  module _ (u : Update) (reads : reads_fit may db u.query ≡ true) (over : (v : ℕ) (key : RelKey) → slice_get (vars_of u.query) v ≡ Some key → is_changed u v ≡ true → is_kept db key ≡ true) where
    abbrev q : Query
    q = u.query

    abbrev expansions : List Expansion
    expansions = update_expansions db who u

    abbrev IsUsed : ℕ → Type 0
    IsUsed v = is_any (used_in_query v u.query) ≡ true

    ranged : list_all (can_be_ranged_over db) (vars_of u.query) ≡ true
    unfolding reads_fit
    ranged = (both_true (list_all may.variable (vars_of u.query)) _ reads).0

    scoped_at : (v : ℕ) (key : RelKey) → is_scoped (update_expansion db who u v key) ≡ true
    scoped_at v key = (update_named db d who u v key).0

    good_at : (v : ℕ) (key : RelKey) → slice_get (vars_of u.query) v ≡ Some key → IsGood key (used_in_query v u.query) (update_expansion db who u v key)
    good_at v key there = good u v key (over v key there) (λ attrs. vars_fit db d who (vars_of u.query) ranged key (get_in (vars_of u.query) v key there) attrs)

    each_fits : FitEach db (update_expansion db who u) scoped_at IsUsed 0 (vars_of u.query)
    each_fits v key there is_used = let none_before : v ≡ 0 + v = omega arith in subst (λ w. IsFitExpansion db key (update_expansion db who u w key)) none_before ((good_at v key there).fits (subst IsUsed (sym none_before) is_used))

    has : HasKinds IsUsed (substituted_from 0 expansions) (kinds_of db (expansions_vars expansions)) (var_kinds db u.query)
    has v a is_used h =
        let none_before : v ≡ 0 + v = omega arith in
        put_kinds db (update_expansion db who u) scoped_at IsUsed (vars_of u.query) 0 0 [] refl each_fits v a (subst IsUsed none_before is_used) h

    conditions : all_fit (kinds_of db (expansions_vars expansions)) (conditions_from 0 expansions) ≡ true
    conditions =
        conditions_kinds db (update_expansion db who u) scoped_at IsUsed (vars_of u.query) 0 0 [] refl
        (λ v key there. let none_before : v ≡ 0 + v = omega arith in
        subst (λ w. all_fit (kinds_of db (update_expansion db who u w key).vars) (update_expansion db who u w key).conditions ≡ true) none_before (good_at v key there).conditions)

    each_kept : (k : ℕ) (keys : List RelKey) → ((v : ℕ) (key : RelKey) → slice_get keys v ≡ Some key → list_all (is_kept db) (update_expansion db who u (k + v) key).vars ≡ true)
        → list_all (is_kept db) (expansions_vars (map (λ p. update_expansion db who u p.0 p.1) (enumerate_from k keys))) ≡ true
    each_kept k [] h = refl
    each_kept k (key ∷ keys) h =
        let same : k + 0 ≡ k = omega arith in
        all_append (is_kept db) (update_expansion db who u k key).vars (expansions_vars (map (λ p. update_expansion db who u p.0 p.1) (enumerate_from (k + 1) keys)))
        ∙ both_are (list_all (is_kept db) (update_expansion db who u k key).vars) (list_all (is_kept db) (expansions_vars (map (λ p. update_expansion db who u p.0 p.1) (enumerate_from (k + 1) keys))))
        (subst (λ w. list_all (is_kept db) (update_expansion db who u w key).vars ≡ true) same (h 0 key refl))
        (each_kept (k + 1) keys (λ v other there. subst (λ w. list_all (is_kept db) (update_expansion db who u w other).vars ≡ true) (further v) (h (suc v) other there)))
      where
        further : (v : ℕ) → k + suc v ≡ k + 1 + v
        further v = omega arith

    kept : list_all (is_kept db) (expansions_vars expansions) ≡ true
    kept = each_kept 0 (vars_of u.query) (λ v key there. let none_before : v ≡ 0 + v = omega arith in subst (λ w. list_all (is_kept db) (update_expansion db who u w key).vars ≡ true) none_before (good_at v key there).kept)

    all_scoped_at : (k : ℕ) (keys : List RelKey) → all_scoped (map (λ p. update_expansion db who u p.0 p.1) (enumerate_from k keys)) ≡ true
    all_scoped_at k [] = refl
    all_scoped_at k (key ∷ keys) = λ i. scoped_at k key i && all_scoped_at (k + 1) keys i

    scoped : all_scoped expansions ≡ true
    scoped = all_scoped_at 0 (vars_of u.query)

    used_itself : (v : ℕ) → is_any (used_in_query v u.query) ≡ true → IsUsed v
    used_itself v h = h

    -- ---- kinds

    target_put : (t : Target) → Within (term_aggregates t.term) (query_aggregates u.query) → Names IsUsed (λ v. used v t.term) → comparable (kind_in_query db t.term (var_kinds db u.query)) (Some t.kind) ≡ true
        → comparable (kind_in_query db (replaced (expanded_made db who (substituted_from 0 expansions)) (substituted_from 0 expansions) t.term) (kinds_of db (expansions_vars expansions))) (Some t.kind) ≡ true
    target_put t w names h =
        ap (λ o. comparable o (Some t.kind))
        (kind_over db d who u.query expansions IsUsed used_itself has scoped kept conditions reads t.term w names (compared_there (kind_in_query db t.term (var_kinds db u.query)) (Some t.kind) h).0) ∙ h

    kinds_itself : (ts : List Target) (made : QTerm → QTerm) (put : Substitution) → list_all (λ t. is_kind t.kind) (map (replaced_target made put) ts) ≡ list_all (λ t. is_kind t.kind) ts
    kinds_itself [] made put = refl
    kinds_itself (t ∷ ts) made put = ap (λ b. is_kind t.kind && b) (kinds_itself ts made put)

    pub kinds_put : update_kinds_fit db u.query ≡ true → update_kinds_fit db (expanded_over db who expansions u.query) ≡ true
    kinds_put h =
        let one = both_true (list_all (λ t. is_kind t.kind) (targets_of u.query)) _ h in
        let two = both_true (list_all (λ t. comparable (kind_in_query db t.term (var_kinds db u.query)) (Some t.kind)) (targets_of u.query)) (kinds_fit_in_query db (qual_of u.query) (var_kinds db u.query)) one.1 in
        let made = expanded_made db who (substituted_from 0 expansions) in
        both_are (list_all (λ t. is_kind t.kind) (targets_of (expanded_over db who expansions u.query))) _
        (ap (list_all (λ t. is_kind t.kind)) (targets_of-put made expansions u.query) ∙ kinds_itself (targets_of u.query) made (substituted_from 0 expansions) ∙ one.0)
        (both_are (list_all (λ t. comparable (kind_in_query db t.term (kinds_of db (expansions_vars expansions))) (Some t.kind)) (targets_of (expanded_over db who expansions u.query)))
        (kinds_fit_in_query db (qual_of (expanded_over db who expansions u.query)) (kinds_of db (expansions_vars expansions)))
        (ap (list_all (λ t. comparable (kind_in_query db t.term (kinds_of db (expansions_vars expansions))) (Some t.kind))) (targets_of-put made expansions u.query)
        ∙ targets_pass IsUsed (query_aggregates u.query) (λ t. comparable (kind_in_query db t.term (var_kinds db u.query)) (Some t.kind)) (replaced_target made (substituted_from 0 expansions))
        (λ t. comparable (kind_in_query db t.term (kinds_of db (expansions_vars expansions))) (Some t.kind)) target_put (targets_of u.query)
        (within_left (in_targets (targets_of u.query)) (qual_aggregates (qual_of u.query)) (query_aggregates u.query) (within_itself (query_aggregates u.query)))
        (target_names db d who u.query expansions IsUsed used_itself has scoped kept conditions reads) two.0)
        (qual_over db d who u.query expansions IsUsed used_itself has scoped kept conditions reads two.1))

    -- ---- numbers of variables

    length_behind : {X : Type 0} (xs ys : List X) → length (xs ++ ys) ≡ length xs + length ys
    length_behind [] ys = omega arith
    length_behind (x ∷ xs) ys = let more = length_behind xs ys in omega (arith, more)

    -- the variable counts for no less than its expansion has, where it counts, and has none where it doesn't
    one_counts : (v : ℕ) (key : RelKey) → (is_changed u v ≡ true → is_kept db key ≡ true) → (b : Bool) → (is_any (used_in_query v u.query) || is_changed u v) ≡ b
        → length (update_expansion db who u v key).vars ≤ cond b (measure_of db key).variables 0
    one_counts v key changes b e = by (is_changed u v) refl b e
      where
        used_counts : (attrs : List ℕ) (b : Bool) → (is_any attrs || false) ≡ b → length (used_expansion (expansion_of db who) key attrs).vars ≤ cond b (measure_of db key).variables 0
        used_counts [] true e = cc e
        used_counts [] false e = let none : 0 ≤ 0 = omega arith in none
        used_counts (a ∷ attrs) true e = all_count db who key (a ∷ attrs)
        used_counts (a ∷ attrs) false e = cc e

        own_counts : (c b : Bool) → (c || true) ≡ b → length (update_expansion db who u v key).vars ≡ 1 → (measure_of db key).variables ≡ 1 → length (update_expansion db who u v key).vars ≤ cond b (measure_of db key).variables 0
        own_counts true true e one other = omega (arith, one, other)
        own_counts false true e one other = omega (arith, one, other)
        own_counts true false e one other = cc e
        own_counts false false e one other = cc e

        by : (c : Bool) → is_changed u v ≡ c → (b : Bool) → (is_any (used_in_query v u.query) || is_changed u v) ≡ b → length (update_expansion db who u v key).vars ≤ cond b (measure_of db key).variables 0
        by true is b e = own_counts (is_any (used_in_query v u.query)) b (ap (λ c. is_any (used_in_query v u.query) || c) (sym is) ∙ e) (ap length (own_expansion db who u v key is).0) (kept_measure db key (changes is))
        by false is b e =
            subst (λ expansion. length expansion.vars ≤ cond b (measure_of db key).variables 0) (sym (plain_expansion db who u v key is))
            (used_counts (used_in_query v u.query) b (ap (λ c. is_any (used_in_query v u.query) || c) (sym is) ∙ e))

    all_counts : (k : ℕ) (keys : List RelKey) → ((v : ℕ) (key : RelKey) → slice_get keys v ≡ Some key → is_changed u (k + v) ≡ true → is_kept db key ≡ true)
        → length (expansions_vars (map (λ p. update_expansion db who u p.0 p.1) (enumerate_from k keys)))
        ≤ sum_by {X = ℕ × RelKey} (λ p. (measure_of db p.1).variables) (filter (λ p. is_any (used_in_query p.0 u.query) || is_changed u p.0) (enumerate_from k keys))
    all_counts k [] h = let none : 0 ≤ 0 = omega arith in none
    all_counts k (key ∷ keys) h =
        let same : k ≡ k + 0 = omega arith in
        by (is_any (used_in_query k u.query) || is_changed u k) (one_counts k key (λ e. h 0 key refl (ap (is_changed u) (sym same) ∙ e)) (is_any (used_in_query k u.query) || is_changed u k) refl)
        (all_counts (k + 1) keys (λ v other there e. h (suc v) other there (ap (is_changed u) (further v) ∙ e)))
      where
        further : (v : ℕ) → k + suc v ≡ k + 1 + v
        further v = omega arith

        rest : List Expansion
        rest = map (λ p. update_expansion db who u p.0 p.1) (enumerate_from (k + 1) keys)

        more : List (ℕ × RelKey)
        more = filter (λ p. is_any (used_in_query p.0 u.query) || is_changed u p.0) (enumerate_from (k + 1) keys)

        by : (b : Bool) → length (update_expansion db who u k key).vars ≤ cond b (measure_of db key).variables 0 → length (expansions_vars rest) ≤ sum_by {X = ℕ × RelKey} (λ p. (measure_of db p.1).variables) more
            → length ((update_expansion db who u k key).vars ++ expansions_vars rest) ≤ sum_by {X = ℕ × RelKey} (λ p. (measure_of db p.1).variables) (cond b ((k, key) ∷ more) more)
        by true one less =
            let long = length_behind (update_expansion db who u k key).vars (expansions_vars rest) in
            let sum : sum_by {X = ℕ × RelKey} (λ p. (measure_of db p.1).variables) ((k, key) ∷ more) ≡ (measure_of db key).variables + sum_by {X = ℕ × RelKey} (λ p. (measure_of db p.1).variables) more =
            sum_by-cons {X = ℕ × RelKey} (λ p. (measure_of db p.1).variables) (k, key) more in
            let fits : length (update_expansion db who u k key).vars + length (expansions_vars rest) ≤ (measure_of db key).variables + sum_by {X = ℕ × RelKey} (λ p. (measure_of db p.1).variables) more = omega (arith, one, less) in
            subst (λ n. n ≤ sum_by {X = ℕ × RelKey} (λ p. (measure_of db p.1).variables) ((k, key) ∷ more)) (sym long)
            (subst (λ m. length (update_expansion db who u k key).vars + length (expansions_vars rest) ≤ m) (sym sum) fits)
        by false one less = let long = length_behind (update_expansion db who u k key).vars (expansions_vars rest) in omega (arith, one, less, long)

    counted : length (expansions_vars expansions) ≤ sum_by {X = ℕ × RelKey} (λ p. (measure_of db p.1).variables) (update_vars u)
    counted = all_counts 0 (vars_of u.query) (λ v key there e. let none_before : 0 + v ≡ v = omega arith in over v key there (ap (is_changed u) (sym none_before) ∙ e))

    pub expanded_put : nat_le (update_expanded_variables db u) most_expanded_variables ≡ true → nat_le (update_expanded_variables db (expanded_update db who u)) most_expanded_variables ≡ true
    unfolding update_expanded_variables expanded_update
    expanded_put h =
        let own = kept_counts db (λ p. is_any (used_in_query p.0 (expanded_over db who expansions u.query)) || is_changed (expanded_update db who u) p.0) 0 (expansions_vars expansions) kept in
        let sources = sources_over db d who u.query expansions IsUsed used_itself has scoped kept conditions reads in
        let listed = counted in
        grind (arith, nat_tests, h, own, sources, listed)

    few : nat_le (update_expanded_variables db u) most_expanded_variables ≡ true → length (expansions_vars expansions) ≤ most_expanded_variables
    unfolding update_expanded_variables
    few h = let listed = counted in grind (arith, nat_tests, h, listed)

    pub reads_update : nat_le (update_expanded_variables db u) most_expanded_variables ≡ true → reads_fit (kept_alone db) db (expanded_update db who u).query ≡ true
    unfolding expanded_update
    reads_update less = reads_put db d who u.query expansions IsUsed used_itself has scoped kept conditions reads (few less)
