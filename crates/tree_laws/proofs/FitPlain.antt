-- A query without aggregates stands with its expansions substituted, over base relations and catalogues alone.
use Rattle.std.proofs.Common.{◌≡◌, refl, sym, ap, ◌∙◌, subst, ℕ, suc, ◌+◌, ◌≤◌, ◌-◌, Bool, true, false, cond, ◌&&◌, List, [], ◌∷◌, map, length, filter, Option, Some, None, is_some, arith}
use Rattle.std.proofs.lemmas.Bool.Decides.{nat_tests}
use Rattle.std.proofs.lemmas.List.Sums.{sum_by-cons}
use Rattle.std.specs.Prelude.{sum_by, nat_le, flat_map, option_map}
use Rattle.std.specs.List.{list_all, enumerate_from}
use Rattle.calculus.specs.declared.value.Kind.{Kind}
use Rattle.calculus.specs.declared.query.RelKey.{RelKey}
use Rattle.calculus.specs.declared.query.QTerm.{QTerm}
use Rattle.calculus.specs.declared.query.QQual.{QQual, True}
use Rattle.calculus.specs.declared.query.Target.{Target}
use Rattle.calculus.specs.declared.query.Query.{Query}
use Rattle.calculus.specs.declared.query.AggSource.{AggSource, Named}
use Rattle.calculus.specs.Tree.{both, rows_of_query}
use Rattle.calculus.specs.Keys.{same_key}
use Rattle.calculus.specs.Lists.{is_any}
use Rattle.calculus.specs.Limits.{greatest_level, most_attributes}
use Rattle.calculus.specs.Kinds.{kind_of, kinds_fit}
use Rattle.calculus.specs.Sizes.{query_measure, measure_within, measure_of, level_within, level_of}
use Rattle.calculus.specs.Who.{Who}
use Rattle.calculus.specs.Database.{Db, View}
use Rattle.calculus.specs.IsDatabase.{IsDatabase, has_kind, same_kind, attrs_stand, attrs_are_targets, var_kinds, valid_query}
use Rattle.calculus.specs.Stored.{Range, Kept, Viewed, range_info, range_at, info_at}
use Rattle.calculus.specs.QueryParts.{vars_of, targets_of, qual_of}
use Rattle.calculus.specs.Used.{used, used_in_query}
use Rattle.calculus_laws.proofs.Enough.{all_there}
use Rattle.calculus_laws.proofs.Members.{In}
use Rattle.calculus_laws.proofs.SameRows.{all_at}
use Rattle.calculus_laws.proofs.Through.{said_at, level_said}
use Rattle.calculus_laws.proofs.ViewAnswer.{found}
use Rattle.quel_meaning.specs.FitQueries.{Allowed, is_kept, keeps_rows, kept_alone, kept_or_viewed, can_be_ranged_over, has_few_targets, source_fits}
use Rattle.view_text.specs.declared.expansion.Expansion.{Expansion}
use Rattle.view_text.specs.Replaced.{Substitution, replaced, replaced_in_qual, replaced_target, no_aggregate}
use Rattle.view_text.specs.Halves.{all_of}
use Rattle.view_text.specs.Scoped.{is_scoped}
use Rattle.view_text.specs.Expansions.{ExpansionSource, used_expansion, query_expansions, expansions_vars, substituted_from, conditions_from}
use Rattle.view_text.specs.ExpansionOf.{expansion_within, expansion_of}
use Rattle.view_text.specs.Expanded.{substituted_query, expanded_plain, expanded_range, expanded_source}
use Rattle.tree_laws.proofs.Halves.{test_joined, over, and_assoc, and_right}
use Rattle.tree_laws.proofs.Scopes.{both_true}
use Rattle.tree_laws.proofs.Joint.{both_are}
use Rattle.tree_laws.proofs.Queries.{targets_of-put}
use Rattle.tree_laws.proofs.Sound.{viewed}
use Rattle.tree_laws.proofs.Denoted.{all_denoted, within_denoted}
use Rattle.tree_laws.proofs.SameKinds.{VarKinds, Names, fit_replaced}
use Rattle.tree_laws.proofs.FitExpansions.{kinds_of, all_fit, IsFitExpansion}
use Rattle.tree_laws.proofs.FitViews.{IsUsed, targets_names, qual_names, target_kind, first_names, later_names, query_has, query_conditions, query_kept}
use Rattle.tree_laws.proofs.FitWithin.{all_in, fits_within, fits_of, has_level, measure_said, query_counts, within_counts, all_count, used_scoped}
use Rattle.tree_laws.proofs.Aggregated.{kinds_are, kind_is}

-- ---- what is joined

pub all_of_fit : (vars : VarKinds) (qs : List QQual) → kinds_fit (all_of qs) vars ≡ all_fit vars qs
unfolding kinds_fit
all_of_fit vars qs = test_joined both True (λ q. kinds_fit q vars) (λ a b. a && b) true (λ p q. refl) refl and_assoc and_right (length qs) qs ∙ is qs
  where
    is : (qs : List QQual) → over both True (λ q. kinds_fit q vars) (λ a b. a && b) true (λ p q. refl) refl and_assoc and_right qs ≡ all_fit vars qs
    is [] = refl
    is (q ∷ qs) = ap (λ b. kinds_fit q vars && b) (is qs)

-- ---- targets

pub targets_long : (made : QTerm → QTerm) (put : Substitution) (ts : List Target) → length (map (replaced_target made put) ts) ≡ length ts
targets_long made put [] = refl
targets_long made put (t ∷ ts) = ap suc (targets_long made put ts)

pub few_targets : (made : QTerm → QTerm) (expansions : List Expansion) (q : Query) → has_few_targets q ≡ true → has_few_targets (substituted_query made expansions q) ≡ true
few_targets made expansions q h = ap (λ n. nat_le n most_attributes) (ap length (targets_of-put made expansions q) ∙ targets_long made (substituted_from 0 expansions) (targets_of q)) ∙ h

kind_itself : (kind : Kind) (o : Option Kind) → o ≡ Some kind → (other : Option Kind) → has_kind other kind ≡ true → other ≡ o → has_kind o kind ≡ true
kind_itself kind o e other h same = ap (λ o. has_kind o kind) (sym same) ∙ h

-- ---- a query over texts that fit

module _ (db : Db) (source : ExpansionSource) (scoped : (key : RelKey) (attrs : List ℕ) → is_scoped (used_expansion source key attrs) ≡ true) (q : Query)
    (fit : (key : RelKey) → In key (vars_of q) → (attrs : List ℕ) → IsFitExpansion db key (source key attrs)) (stands : valid_query db q ≡ true) where
  abbrev new : VarKinds
  new = kinds_of db (expansions_vars (query_expansions source q))

  targets_stand : (ts : List Target) → Names (IsUsed q) (λ v. flat_map (λ t. used v t.term) ts) → list_all (λ t. has_kind (kind_of t.term (var_kinds db q)) t.kind) ts ≡ true
      → list_all (λ t. has_kind (kind_of t.term new) t.kind) (map (replaced_target no_aggregate (substituted_from 0 (query_expansions source q))) ts) ≡ true
  targets_stand [] names h = refl
  targets_stand (t ∷ ts) names h =
      let parts = both_true (has_kind (kind_of t.term (var_kinds db q)) t.kind) (list_all (λ t. has_kind (kind_of t.term (var_kinds db q)) t.kind) ts) h in
      let put = substituted_from 0 (query_expansions source q) in
      let is = target_kind (IsUsed q) put new (var_kinds db q) (query_has db source scoped q fit) t (first_names (IsUsed q) put new (var_kinds db q) (query_has db source scoped q fit) t ts names) parts.0 in
      both_are (has_kind (kind_of (replaced no_aggregate put t.term) new) t.kind) (list_all (λ t. has_kind (kind_of t.term new) t.kind) (map (replaced_target no_aggregate put) ts))
      (ap (λ o. has_kind o t.kind) is ∙ same_itself (kind_of t.term (var_kinds db q)) t.kind parts.0)
      (targets_stand ts (later_names (IsUsed q) put new (var_kinds db q) (query_has db source scoped q fit) t ts names) parts.1)
    where
      same_itself : (o : Option Kind) (kind : Kind) → has_kind o kind ≡ true → has_kind (Some kind) kind ≡ true
      same_itself None kind h = cc h
      same_itself (Some k) kind h = let same = kind_is k kind h in ap (λ j. same_kind j kind) (sym same) ∙ h

  pub plain_stands : valid_query db (expanded_plain source q) ≡ true
  plain_stands =
      let put = substituted_from 0 (query_expansions source q) in
      let parts = both_true (list_all (λ t. has_kind (kind_of t.term (var_kinds db q)) t.kind) (targets_of q)) (kinds_fit (qual_of q) (var_kinds db q)) stands in
      both_are (list_all (λ t. has_kind (kind_of t.term new) t.kind) (targets_of (expanded_plain source q))) (kinds_fit (qual_of (expanded_plain source q)) new)
      (ap (list_all (λ t. has_kind (kind_of t.term new) t.kind)) (targets_of-put no_aggregate (query_expansions source q) q) ∙ targets_stand (targets_of q) (targets_names q) parts.0)
      (all_of_fit new (replaced_in_qual no_aggregate put (qual_of q) ∷ conditions_from 0 (query_expansions source q))
      ∙ both_are (kinds_fit (replaced_in_qual no_aggregate put (qual_of q)) new) (all_fit new (conditions_from 0 (query_expansions source q)))
      (fit_replaced (IsUsed q) put new (var_kinds db q) (query_has db source scoped q fit) (qual_of q) (qual_names q) parts.1) (query_conditions db source scoped q fit))

-- ---- the sources of aggregates

module _ (db : Db) (d : IsDatabase db) (who : Who) where
  within_scoped : (n : ℕ) (key : RelKey) (attrs : List ℕ) → is_scoped (used_expansion (expansion_within n db who) key attrs) ≡ true
  within_scoped n = used_scoped db d who (expansion_within n db who) (λ key attrs. (within_denoted n db who key attrs).scoped)

  -- the keys that a view names have levels
  below_levels : (n : ℕ) (key : RelKey) (view : View) → range_at db key ≡ Some (Viewed view) → is_some (level_within (suc n) db key) ≡ true
      → (other : RelKey) → In other (vars_of view.query) → is_some (level_within n db other) ≡ true
  below_levels n key view h level other inside =
      all_in (λ k. is_some (level_within n db k) ≡ true) (vars_of view.query)
      (all_there (level_within n db) (vars_of view.query) (sym (ap is_some (said_at level_said (suc n) db key (Some (Viewed view)) h)) ∙ level)) other inside

  view_few : (key : RelKey) (view : View) → range_at db key ≡ Some (Viewed view) → has_few_targets view.query ≡ true
  view_few key view h =
      let inside = (found (λ v. same_key v.info.key key) db.views view (viewed db key view h)).0 in
      let attrs = all_at (λ v. attrs_stand v.info.attrs) db.views view inside d.view_attrs_stand in
      let few = (both_true (nat_le (length view.info.attrs) most_attributes) _ (both_true (is_any view.info.attrs) _ attrs).1).0 in
      ap (λ n. nat_le n most_attributes)
      (sym (map_long (λ t. t.kind) (targets_of view.query)) ∙ ap length (sym (kinds_are view.info.attrs (targets_of view.query)
      (all_at (λ v. attrs_are_targets v.info.attrs (targets_of v.query)) db.views view inside d.view_attrs_are_targets))) ∙ map_long (λ a. a.kind) view.info.attrs) ∙ few
    where
      map_long : {X Y : Type 0} (f : X → Y) (xs : List X) → length (map f xs) ≡ length xs
      map_long f [] = refl
      map_long f (x ∷ xs) = ap suc (map_long f xs)

  -- what is known of a view's query
  pub view_measure : (n : ℕ) (key : RelKey) (view : View) → range_at db key ≡ Some (Viewed view) → measure_within (suc n) db key ≡ query_measure (measure_within n db) view.query
  view_measure n key view h = said_at measure_said (suc n) db key (Some (Viewed view)) h

  view_source : (n : ℕ) (key : RelKey) (view : View) → range_at db key ≡ Some (Viewed view) → is_some (level_within (suc n) db key) ≡ true → (measure_within (suc n) db key).variables ≤ 1
      → source_fits (kept_alone db) db (rows_of_query (expanded_plain (expansion_within n db who) view.query)) ≡ true
  unfolding source_fits
  view_source n key view h level one =
      let expansions = query_expansions (expansion_within n db who) view.query in
      let fit : (other : RelKey) → In other (vars_of view.query) → (attrs : List ℕ) → IsFitExpansion db other (expansion_within n db who other attrs) =
      λ other inside attrs. fits_within db d who n other (below_levels n key view h level other inside) attrs in
      let stands = all_at (λ v. valid_query db v.query) db.views view (found (λ v. same_key v.info.key key) db.views view (viewed db key view h)).0 d.view_queries_stand in
      let counts = query_counts (measure_within n db) (expansion_within n db who) (within_counts n db who) view.query 0 (vars_of view.query) in
      let few : (query_measure (measure_within n db) view.query).variables ≤ 1 = subst (λ m. m.variables ≤ 1) (view_measure n key view h) one in
      let short : nat_le (length (expansions_vars expansions)) 1 ≡ true = grind (arith, nat_tests, counts, few) in
      both_are (list_all (is_kept db) (expansions_vars expansions)) _ (query_kept db (expansion_within n db who) (within_scoped n) view.query fit)
      (both_are (nat_le (length (expansions_vars expansions)) 1) _ short
      (both_are (has_few_targets (expanded_plain (expansion_within n db who) view.query)) (valid_query db (expanded_plain (expansion_within n db who) view.query))
      (few_targets no_aggregate expansions view.query (view_few key view h)) (plain_stands db (expansion_within n db who) (within_scoped n) view.query fit stands)))

  -- what may be ranged over is there
  ranged_there : (key : RelKey) → can_be_ranged_over db key ≡ true → is_some (range_at db key) ≡ true
  unfolding info_at
  ranged_there key h = by (range_at db key) h
    where
      by : (r : Option Range) → is_some (option_map range_info r) ≡ true → is_some r ≡ true
      by None h = cc h
      by (Some r) h = refl

  all_members : {X : Type 0} (p : X → Bool) (xs : List X) → list_all p xs ≡ true → (x : X) → In x xs → p x ≡ true
  all_members p xs h x inside = all_at p xs x inside h

  pub vars_fit : (keys : List RelKey) → list_all (can_be_ranged_over db) keys ≡ true → (key : RelKey) → In key keys → (attrs : List ℕ) → IsFitExpansion db key (expansion_of db who key attrs)
  vars_fit keys h key inside attrs = fits_of db d who key (ranged_there key (all_at (can_be_ranged_over db) keys key inside h)) attrs

  pub of_scoped : (key : RelKey) (attrs : List ℕ) → is_scoped (used_expansion (expansion_of db who) key attrs) ≡ true
  of_scoped = used_scoped db d who (expansion_of db who) (λ key attrs. (all_denoted db who key attrs).scoped)

  abbrev may : Allowed
  may = kept_or_viewed db

  allowed_there : (keys : List RelKey) → list_all may.source keys ≡ true → list_all (can_be_ranged_over db) keys ≡ true
  allowed_there [] h = refl
  allowed_there (key ∷ keys) h =
      let parts = both_true (may.source key) (list_all may.source keys) h in
      let there = (both_true (can_be_ranged_over db key) (nat_le (measure_of db key).variables 1) parts.0).0 in
      λ i. there i && allowed_there keys parts.1 i

  -- of at most one variable, which stands for at most one, at most one is used
  one_sum : (test : ℕ × RelKey → Bool) (k : ℕ) (keys : List RelKey) → length keys ≤ 1 → list_all may.source keys ≡ true
      → sum_by (λ p. (measure_of db p.1).variables) (filter test (enumerate_from k keys)) ≤ 1
  one_sum test k [] short h = none_is
    where
      none_is : 0 ≤ 1
      none_is = omega arith
  one_sum test k (key ∷ []) short h = by (test (k, key))
    where
      few : (measure_of db key).variables ≤ 1
      few = let le = (both_true (can_be_ranged_over db key) (nat_le (measure_of db key).variables 1) (both_true (may.source key) true h).0).1 in grind (arith, nat_tests, le)

      by : (b : Bool) → sum_by {X = ℕ × RelKey} (λ p. (measure_of db p.1).variables) (cond b ((k, key) ∷ []) []) ≤ 1
      by true = let sum : sum_by {X = ℕ × RelKey} (λ p. (measure_of db p.1).variables) ((k, key) ∷ []) ≡ (measure_of db key).variables + 0 = sum_by-cons {X = ℕ × RelKey} (λ p. (measure_of db p.1).variables) (k, key) [] in
          let total : (measure_of db key).variables + 0 ≤ 1 = omega (arith, few) in
          subst (λ n. n ≤ 1) (sym sum) total
      by false = let none : 0 ≤ 1 = omega arith in none
  one_sum test k (key ∷ other ∷ keys) short h = absurd (omega (arith, short))

  query_source : (q : Query) → source_fits may db (rows_of_query q) ≡ true → source_fits (kept_alone db) db (rows_of_query (expanded_plain (expansion_of db who) q)) ≡ true
  unfolding source_fits
  query_source q h =
      let one = both_true (list_all may.source (vars_of q)) _ h in
      let two = both_true (nat_le (length (vars_of q)) 1) (has_few_targets q && valid_query db q) one.1 in
      let three = both_true (has_few_targets q) (valid_query db q) two.1 in
      let fit = vars_fit (vars_of q) (allowed_there (vars_of q) one.0) in
      let expansions = query_expansions (expansion_of db who) q in
      let counts = query_counts (measure_of db) (expansion_of db who) (all_count db who) q 0 (vars_of q) in
      let least = two.0 in
      let listed : length (vars_of q) ≤ 1 = grind (arith, nat_tests, least) in
      let few = one_sum (λ p. is_any (used_in_query p.0 q)) 0 (vars_of q) listed one.0 in
      let short : nat_le (length (expansions_vars expansions)) 1 ≡ true = grind (arith, nat_tests, counts, few) in
      both_are (list_all (is_kept db) (expansions_vars expansions)) _ (query_kept db (expansion_of db who) of_scoped q fit)
      (both_are (nat_le (length (expansions_vars expansions)) 1) _ short
      (both_are (has_few_targets (expanded_plain (expansion_of db who) q)) (valid_query db (expanded_plain (expansion_of db who) q))
      (few_targets no_aggregate expansions q three.0) (plain_stands db (expansion_of db who) of_scoped q fit three.1)))

  range_source : (key : RelKey) (r : Option Range) → range_at db key ≡ r → may.source key ≡ true → source_fits (kept_alone db) db (expanded_range db who key r) ≡ true
  unfolding source_fits level_of measure_of
  range_source key None e h =
      let there = ranged_there key (both_true (can_be_ranged_over db key) (nat_le (measure_of db key).variables 1) h).0 in
      cc (sym (ap is_some e) ∙ there)
  range_source key (Some (Kept relation)) e h = ap keeps_rows e
  range_source key (Some (Viewed view)) e h =
      let parts = both_true (can_be_ranged_over db key) (nat_le (measure_of db key).variables 1) h in
      let least = parts.1 in
      let one : (measure_within greatest_level db key).variables ≤ 1 = grind (arith, nat_tests, least) in
      view_source (greatest_level - 1) key view e (has_level db d key (ranged_there key parts.0)) one

  -- what an aggregate is over that is put in: base relations and catalogues alone
  pub put_source_fits : (source : AggSource) → source_fits may db source ≡ true → source_fits (kept_alone db) db (expanded_source db who source) ≡ true
  unfolding source_fits
  put_source_fits (Named key) h = range_source key (range_at db key) refl h
  put_source_fits (rows_of_query q) h = query_source q h
