-- A query that is asked is fit once its expansions are put in, where it was fit but for views.
use Rattle.std.proofs.Common.{◌≡◌, refl, ap, ◌∙◌, ℕ, ◌≤◌, Bool, true, ◌&&◌, List, [], ◌∷◌, map, length, arith}
use Rattle.std.proofs.lemmas.Bool.Decides.{nat_tests}
use Rattle.std.specs.Prelude.{flat_map, nat_le, nat_lt}
use Rattle.std.specs.List.{list_all}
use Rattle.calculus.specs.declared.query.RelKey.{RelKey}
use Rattle.calculus.specs.declared.query.QAgg.{QAgg}
use Rattle.calculus.specs.declared.query.Target.{Target}
use Rattle.calculus.specs.declared.query.Query.{Query}
use Rattle.calculus.specs.declared.request.Asked.{Asked}
use Rattle.calculus.specs.declared.request.SortKey.{SortKey}
use Rattle.calculus.specs.Lists.{is_any}
use Rattle.calculus.specs.Limits.{most_expanded_variables}
use Rattle.calculus.specs.Sizes.{query_measure, measure_of, expanded_variables}
use Rattle.calculus.specs.Who.{Who}
use Rattle.calculus.specs.Database.{Db}
use Rattle.calculus.specs.IsDatabase.{IsDatabase, has_kind, var_kinds}
use Rattle.calculus.specs.QueryParts.{term_aggregates, qual_aggregates, query_aggregates, vars_of, targets_of, qual_of}
use Rattle.calculus.specs.Used.{used, used_in_query}
use Rattle.calculus_laws.proofs.Members.{In, Within}
use Rattle.calculus_laws.proofs.Plain.{in_targets}
use Rattle.quel_meaning.specs.KindsInQueries.{kind_in_query, kinds_fit_in_query, query_fits}
use Rattle.quel_meaning.specs.FitQueries.{Allowed, is_kept, kept_alone, kept_or_viewed, can_be_ranged_over, reads_fit, sort_is_in_range, asked_fits}
use Rattle.view_text.specs.declared.expansion.Expansion.{Expansion}
use Rattle.view_text.specs.Replaced.{replaced, replaced_target}
use Rattle.view_text.specs.Expansions.{query_expansions, expansions_vars, substituted_from, conditions_from}
use Rattle.view_text.specs.ExpansionOf.{expansion_of}
use Rattle.view_text.specs.Expanded.{expanded_made, expanded_over, expanded, expanded_asked}
use Rattle.tree_laws.proofs.Scopes.{both_true}
use Rattle.tree_laws.proofs.Joint.{both_are}
use Rattle.tree_laws.proofs.Queries.{targets_of-put}
use Rattle.tree_laws.proofs.Denoted.{all_denoted}
use Rattle.tree_laws.proofs.Values.{within_left, within_right, within_itself}
use Rattle.tree_laws.proofs.Within.{all_scoped}
use Rattle.tree_laws.proofs.Nests.{kind_there}
use Rattle.tree_laws.proofs.SameKinds.{HasKinds, Names, in_left, in_right}
use Rattle.tree_laws.proofs.FitExpansions.{kinds_of, all_fit, IsFitExpansion}
use Rattle.tree_laws.proofs.FitViews.{IsUsed, query_has, query_conditions, query_kept}
use Rattle.tree_laws.proofs.FitWithin.{query_counts, all_count, each_scoped}
use Rattle.tree_laws.proofs.FitPlain.{vars_fit, of_scoped, targets_long}
use Rattle.tree_laws.proofs.FitOver.{target_names, reads_put, kind_over, qual_over, counts_over, sources_over}

-- tests of targets, and of targets put in
pub targets_pass : (Known : ℕ → Type 0) (gs : List QAgg) (test : Target → Bool) (made : Target → Target) (passes : Target → Bool)
    → ((t : Target) → Within (term_aggregates t.term) gs → Names Known (λ v. used v t.term) → test t ≡ true → passes (made t) ≡ true)
    → (ts : List Target) → Within (in_targets ts) gs → Names Known (λ v. flat_map (λ t. used v t.term) ts) → list_all test ts ≡ true → list_all passes (map made ts) ≡ true
targets_pass Known gs test made passes each [] w names h = refl
targets_pass Known gs test made passes each (t ∷ ts) w names h =
    let parts = both_true (test t) (list_all test ts) h in
    let one = each t (within_left (term_aggregates t.term) (in_targets ts) gs w) (in_left Known (λ v. used v t.term) (λ v. flat_map (λ t. used v t.term) ts) names) parts.0 in
    let more = targets_pass Known gs test made passes each ts (within_right (term_aggregates t.term) (in_targets ts) gs w) (in_right Known (λ v. used v t.term) (λ v. flat_map (λ t. used v t.term) ts) names) parts.1 in
    λ i. one i && more i

module _ (db : Db) (d : IsDatabase db) (who : Who) where
  abbrev may : Allowed
  may = kept_or_viewed db

  module _ (q : Query) (reads : reads_fit may db q ≡ true) where
    abbrev expansions : List Expansion
    expansions = query_expansions (expansion_of db who) q

    ranged : list_all (can_be_ranged_over db) (vars_of q) ≡ true
    unfolding reads_fit
    ranged = (both_true (list_all may.variable (vars_of q)) _ reads).0

    fit : (key : RelKey) → In key (vars_of q) → (attrs : List ℕ) → IsFitExpansion db key (expansion_of db who key attrs)
    fit = vars_fit db d who (vars_of q) ranged

    has : HasKinds (IsUsed q) (substituted_from 0 expansions) (kinds_of db (expansions_vars expansions)) (var_kinds db q)
    has = query_has db (expansion_of db who) (of_scoped db d who) q fit

    scoped : all_scoped expansions ≡ true
    scoped = each_scoped db d who (expansion_of db who) (λ key attrs. (all_denoted db who key attrs).scoped) q 0 (vars_of q)

    kept : list_all (is_kept db) (expansions_vars expansions) ≡ true
    kept = query_kept db (expansion_of db who) (of_scoped db d who) q fit

    conditions : all_fit (kinds_of db (expansions_vars expansions)) (conditions_from 0 expansions) ≡ true
    conditions = query_conditions db (expansion_of db who) (of_scoped db d who) q fit

    used_itself : (v : ℕ) → is_any (used_in_query v q) ≡ true → IsUsed q v
    used_itself v h = h

    counted : length (expansions_vars expansions) ≤ (query_measure (measure_of db) q).variables
    counted = query_counts (measure_of db) (expansion_of db who) (all_count db who) q 0 (vars_of q)

    target_put : (t : Target) → Within (term_aggregates t.term) (query_aggregates q) → Names (IsUsed q) (λ v. used v t.term) → has_kind (kind_in_query db t.term (var_kinds db q)) t.kind ≡ true
        → has_kind (kind_in_query db (replaced (expanded_made db who (substituted_from 0 expansions)) (substituted_from 0 expansions) t.term) (kinds_of db (expansions_vars expansions))) t.kind ≡ true
    target_put t w names h =
        ap (λ o. has_kind o t.kind) (kind_over db d who q expansions (IsUsed q) used_itself has scoped kept conditions reads t.term w names (kind_there (kind_in_query db t.term (var_kinds db q)) t.kind h)) ∙ h

    fits_put : query_fits db q ≡ true → query_fits db (expanded_over db who expansions q) ≡ true
    unfolding query_fits
    fits_put h =
        let parts = both_true (list_all (λ t. has_kind (kind_in_query db t.term (var_kinds db q)) t.kind) (targets_of q)) (kinds_fit_in_query db (qual_of q) (var_kinds db q)) h in
        both_are (list_all (λ t. has_kind (kind_in_query db t.term (kinds_of db (expansions_vars expansions))) t.kind) (targets_of (expanded_over db who expansions q)))
        (kinds_fit_in_query db (qual_of (expanded_over db who expansions q)) (kinds_of db (expansions_vars expansions)))
        (ap (list_all (λ t. has_kind (kind_in_query db t.term (kinds_of db (expansions_vars expansions))) t.kind)) (targets_of-put (expanded_made db who (substituted_from 0 expansions)) expansions q)
        ∙ targets_pass (IsUsed q) (query_aggregates q) (λ t. has_kind (kind_in_query db t.term (var_kinds db q)) t.kind) (replaced_target (expanded_made db who (substituted_from 0 expansions)) (substituted_from 0 expansions))
        (λ t. has_kind (kind_in_query db t.term (kinds_of db (expansions_vars expansions))) t.kind) target_put (targets_of q)
        (within_left (in_targets (targets_of q)) (qual_aggregates (qual_of q)) (query_aggregates q) (within_itself (query_aggregates q)))
        (target_names db d who q expansions (IsUsed q) used_itself has scoped kept conditions reads) parts.0)
        (qual_over db d who q expansions (IsUsed q) used_itself has scoped kept conditions reads parts.1)

    expanded_put : nat_le (expanded_variables db q) most_expanded_variables ≡ true → nat_le (expanded_variables db (expanded_over db who expansions q)) most_expanded_variables ≡ true
    unfolding expanded_variables
    expanded_put h =
        let own = counts_over db d who q expansions (IsUsed q) used_itself has scoped kept conditions reads in
        let sources = sources_over db d who q expansions (IsUsed q) used_itself has scoped kept conditions reads in
        let listed = counted in
        grind (arith, nat_tests, h, own, sources, listed)

    few : nat_le (expanded_variables db q) most_expanded_variables ≡ true → length (expansions_vars expansions) ≤ most_expanded_variables
    unfolding expanded_variables
    few h = let listed = counted in grind (arith, nat_tests, h, listed)

    pub query_put : query_fits db q ≡ true → nat_le (expanded_variables db q) most_expanded_variables ≡ true
        → (reads_fit (kept_alone db) db (expanded db who q) ≡ true) × (query_fits db (expanded db who q) ≡ true) × (nat_le (expanded_variables db (expanded db who q)) most_expanded_variables ≡ true)
    unfolding expanded
    query_put kinds less = (reads_put db d who q expansions (IsUsed q) used_itself has scoped kept conditions reads (few less), fits_put kinds, expanded_put less)

  sort_put : (q : Query) (sort : List SortKey) → list_all (λ k. nat_lt k.column (length (targets_of (expanded db who q)))) sort ≡ list_all (λ k. nat_lt k.column (length (targets_of q))) sort
  unfolding expanded
  sort_put q sort =
      let expansions = query_expansions (expansion_of db who) q in
      ap (λ n. list_all (λ (k : SortKey). nat_lt k.column n) sort)
      (ap length (targets_of-put (expanded_made db who (substituted_from 0 expansions)) expansions q) ∙ targets_long (expanded_made db who (substituted_from 0 expansions)) (substituted_from 0 expansions) (targets_of q))

  pub asked_put : (a : Asked) → asked_fits may db a ≡ true → asked_fits (kept_alone db) db (expanded_asked db who a) ≡ true
  unfolding asked_fits
  asked_put a h =
      let one = both_true (reads_fit may db a.query) _ h in
      let two = both_true (query_fits db a.query) _ one.1 in
      let three = both_true (nat_le (expanded_variables db a.query) most_expanded_variables) (sort_is_in_range a) two.1 in
      let (reads, kinds, less) = query_put a.query one.0 two.0 three.0 in
      both_are (reads_fit (kept_alone db) db (expanded db who a.query)) _ reads
      (both_are (query_fits db (expanded db who a.query)) _ kinds
      (both_are (nat_le (expanded_variables db (expanded db who a.query)) most_expanded_variables) (sort_is_in_range (expanded_asked db who a)) less (sort_put a.query a.sort ∙ three.1)))
