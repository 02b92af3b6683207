-- A query over texts that fit reads base relations and catalogues alone, and its kinds and numbers are what they were.
use Rattle.std.proofs.Common.{◌≡◌, refl, sym, ap, ◌∙◌, subst, ℕ, suc, ◌+◌, ◌-◌, ◌≤◌, Bool, true, false, cond, ◌&&◌, List, [], ◌∷◌, ◌++◌, map, length, filter, Option, Some, None, is_some, arith}
use Rattle.std.proofs.lemmas.Bool.Decides.{nat_tests}
use Rattle.std.proofs.lemmas.List.Sums.{sum_by-cons}
use Rattle.std.specs.Prelude.{flat_map, nat_le, nat_eq, sum_by}
use Rattle.std.specs.List.{list_all, enumerate_from}
use Rattle.calculus.specs.declared.query.RelKey.{RelKey}
use Rattle.calculus.specs.declared.query.AggSource.{AggSource, Named}
use Rattle.calculus.specs.declared.query.QAgg.{QAgg}
use Rattle.calculus.specs.declared.query.QTerm.{QTerm}
use Rattle.calculus.specs.declared.query.QQual.{QQual, True}
use Rattle.calculus.specs.declared.query.Query.{Query}
use Rattle.calculus.specs.Tree.{both, rows_of_query}
use Rattle.calculus.specs.Lists.{is_any}
use Rattle.calculus.specs.Limits.{most_expanded_variables, greatest_level}
use Rattle.calculus.specs.Sizes.{query_measure, measure_within, measure_of, source_variables}
use Rattle.calculus.specs.Who.{Who}
use Rattle.calculus.specs.Database.{Db}
use Rattle.calculus.specs.IsDatabase.{IsDatabase, var_kinds}
use Rattle.calculus.specs.Stored.{Range, Kept, Viewed, range_at}
use Rattle.calculus.specs.QueryParts.{term_aggregates, qual_aggregates, query_aggregates, vars_of, targets_of, qual_of}
use Rattle.calculus.specs.Used.{used, used_in_qual, used_in_query}
use Rattle.calculus_laws.proofs.Members.{Within}
use Rattle.calculus_laws.proofs.Plain.{in_targets}
use Rattle.calculus_laws.proofs.Through.{said_at}
use Rattle.quel_meaning.specs.KindsInQueries.{kind_in_query, kinds_fit_in_query}
use Rattle.quel_meaning.specs.FitQueries.{Allowed, is_kept, keeps_rows, kept_alone, kept_or_viewed, has_few_targets, lists_few_vars, source_fits, sources_fit, slots_count_from, slots_count_up, reads_fit}
use Rattle.view_text.specs.declared.expansion.Expansion.{Expansion}
use Rattle.view_text.specs.Replaced.{Substitution, replaced, replaced_in_qual}
use Rattle.view_text.specs.Halves.{all_of}
use Rattle.view_text.specs.Scoped.{is_within, is_qual_within}
use Rattle.view_text.specs.Expansions.{query_expansions, expansions_vars, substituted_from, conditions_from}
use Rattle.view_text.specs.ExpansionOf.{expansion_within, expansion_of}
use Rattle.view_text.specs.Expanded.{expanded_plain, expanded_range, expanded_source, expanded_aggregate, expanded_made, expanded_over}
use Rattle.tree_laws.proofs.Halves.{any_append, test_joined, over, and_assoc, and_right}
use Rattle.tree_laws.proofs.Named.{left_true, right_true}
use Rattle.tree_laws.proofs.Scopes.{both_true}
use Rattle.tree_laws.proofs.Joint.{both_are}
use Rattle.tree_laws.proofs.Queries.{targets_of-put}
use Rattle.tree_laws.proofs.Values.{within_right, within_itself}
use Rattle.tree_laws.proofs.Within.{all_scoped, put_within, conditions_are_within}
use Rattle.tree_laws.proofs.SameKinds.{VarKinds, HasKinds, Names}
use Rattle.tree_laws.proofs.FitExpansions.{kinds_of, all_fit}
use Rattle.tree_laws.proofs.FitWithin.{measure_said, query_counts, within_counts}
use Rattle.tree_laws.proofs.FitPlain.{few_targets, put_source_fits, view_measure}
use Rattle.tree_laws.proofs.FitPut.{qual_in_query_within, kind_put, fit_put, targets_made, qual_made, all_of_made, conditions_made}

-- ---- what is joined

all_of_fit_in_query : (db : Db) (vars : VarKinds) (qs : List QQual) → kinds_fit_in_query db (all_of qs) vars ≡ list_all (λ q. kinds_fit_in_query db q vars) qs
unfolding kinds_fit_in_query
all_of_fit_in_query db vars qs = test_joined both True (λ q. kinds_fit_in_query db q vars) (λ a b. a && b) true (λ p q. refl) refl and_assoc and_right (length qs) qs ∙ is qs
  where
    is : (qs : List QQual) → over both True (λ q. kinds_fit_in_query db q vars) (λ a b. a && b) true (λ p q. refl) refl and_assoc and_right qs ≡ list_all (λ q. kinds_fit_in_query db q vars) qs
    is [] = refl
    is (q ∷ qs) = ap (λ b. kinds_fit_in_query db q vars && b) (is qs)

conditions_in_query : (db : Db) (k : ℕ) (vars : VarKinds) (qs : List QQual) → list_all (is_qual_within k) qs ≡ true → list_all (λ q. kinds_fit_in_query db q vars) qs ≡ all_fit vars qs
conditions_in_query db k vars [] h = refl
conditions_in_query db k vars (q ∷ qs) h =
    let parts = both_true (is_qual_within k q) (list_all (is_qual_within k) qs) h in
    λ i. qual_in_query_within db k vars q parts.0 i && conditions_in_query db k vars qs parts.1 i

-- ---- numbers of variables

pub kept_measure : (db : Db) (key : RelKey) → is_kept db key ≡ true → (measure_of db key).variables ≡ 1
unfolding measure_of
kept_measure db key h = by (range_at db key) refl h
  where
    by : (r : Option Range) → range_at db key ≡ r → keeps_rows r ≡ true → (measure_within greatest_level db key).variables ≡ 1
    by None e h = cc h
    by (Some (Kept relation)) e h = ap (λ m. m.variables) (said_at measure_said greatest_level db key (Some (Kept relation)) e)
    by (Some (Viewed view)) e h = cc h

-- of kept variables no more are counted than are listed
pub kept_counts : (db : Db) (test : ℕ × RelKey → Bool) (k : ℕ) (keys : List RelKey) → list_all (is_kept db) keys ≡ true
    → sum_by {X = ℕ × RelKey} (λ p. (measure_of db p.1).variables) (filter test (enumerate_from k keys)) ≤ length keys
kept_counts db test k [] h = let none : 0 ≤ 0 = omega arith in none
kept_counts db test k (key ∷ keys) h =
    let parts = both_true (is_kept db key) (list_all (is_kept db) keys) h in
    by (test (k, key)) (kept_measure db key parts.0) (kept_counts db test (k + 1) keys parts.1)
  where
    more : List (ℕ × RelKey)
    more = filter test (enumerate_from (k + 1) keys)

    by : (b : Bool) → (measure_of db key).variables ≡ 1 → sum_by {X = ℕ × RelKey} (λ p. (measure_of db p.1).variables) more ≤ length keys
        → sum_by {X = ℕ × RelKey} (λ p. (measure_of db p.1).variables) (cond b ((k, key) ∷ more) more) ≤ suc (length keys)
    by true one less =
        let sum : sum_by {X = ℕ × RelKey} (λ p. (measure_of db p.1).variables) ((k, key) ∷ more) ≡ (measure_of db key).variables + sum_by {X = ℕ × RelKey} (λ p. (measure_of db p.1).variables) more =
        sum_by-cons {X = ℕ × RelKey} (λ p. (measure_of db p.1).variables) (k, key) more in
        let total : (measure_of db key).variables + sum_by {X = ℕ × RelKey} (λ p. (measure_of db p.1).variables) more ≤ suc (length keys) = omega (arith, one, less) in
        subst (λ n. n ≤ suc (length keys)) (sym sum) total
    by false one less = omega (arith, less)

module _ (db : Db) (d : IsDatabase db) (who : Who) where
  abbrev may : Allowed
  may = kept_or_viewed db

  -- a source counts for no more once it is put in
  plain_counts : (n : ℕ) (q : Query) → list_all (is_kept db) (expansions_vars (query_expansions (expansion_within n db who) q)) ≡ true
      → (query_measure (measure_of db) (expanded_plain (expansion_within n db who) q)).variables ≤ (query_measure (measure_within n db) q).variables
  plain_counts n q kept =
      let less = kept_counts db (λ p. is_any (used_in_query p.0 (expanded_plain (expansion_within n db who) q))) 0 (expansions_vars (query_expansions (expansion_within n db who) q)) kept in
      let counts = query_counts (measure_within n db) (expansion_within n db who) (within_counts n db who) q 0 (vars_of q) in
      omega (arith, less, counts)

  kept_source : (q : Query) → source_fits (kept_alone db) db (rows_of_query q) ≡ true → list_all (is_kept db) (vars_of q) ≡ true
  unfolding source_fits
  kept_source q h = (both_true (list_all (is_kept db) (vars_of q)) _ h).0

  itself : (n : ℕ) → n ≤ n
  itself n = omega arith

  range_counts : (key : RelKey) (r : Option Range) → range_at db key ≡ r → source_fits (kept_alone db) db (expanded_range db who key r) ≡ true
      → source_variables (measure_of db) (expanded_range db who key r) ≤ (measure_of db key).variables
  unfolding measure_of
  range_counts key None e h = itself (measure_of db key).variables
  range_counts key (Some (Kept relation)) e h = itself (measure_of db key).variables
  range_counts key (Some (Viewed view)) e h =
      subst (λ m. (query_measure (measure_of db) (expanded_plain (expansion_within (greatest_level - 1) db who) view.query)).variables ≤ m.variables) (sym (view_measure db d who (greatest_level - 1) key view e))
      (plain_counts (greatest_level - 1) view.query (kept_source (expanded_plain (expansion_within (greatest_level - 1) db who) view.query) h))

  source_counts : (source : AggSource) → source_fits (kept_alone db) db (expanded_source db who source) ≡ true
      → source_variables (measure_of db) (expanded_source db who source) ≤ source_variables (measure_of db) source
  unfolding measure_of expansion_of
  source_counts (Named key) h = range_counts key (range_at db key) refl h
  source_counts (rows_of_query q) h = plain_counts greatest_level q (kept_source (expanded_plain (expansion_within greatest_level db who) q) h)

  sources_put : (put : Substitution) (gs : List QAgg) → list_all (λ g. source_fits may db g.source) gs ≡ true → list_all (λ g. source_fits (kept_alone db) db g.source) (map (expanded_aggregate db who put) gs) ≡ true
  sources_put put [] h = refl
  sources_put put (g ∷ gs) h =
      let parts = both_true (source_fits may db g.source) (list_all (λ g. source_fits may db g.source) gs) h in
      λ i. put_source_fits db d who g.source parts.0 i && sources_put put gs parts.1 i

  pub sum_put : (put : Substitution) (gs : List QAgg) → list_all (λ g. source_fits may db g.source) gs ≡ true
      → sum_by (λ g. source_variables (measure_of db) g.source) (map (expanded_aggregate db who put) gs) ≤ sum_by (λ g. source_variables (measure_of db) g.source) gs
  sum_put put [] h = itself 0
  sum_put put (g ∷ gs) h =
      let parts = both_true (source_fits may db g.source) (list_all (λ g. source_fits may db g.source) gs) h in
      let one = source_counts g.source (put_source_fits db d who g.source parts.0) in
      let more = sum_put put gs parts.1 in
      let left = sum_by-cons (λ g. source_variables (measure_of db) g.source) (expanded_aggregate db who put g) (map (expanded_aggregate db who put) gs) in
      let right = sum_by-cons (λ g. source_variables (measure_of db) g.source) g gs in
      subst (λ n. n ≤ sum_by (λ g. source_variables (measure_of db) g.source) (g ∷ gs)) (sym left)
      (subst (λ m. source_variables (measure_of db) (expanded_source db who g.source) + sum_by (λ g. source_variables (measure_of db) g.source) (map (expanded_aggregate db who put) gs) ≤ m) (sym right) (both_less one more))
    where
      both_less : {a b c e : ℕ} → a ≤ b → c ≤ e → a + c ≤ b + e
      both_less h k = omega (arith, h, k)

  slots_put : (put : Substitution) (n : ℕ) (gs : List QAgg) → slots_count_from n (map (expanded_aggregate db who put) gs) ≡ slots_count_from n gs
  slots_put put n [] = refl
  slots_put put n (g ∷ gs) = ap (λ b. nat_eq g.slot n && b) (slots_put put (n + 1) gs)

  -- ---- a query over texts

  module _ (q : Query) (expansions : List Expansion) (Known : ℕ → Type 0) (names : (v : ℕ) → is_any (used_in_query v q) ≡ true → Known v)
      (has : HasKinds Known (substituted_from 0 expansions) (kinds_of db (expansions_vars expansions)) (var_kinds db q)) (scoped : all_scoped expansions ≡ true)
      (kept : list_all (is_kept db) (expansions_vars expansions) ≡ true) (conditions : all_fit (kinds_of db (expansions_vars expansions)) (conditions_from 0 expansions) ≡ true) (reads : reads_fit may db q ≡ true) where
    abbrev put : Substitution
    put = substituted_from 0 expansions

    abbrev new : VarKinds
    new = kinds_of db (expansions_vars expansions)

    abbrev total : ℕ
    total = length (expansions_vars expansions)

    room : 0 + length (expansions_vars expansions) ≤ total
    room = omega arith

    within : (v a : ℕ) → is_within total (put v a) ≡ true
    within v a = put_within expansions 0 total room scoped v a

    conditions_within : list_all (is_qual_within total) (conditions_from 0 expansions) ≡ true
    conditions_within = conditions_are_within expansions 0 total room scoped

    sources : sources_fit may db q ≡ true
    unfolding reads_fit
    sources = (both_true (sources_fit may db q) _ (both_true (list_all may.variable (vars_of q)) _ reads).1).0

    slots : slots_count_up q ≡ true
    unfolding reads_fit
    slots = (both_true (slots_count_up q) _ (both_true (sources_fit may db q) _ (both_true (list_all may.variable (vars_of q)) _ reads).1).1).0

    few : has_few_targets q ≡ true
    unfolding reads_fit
    few = (both_true (lists_few_vars q) (has_few_targets q) (both_true (slots_count_up q) _ (both_true (sources_fit may db q) _ (both_true (list_all may.variable (vars_of q)) _ reads).1).1).1).1

    pub aggregates_made : query_aggregates (expanded_over db who expansions q) ≡ map (expanded_aggregate db who put) (query_aggregates q)
    aggregates_made =
        (λ i. in_targets (targets_of-put (expanded_made db who put) expansions q i) ++ all_of_made (replaced_in_qual (expanded_made db who put) put (qual_of q) ∷ conditions_from 0 expansions) i)
        ∙ (λ i. targets_made db who put total within (targets_of q) i ++ (qual_made db who put total within (qual_of q) i ++ conditions_made total (conditions_from 0 expansions) conditions_within i))
        ∙ ap (λ l. map (expanded_aggregate db who put) (in_targets (targets_of q)) ++ l) (behind_none (map (expanded_aggregate db who put) (qual_aggregates (qual_of q))))
        ∙ map_behind (expanded_aggregate db who put) (in_targets (targets_of q)) (qual_aggregates (qual_of q))
      where
        behind_none : {X : Type 0} (xs : List X) → xs ++ [] ≡ xs
        behind_none [] = refl
        behind_none (x ∷ xs) = ap (λ l. x ∷ l) (behind_none xs)

        map_behind : {X Y : Type 0} (f : X → Y) (xs ys : List X) → map f xs ++ map f ys ≡ map f (xs ++ ys)
        map_behind f [] ys = refl
        map_behind f (x ∷ xs) ys = ap (λ l. f x ∷ l) (map_behind f xs ys)

    pub reads_put : total ≤ most_expanded_variables → reads_fit (kept_alone db) db (expanded_over db who expansions q) ≡ true
    unfolding reads_fit
    reads_put less =
        both_are (list_all (is_kept db) (expansions_vars expansions)) _ kept
        (both_are (sources_fit (kept_alone db) db (expanded_over db who expansions q)) _
        (ap (list_all (λ g. source_fits (kept_alone db) db g.source)) aggregates_made ∙ sources_put put (query_aggregates q) sources)
        (both_are (slots_count_up (expanded_over db who expansions q)) _ (ap (slots_count_from 0) aggregates_made ∙ slots_put put 0 (query_aggregates q) ∙ slots)
        (both_are (nat_le total most_expanded_variables) (has_few_targets (expanded_over db who expansions q)) (grind (arith, nat_tests, less)) (few_targets (expanded_made db who put) expansions q few))))

    -- the names in its targets and its qualification
    pub target_names : Names Known (λ v. flat_map (λ t. used v t.term) (targets_of q))
    target_names v h =
        names v (any_append (flat_map (λ t. used v t.term) (targets_of q)) (used_in_qual v (qual_of q))
        ∙ left_true (is_any (flat_map (λ t. used v t.term) (targets_of q))) (is_any (used_in_qual v (qual_of q))) h)

    qual_names : Names Known (λ v. used_in_qual v (qual_of q))
    qual_names v h =
        names v (any_append (flat_map (λ t. used v t.term) (targets_of q)) (used_in_qual v (qual_of q))
        ∙ right_true (is_any (flat_map (λ t. used v t.term) (targets_of q))) (is_any (used_in_qual v (qual_of q))) h)

    pub kind_over : (t : QTerm) → Within (term_aggregates t) (query_aggregates q) → Names Known (λ v. used v t) → is_some (kind_in_query db t (var_kinds db q)) ≡ true
        → kind_in_query db (replaced (expanded_made db who put) put t) new ≡ kind_in_query db t (var_kinds db q)
    kind_over t w named h = kind_put db d who Known put new (var_kinds db q) has total within (query_aggregates q) sources t w named h

    pub qual_over : kinds_fit_in_query db (qual_of q) (var_kinds db q) ≡ true → kinds_fit_in_query db (qual_of (expanded_over db who expansions q)) new ≡ true
    qual_over h =
        all_of_fit_in_query db new (replaced_in_qual (expanded_made db who put) put (qual_of q) ∷ conditions_from 0 expansions)
        ∙ both_are (kinds_fit_in_query db (replaced_in_qual (expanded_made db who put) put (qual_of q)) new) (list_all (λ q. kinds_fit_in_query db q new) (conditions_from 0 expansions))
        (fit_put db d who Known put new (var_kinds db q) has total within (query_aggregates q) sources (qual_of q)
        (within_right (in_targets (targets_of q)) (qual_aggregates (qual_of q)) (query_aggregates q) (within_itself (query_aggregates q))) qual_names h)
        (conditions_in_query db total new (conditions_from 0 expansions) conditions_within ∙ conditions)

    -- what is counted of it: its variables, and its aggregates' sources
    pub counts_over : (query_measure (measure_of db) (expanded_over db who expansions q)).variables ≤ total
    counts_over = kept_counts db (λ p. is_any (used_in_query p.0 (expanded_over db who expansions q))) 0 (expansions_vars expansions) kept

    pub sources_over : sum_by (λ g. source_variables (measure_of db) g.source) (query_aggregates (expanded_over db who expansions q)) ≤ sum_by (λ g. source_variables (measure_of db) g.source) (query_aggregates q)
    sources_over =
        subst (λ gs. sum_by (λ g. source_variables (measure_of db) g.source) gs ≤ sum_by (λ g. source_variables (measure_of db) g.source) (query_aggregates q)) (sym aggregates_made) (sum_put put (query_aggregates q) sources)
