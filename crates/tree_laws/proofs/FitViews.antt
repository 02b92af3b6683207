-- In a database the expansion of each key that stands is fit, through the levels of views that there are.
use Rattle.std.proofs.Common.{◌≡◌, refl, sym, ap, ◌∙◌, subst, inl, inr, ℕ, zero, suc, ◌+◌, true, List, [], ◌∷◌, ◌++◌, map, Option, Some, None, is_some, arith, Bool, false}
use Rattle.calculus.specs.declared.query.QQual.{QQual, True}
use Rattle.calculus.specs.Tree.{negated}
use Rattle.calculus.specs.Term.{holds, no_aggs}
use Rattle.std.specs.Prelude.{slice_get, flat_map}
use Rattle.std.specs.List.{list_all, enumerate_from}
use Rattle.calculus.specs.declared.value.Kind.{Kind}
use Rattle.calculus.specs.declared.query.RelKey.{RelKey}
use Rattle.calculus.specs.declared.query.Target.{Target}
use Rattle.calculus.specs.declared.query.Query.{Query}
use Rattle.calculus.specs.Lists.{is_any}
use Rattle.calculus.specs.Kinds.{kind_of, comparable, kinds_fit}
use Rattle.calculus.specs.Database.{Db}
use Rattle.calculus.specs.IsDatabase.{has_kind, var_kinds, valid_query}
use Rattle.calculus.specs.Stored.{kinds_at}
use Rattle.calculus.specs.QueryParts.{vars_of, targets_of, qual_of}
use Rattle.calculus.specs.Used.{used, used_in_qual, used_in_query}
use Rattle.calculus_laws.proofs.Members.{In}
use Rattle.quel_meaning.specs.FitQueries.{is_kept}
use Rattle.view_text.specs.declared.expansion.Expansion.{Expansion}
use Rattle.view_text.specs.Replaced.{Substitution, replaced, replaced_in_qual, no_aggregate}
use Rattle.view_text.specs.Scoped.{is_scoped}
use Rattle.view_text.specs.Expansions.{ExpansionSource, no_expansion, term_at, used_expansion, query_expansions, expansions_vars, substituted_from, conditions_from}
use Rattle.view_text.specs.ExpansionOf.{has_value, substituted_terms, rows_expansion, rows_conditions, settled}
use Rattle.tree_laws.proofs.Aggregated.{kind_is}
use Rattle.tree_laws.proofs.Halves.{any_append}
use Rattle.tree_laws.proofs.Named.{left_true, right_true}
use Rattle.tree_laws.proofs.Scopes.{both_true}
use Rattle.tree_laws.proofs.Joint.{all_append, both_are}
use Rattle.tree_laws.proofs.Nests.{kind_there}
use Rattle.tree_laws.proofs.SameKinds.{VarKinds, HasKinds, Names, kind_replaced, fit_replaced, itself_compares}
use Rattle.tree_laws.proofs.FitExpansions.{kinds_of, all_fit, IsFitExpansion, FitEach, put_kinds, conditions_kinds}

-- ---- targets

-- the kind is there and is this one
is_of : (o : Option Kind) (kind : Kind) → has_kind o kind ≡ true → o ≡ Some kind
is_of None kind h = cc h
is_of (Some k) kind h = ap Some (kind_is k kind h)

module _ (Known : ℕ → Type 0) (put : Substitution) (new vars : VarKinds) (has : HasKinds Known put new vars) where
  pub first_names : (t : Target) (ts : List Target) → Names Known (λ v. flat_map (λ t. used v t.term) (t ∷ ts)) → Names Known (λ v. used v t.term)
  first_names t ts names v h = names v (any_append (used v t.term) (flat_map (λ t. used v t.term) ts) ∙ left_true (is_any (used v t.term)) (is_any (flat_map (λ t. used v t.term) ts)) h)

  pub later_names : (t : Target) (ts : List Target) → Names Known (λ v. flat_map (λ t. used v t.term) (t ∷ ts)) → Names Known (λ v. flat_map (λ t. used v t.term) ts)
  later_names t ts names v h = names v (any_append (used v t.term) (flat_map (λ t. used v t.term) ts) ∙ right_true (is_any (used v t.term)) (is_any (flat_map (λ t. used v t.term) ts)) h)

  -- the term put in for a target has the target's kind
  pub target_kind : (t : Target) → Names Known (λ v. used v t.term) → has_kind (kind_of t.term vars) t.kind ≡ true → kind_of (replaced no_aggregate put t.term) new ≡ Some t.kind
  target_kind t names h = kind_replaced Known put new vars has t.term names (kind_there (kind_of t.term vars) t.kind h) ∙ is_of (kind_of t.term vars) t.kind h

  terms_kinds : (ts : List Target) → Names Known (λ v. flat_map (λ t. used v t.term) ts) → list_all (λ t. has_kind (kind_of t.term vars) t.kind) ts ≡ true
      → (a : ℕ) → is_some (slice_get (map (λ t. t.kind) ts) a) ≡ true
      → kind_of (term_at (map (λ t. replaced no_aggregate put t.term) ts) a) new ≡ slice_get (map (λ t. t.kind) ts) a
  terms_kinds [] names h zero there = cc there
  terms_kinds [] names h (suc a) there = cc there
  terms_kinds (t ∷ ts) names h zero there =
      target_kind t (first_names t ts names) (both_true (has_kind (kind_of t.term vars) t.kind) (list_all (λ t. has_kind (kind_of t.term vars) t.kind) ts) h).0
  terms_kinds (t ∷ ts) names h (suc a) there =
      terms_kinds ts (later_names t ts names) (both_true (has_kind (kind_of t.term vars) t.kind) (list_all (λ t. has_kind (kind_of t.term vars) t.kind) ts) h).1 a there

  values_fit : (ts : List Target) → Names Known (λ v. flat_map (λ t. used v t.term) ts) → list_all (λ t. has_kind (kind_of t.term vars) t.kind) ts ≡ true
      → all_fit new (map has_value (map (λ t. replaced no_aggregate put t.term) ts)) ≡ true
  unfolding kinds_fit
  values_fit [] names h = refl
  values_fit (t ∷ ts) names h =
      let parts = both_true (has_kind (kind_of t.term vars) t.kind) (list_all (λ t. has_kind (kind_of t.term vars) t.kind) ts) h in
      let there = ap is_some (target_kind t (first_names t ts names) parts.0) in
      both_are (comparable (kind_of (replaced no_aggregate put t.term) new) (kind_of (replaced no_aggregate put t.term) new)) (all_fit new (map has_value (map (λ t. replaced no_aggregate put t.term) ts)))
      (itself_compares (kind_of (replaced no_aggregate put t.term) new) there) (values_fit ts (later_names t ts names) parts.1)

-- conditions that are settled fit where they did
settled_fits : (kinds : VarKinds) (vars : List RelKey) (conditions : List QQual) → all_fit kinds conditions ≡ true → all_fit kinds (settled vars conditions) ≡ true
unfolding settled kinds_fit
settled_fits kinds [] conditions h = by (list_all (λ q. holds no_aggs q []) conditions)
  where
    by : (b : Bool) → all_fit kinds (elim b [ true ↦ [] | false ↦ negated True ∷ [] ]) ≡ true
    by true = refl
    by false = refl
settled_fits kinds (key ∷ vars) conditions h = h

-- ---- a query whose texts fit

-- the variable is used in the query
abbrev pub IsUsed : Query → ℕ → Type 0
IsUsed q v = is_any (used_in_query v q) ≡ true

pub targets_names : (q : Query) → Names (IsUsed q) (λ v. flat_map (λ t. used v t.term) (targets_of q))
targets_names q v h =
    any_append (flat_map (λ t. used v t.term) (targets_of q)) (used_in_qual v (qual_of q))
    ∙ left_true (is_any (flat_map (λ t. used v t.term) (targets_of q))) (is_any (used_in_qual v (qual_of q))) h

pub qual_names : (q : Query) → Names (IsUsed q) (λ v. used_in_qual v (qual_of q))
qual_names q v h =
    any_append (flat_map (λ t. used v t.term) (targets_of q)) (used_in_qual v (qual_of q))
    ∙ right_true (is_any (flat_map (λ t. used v t.term) (targets_of q))) (is_any (used_in_qual v (qual_of q))) h

no_expansion_fits : (db : Db) → all_fit (kinds_of db no_expansion.vars) no_expansion.conditions ≡ true
no_expansion_fits db = refl

module _ (db : Db) (source : ExpansionSource) (scoped : (key : RelKey) (attrs : List ℕ) → is_scoped (used_expansion source key attrs) ≡ true) (q : Query)
    (fit : (key : RelKey) → In key (vars_of q) → (attrs : List ℕ) → IsFitExpansion db key (source key attrs)) where
  abbrev expansion_at : ℕ → RelKey → Expansion
  expansion_at v key = used_expansion source key (used_in_query v q)

  get_in : {X : Type 0} (xs : List X) (v : ℕ) (x : X) → slice_get xs v ≡ Some x → In x xs
  get_in [] zero x h = cc h
  get_in [] (suc v) x h = cc h
  get_in (y ∷ xs) zero x h = inl (cc h)
  get_in (y ∷ xs) (suc v) x h = inr (get_in xs v x h)

  used_fits : (key : RelKey) (attrs : List ℕ) → is_any attrs ≡ true → IsFitExpansion db key (source key attrs) → IsFitExpansion db key (used_expansion source key attrs)
  used_fits key [] h fits = cc h
  used_fits key (a ∷ attrs) h fits = fits

  each_fits : FitEach db expansion_at (λ v key. scoped key (used_in_query v q)) (IsUsed q) 0 (vars_of q)
  each_fits v key there known =
      let none_before : 0 + v ≡ v = omega arith in
      used_fits key (used_in_query (0 + v) q) known (fit key (get_in (vars_of q) v key there) (used_in_query (0 + v) q))

  -- what is put in has the kinds of what it stands for
  pub query_has : HasKinds (IsUsed q) (substituted_from 0 (query_expansions source q)) (kinds_of db (expansions_vars (query_expansions source q))) (var_kinds db q)
  query_has v a known h =
      let none_before : v ≡ 0 + v = omega arith in
      put_kinds db expansion_at (λ v key. scoped key (used_in_query v q)) (IsUsed q) (vars_of q) 0 0 [] refl each_fits v a (subst (IsUsed q) none_before known) h

  one_conditions : (key : RelKey) (attrs : List ℕ) → IsFitExpansion db key (source key attrs) → all_fit (kinds_of db (used_expansion source key attrs).vars) (used_expansion source key attrs).conditions ≡ true
  one_conditions key [] fits = refl
  one_conditions key (a ∷ attrs) fits = fits.conditions

  pub query_conditions : all_fit (kinds_of db (expansions_vars (query_expansions source q))) (conditions_from 0 (query_expansions source q)) ≡ true
  query_conditions =
      conditions_kinds db expansion_at (λ v key. scoped key (used_in_query v q)) (IsUsed q) (vars_of q) 0 0 [] refl
      (λ v key there. one_conditions key (used_in_query (0 + v) q) (fit key (get_in (vars_of q) v key there) (used_in_query (0 + v) q)))

  one_kept : (key : RelKey) (attrs : List ℕ) → IsFitExpansion db key (source key attrs) → list_all (is_kept db) (used_expansion source key attrs).vars ≡ true
  one_kept key [] fits = refl
  one_kept key (a ∷ attrs) fits = fits.kept

  each_kept : (k : ℕ) (keys : List RelKey) → ((key : RelKey) → In key keys → (attrs : List ℕ) → IsFitExpansion db key (source key attrs))
      → list_all (is_kept db) (expansions_vars (map (λ p. expansion_at p.0 p.1) (enumerate_from k keys))) ≡ true
  each_kept k [] fits = refl
  each_kept k (key ∷ keys) fits =
      all_append (is_kept db) (expansion_at k key).vars (expansions_vars (map (λ p. expansion_at p.0 p.1) (enumerate_from (k + 1) keys)))
      ∙ both_are (list_all (is_kept db) (expansion_at k key).vars) (list_all (is_kept db) (expansions_vars (map (λ p. expansion_at p.0 p.1) (enumerate_from (k + 1) keys))))
      (one_kept key (used_in_query k q) (fits key (inl refl) (used_in_query k q))) (each_kept (k + 1) keys (λ other inside attrs. fits other (inr inside) attrs))

  pub query_kept : list_all (is_kept db) (expansions_vars (query_expansions source q)) ≡ true
  query_kept = each_kept 0 (vars_of q) fit

  -- the expansion of its rows
  pub rows_fit : (key : RelKey) → kinds_at db key ≡ map (λ t. t.kind) (targets_of q) → valid_query db q ≡ true → is_scoped (rows_expansion (query_expansions source q) q) ≡ true
      → IsFitExpansion db key (rows_expansion (query_expansions source q) q)
  rows_fit key kinds stands is_within = record {
    scoped = is_within;
    kept = query_kept;
    kinds = λ a h.
        terms_kinds (IsUsed q) (substituted_from 0 (query_expansions source q)) new (var_kinds db q) query_has (targets_of q) (targets_names q) parts.0 a (ap (λ ks. is_some (slice_get ks a)) (sym kinds) ∙ h)
        ∙ ap (λ ks. slice_get ks a) (sym kinds);
    conditions = settled_fits new (expansions_vars (query_expansions source q)) (rows_conditions (query_expansions source q) q)
        (both_are (kinds_fit (replaced_in_qual no_aggregate (substituted_from 0 (query_expansions source q)) (qual_of q)) new) (all_fit new (map has_value (substituted_terms (query_expansions source q) q) ++ conditions_from 0 (query_expansions source q)))
        (fit_replaced (IsUsed q) (substituted_from 0 (query_expansions source q)) new (var_kinds db q) query_has (qual_of q) (qual_names q) parts.1)
        (all_append (λ q. kinds_fit q new) (map has_value (substituted_terms (query_expansions source q) q)) (conditions_from 0 (query_expansions source q))
        ∙ both_are (all_fit new (map has_value (substituted_terms (query_expansions source q) q))) (all_fit new (conditions_from 0 (query_expansions source q)))
        (values_fit (IsUsed q) (substituted_from 0 (query_expansions source q)) new (var_kinds db q) query_has (targets_of q) (targets_names q) parts.0) query_conditions));
  }
    where
      new : VarKinds
      new = kinds_of db (expansions_vars (query_expansions source q))

      parts : (list_all (λ t. has_kind (kind_of t.term (var_kinds db q)) t.kind) (targets_of q) ≡ true) × (kinds_fit (qual_of q) (var_kinds db q) ≡ true)
      parts = both_true (list_all (λ t. has_kind (kind_of t.term (var_kinds db q)) t.kind) (targets_of q)) (kinds_fit (qual_of q) (var_kinds db q)) stands
