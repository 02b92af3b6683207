-- Each variable of what is put in is used: it stands in a condition, or in what is put in for an attribute of a variable that is used.
use Rattle.std.proofs.Common.{◌≡◌, ◌⊎◌, refl, sym, ap, ◌∙◌, subst, inl, inr, ℕ, zero, suc, ◌+◌, ◌-◌, Bool, true, false, cond, ◌||◌, List, [], ◌∷◌, ◌++◌, map, length, arith}
use Rattle.std.proofs.lemmas.Bool.Decides.{nat_tests}
use Rattle.std.specs.Prelude.{nat_lt, ◌==◌, flat_map}
use Rattle.std.specs.List.{list_all, list_any, enumerate_from}
use Rattle.calculus.specs.declared.query.RelKey.{RelKey}
use Rattle.calculus.specs.declared.query.QTerm.{QTerm, Int, Chars, Attr, Agg'}
use Rattle.calculus.specs.declared.query.QQual.{QQual, True, Cmp, Like}
use Rattle.calculus.specs.declared.query.Target.{Target}
use Rattle.calculus.specs.declared.query.Query.{Query}
use Rattle.calculus.specs.Tree.{neg, abs, operation, concat, both, either, negated}
use Rattle.calculus.specs.Lists.{is_any}
use Rattle.calculus.specs.QueryParts.{term_aggregates, qual_aggregates, query_aggregates, targets_of, qual_of}
use Rattle.calculus.specs.Used.{used, used_in_qual, used_in_query}
use Rattle.calculus_laws.proofs.Members.{In, Within}
use Rattle.calculus_laws.proofs.Plain.{none_left, none_right, in_targets}
use Rattle.view_text.specs.declared.expansion.Expansion.{Expansion}
use Rattle.view_text.specs.Replaced.{further, shifted, shifted_qual, replaced, replaced_in_qual, no_aggregate}
use Rattle.view_text.specs.Scoped.{is_within, is_qual_within, are_within, is_scoped}
use Rattle.view_text.specs.Expansions.{attr_term, expansions_vars, substituted_from, conditions_from, place_from}
use Rattle.view_text.specs.ExpansionOf.{has_value, kept_expansion, substituted_terms, rows_conditions, settled, rows_expansion}
use Rattle.view_text.specs.Expanded.{substituted_query}
use Rattle.tree_laws.proofs.Values.{within_left, within_right, within_itself}
use Rattle.tree_laws.proofs.Halves.{any_append, used_all_of}
use Rattle.tree_laws.proofs.Scopes.{both_true}
use Rattle.tree_laws.proofs.Joint.{attr_within}
use Rattle.tree_laws.proofs.Queries.{targets_of-put}
use Rattle.tree_laws.proofs.Named.{Names, KeepsNames, term_named, qual_named, targets_named, none_keep, either_true, left_true, right_true}

-- ---- terms that are shifted

pub within_plain : (k : ℕ) (t : QTerm) → is_within k t ≡ true → term_aggregates t ≡ []
unfolding is_within term_aggregates
within_plain k (Int n) h = refl
within_plain k (Chars bytes) h = refl
within_plain k (Attr var attr) h = refl
within_plain k (neg t) h = within_plain k t h
within_plain k (abs t) h = within_plain k t h
within_plain k (operation op t u) h = let parts = both_true (is_within k t) (is_within k u) h in λ i. within_plain k t parts.0 i ++ within_plain k u parts.1 i
within_plain k (concat t u) h = let parts = both_true (is_within k t) (is_within k u) h in λ i. within_plain k t parts.0 i ++ within_plain k u parts.1 i
within_plain k (Agg' mark row) h = cc h

pub qual_within_plain : (k : ℕ) (q : QQual) → is_qual_within k q ≡ true → qual_aggregates q ≡ []
unfolding is_qual_within qual_aggregates
qual_within_plain k True h = refl
qual_within_plain k (Cmp op t u) h = let parts = both_true (is_within k t) (is_within k u) h in λ i. within_plain k t parts.0 i ++ within_plain k u parts.1 i
qual_within_plain k (Like t pattern same) h = within_plain k t h
qual_within_plain k (both p q) h = let parts = both_true (is_qual_within k p) (is_qual_within k q) h in λ i. qual_within_plain k p parts.0 i ++ qual_within_plain k q parts.1 i
qual_within_plain k (either p q) h = let parts = both_true (is_qual_within k p) (is_qual_within k q) h in λ i. qual_within_plain k p parts.0 i ++ qual_within_plain k q parts.1 i
qual_within_plain k (negated p) h = qual_within_plain k p h

pub within_none : {X : Type 0} (xs : List X) → xs ≡ [] → Within xs []
within_none xs h x inside = subst (In x) h inside

further_names : (n v w : ℕ) → w ≡ n + v → Names (further n) v w
further_names n v w e a = by (n + v == w) (grind (arith, nat_tests, e))
  where
    by : (b : Bool) → b ≡ true → is_any (cond b (a ∷ []) []) ≡ true
    by true h = refl
    by false h = cc h

shifted_named : (n v w k : ℕ) (t : QTerm) → w ≡ n + v → is_within k t ≡ true → is_any (used v t) ≡ true → is_any (used w (shifted n t)) ≡ true
shifted_named n v w k t e within h = term_named no_aggregate (further n) [] (none_keep (further n)) v w (further_names n v w e) t (within_none (term_aggregates t) (within_plain k t within)) h

qual_shifted_named : (n v w k : ℕ) (q : QQual) → w ≡ n + v → is_qual_within k q ≡ true → is_any (used_in_qual v q) ≡ true → is_any (used_in_qual w (shifted_qual n q)) ≡ true
qual_shifted_named n v w k q e within h =
    qual_named no_aggregate (further n) [] (none_keep (further n)) v w (further_names n v w e) q (within_none (qual_aggregates q) (qual_within_plain k q within)) h

-- ---- texts that name each of their variables

-- one of these conditions names the variable
abbrev pub some_name : ℕ → List QQual → Bool
some_name v qs = list_any (λ q. is_any (used_in_qual v q)) qs

-- the variable stands in a condition of the expansion, or in the term of each attribute
abbrev pub StandsIn : Expansion → ℕ → Type 0
StandsIn expansion v = (some_name v expansion.conditions ≡ true) ⊎ ((a : ℕ) → is_any (used v (attr_term expansion a)) ≡ true)

-- each variable of the expansion does
abbrev pub NamesAll : Expansion → Type 0
NamesAll expansion = (v : ℕ) → nat_lt v (length expansion.vars) ≡ true → StandsIn expansion v

conditions_shifted : (n v w k : ℕ) (qs : List QQual) → w ≡ n + v → list_all (is_qual_within k) qs ≡ true → some_name v qs ≡ true → some_name w (map (shifted_qual n) qs) ≡ true
conditions_shifted n v w k [] e within h = cc h
conditions_shifted n v w k (q ∷ qs) e within h =
    let parts = both_true (is_qual_within k q) (list_all (is_qual_within k) qs) within in
    elim (either_true (is_any (used_in_qual v q)) (some_name v qs) h) [
      | inl here ↦ left_true (is_any (used_in_qual w (shifted_qual n q))) (some_name w (map (shifted_qual n) qs)) (qual_shifted_named n v w k q e parts.0 here)
      | inr later ↦ right_true (is_any (used_in_qual w (shifted_qual n q))) (some_name w (map (shifted_qual n) qs)) (conditions_shifted n v w k qs e parts.1 later)
    ]

any_behind : {X : Type 0} (p : X → Bool) (xs ys : List X) → list_any p (xs ++ ys) ≡ (list_any p xs || list_any p ys)
any_behind p [] ys = refl
any_behind p (x ∷ xs) ys = ap (λ b. p x || b) (any_behind p xs ys) ∙ assoc (p x) (list_any p xs) (list_any p ys)
  where
    assoc : (a b c : Bool) → (a || (b || c)) ≡ ((a || b) || c)
    assoc true b c = refl
    assoc false b c = refl

length_behind : {X : Type 0} (xs ys : List X) → length (xs ++ ys) ≡ length xs + length ys
length_behind [] ys = omega arith
length_behind (x ∷ xs) ys = let more = length_behind xs ys in omega (arith, more)

-- texts, each made for a variable by its place and key, and what is known of a variable whose text has a variable at a place
module _ (expansion_at : ℕ → RelKey → Expansion) (IsMeant : ℕ → ℕ → Type 0) (scoped : (v : ℕ) (key : RelKey) → is_scoped (expansion_at v key) ≡ true)
    (named : (v : ℕ) (key : RelKey) → NamesAll (expansion_at v key)) (meant : (v : ℕ) (key : RelKey) (j : ℕ) → nat_lt j (length (expansion_at v key).vars) ≡ true → IsMeant v j) where
  -- the expansions from this variable on
  abbrev pub expansions_at : ℕ → List RelKey → List Expansion
  expansions_at k keys = map (λ p. expansion_at p.0 p.1) (enumerate_from k keys)

  -- the place stands in a condition, or in what is put in for each attribute of a variable that is meant
  abbrev pub IsPlaced : ℕ → ℕ → List RelKey → ℕ → Type 0
  IsPlaced n k keys w = (some_name w (conditions_from n (expansions_at k keys)) ≡ true) ⊎ ((i : ℕ) × (j : ℕ) × (w ≡ place_from n (expansions_at k keys) i + j) × IsMeant (k + i) j × Names (substituted_from n (expansions_at k keys)) i w)

  here : (n k : ℕ) (key : RelKey) (keys : List RelKey) (v w : ℕ) → w ≡ n + v → nat_lt v (length (expansion_at k key).vars) ≡ true → StandsIn (expansion_at k key) v → IsPlaced n k (key ∷ keys) w
  here n k key keys v w e inside (inl condition) =
      inl (any_behind (λ q. is_any (used_in_qual w q)) (map (shifted_qual n) (expansion_at k key).conditions) (conditions_from (n + length (expansion_at k key).vars) (expansions_at (k + 1) keys))
      ∙ left_true (some_name w (map (shifted_qual n) (expansion_at k key).conditions)) (some_name w (conditions_from (n + length (expansion_at k key).vars) (expansions_at (k + 1) keys)))
      (conditions_shifted n v w (length (expansion_at k key).vars) (expansion_at k key).conditions e
      (both_true (are_within (length (expansion_at k key).vars) (expansion_at k key).terms) (list_all (is_qual_within (length (expansion_at k key).vars)) (expansion_at k key).conditions) (scoped k key)).1 condition))
  here n k key keys v w e inside (inr attribute) =
      let same : k ≡ k + 0 = omega arith in
      inr (
        0,
        v,
        e,
        subst (λ i. IsMeant i v) same (meant k key v inside),
        λ a. shifted_named n v w (length (expansion_at k key).vars) (attr_term (expansion_at k key) a) e (attr_within (expansion_at k key) a (scoped k key)) (attribute a),
      )

  later : (n k : ℕ) (key : RelKey) (keys : List RelKey) (w : ℕ) → IsPlaced (n + length (expansion_at k key).vars) (k + 1) keys w → IsPlaced n k (key ∷ keys) w
  later n k key keys w (inl condition) =
      inl (any_behind (λ q. is_any (used_in_qual w q)) (map (shifted_qual n) (expansion_at k key).conditions) (conditions_from (n + length (expansion_at k key).vars) (expansions_at (k + 1) keys))
      ∙ right_true (some_name w (map (shifted_qual n) (expansion_at k key).conditions)) (some_name w (conditions_from (n + length (expansion_at k key).vars) (expansions_at (k + 1) keys))) condition)
  later n k key keys w (inr (i, j, at, is_meant, names)) = let same : k + 1 + i ≡ k + suc i = omega arith in inr (suc i, j, at, subst (λ i. IsMeant i j) same is_meant, names)

  pub placed : (keys : List RelKey) (n k w v : ℕ) → w ≡ n + v → nat_lt v (length (expansions_vars (expansions_at k keys))) ≡ true → IsPlaced n k keys w
  placed [] n k w v e h = absurd (grind (arith, nat_tests, h))
  placed (key ∷ keys) n k w v e h =
      go (nat_lt v (length (expansion_at k key).vars)) refl (λ less same. placed keys (n + length (expansion_at k key).vars) (k + 1) w (v - length (expansion_at k key).vars) same less)
    where
      go : (b : Bool) → nat_lt v (length (expansion_at k key).vars) ≡ b
          → (nat_lt (v - length (expansion_at k key).vars) (length (expansions_vars (expansions_at (k + 1) keys))) ≡ true → w ≡ n + length (expansion_at k key).vars + (v - length (expansion_at k key).vars)
          → IsPlaced (n + length (expansion_at k key).vars) (k + 1) keys w)
          → IsPlaced n k (key ∷ keys) w
      go true inside more = here n k key keys v w e inside (named k key v inside)
      go false outside more =
          let long = length_behind (expansion_at k key).vars (expansions_vars (expansions_at (k + 1) keys)) in
          let less : nat_lt (v - length (expansion_at k key).vars) (length (expansions_vars (expansions_at (k + 1) keys))) ≡ true = grind (arith, nat_tests, h, long, outside) in
          let same : w ≡ n + length (expansion_at k key).vars + (v - length (expansion_at k key).vars) = grind (arith, nat_tests, e, outside) in
          later n k key keys w (more less same)

  -- so it is with all of them
  pub placed_first : (keys : List RelKey) (w : ℕ) → nat_lt w (length (expansions_vars (expansions_at 0 keys))) ≡ true
      → (some_name w (conditions_from 0 (expansions_at 0 keys)) ≡ true) ⊎ ((i : ℕ) × (j : ℕ) × (w ≡ place_from 0 (expansions_at 0 keys) i + j) × IsMeant i j × Names (substituted_from 0 (expansions_at 0 keys)) i w)
  placed_first keys w h = elim (placed keys 0 0 w w (omega arith) h) [
    | inl condition ↦ inl condition
    | inr (i, j, at, is_meant, names) ↦ inr (i, j, at, subst (λ i. IsMeant i j) (none_before i) is_meant, names)
  ]
    where
      none_before : (i : ℕ) → 0 + i ≡ i
      none_before i = omega arith

-- ---- a query with expansions substituted

module _ (made : QTerm → QTerm) (expansions : List Expansion) (q : Query) (keeps : KeepsNames made (substituted_from 0 expansions) (query_aggregates q)) where
  -- what stands in a condition is used
  pub condition_used : (w : ℕ) → some_name w (conditions_from 0 expansions) ≡ true → is_any (used_in_query w (substituted_query made expansions q)) ≡ true
  condition_used w h =
      any_append (flat_map (λ t. used w t.term) (targets_of (substituted_query made expansions q))) (used_in_qual w (qual_of (substituted_query made expansions q)))
      ∙ right_true (is_any (flat_map (λ t. used w t.term) (targets_of (substituted_query made expansions q)))) (is_any (used_in_qual w (qual_of (substituted_query made expansions q))))
      (used_all_of w (replaced_in_qual made (substituted_from 0 expansions) (qual_of q) ∷ conditions_from 0 expansions)
      ∙ right_true (is_any (used_in_qual w (replaced_in_qual made (substituted_from 0 expansions) (qual_of q)))) (some_name w (conditions_from 0 expansions)) h)

  -- and what is put in for each attribute of a used variable
  pub attribute_used : (v w : ℕ) → Names (substituted_from 0 expansions) v w → is_any (used_in_query v q) ≡ true → is_any (used_in_query w (substituted_query made expansions q)) ≡ true
  attribute_used v w names h =
      any_append (flat_map (λ t. used w t.term) (targets_of (substituted_query made expansions q))) (used_in_qual w (qual_of (substituted_query made expansions q)))
      ∙ elim (either_true (is_any (flat_map (λ t. used v t.term) (targets_of q))) (is_any (used_in_qual v (qual_of q)))
      (sym (any_append (flat_map (λ t. used v t.term) (targets_of q)) (used_in_qual v (qual_of q))) ∙ h)) [
        | inl k ↦
            left_true (is_any (flat_map (λ t. used w t.term) (targets_of (substituted_query made expansions q)))) (is_any (used_in_qual w (qual_of (substituted_query made expansions q))))
            (ap (λ ts. is_any (flat_map (λ t. used w t.term) ts)) (targets_of-put made expansions q)
            ∙ targets_named made (substituted_from 0 expansions) (query_aggregates q) keeps v w names (targets_of q)
            (within_left (in_targets (targets_of q)) (qual_aggregates (qual_of q)) (query_aggregates q) (within_itself (query_aggregates q))) k)
        | inr k ↦
            right_true (is_any (flat_map (λ t. used w t.term) (targets_of (substituted_query made expansions q)))) (is_any (used_in_qual w (qual_of (substituted_query made expansions q))))
            (used_all_of w (replaced_in_qual made (substituted_from 0 expansions) (qual_of q) ∷ conditions_from 0 expansions)
            ∙ left_true (is_any (used_in_qual w (replaced_in_qual made (substituted_from 0 expansions) (qual_of q)))) (some_name w (conditions_from 0 expansions))
            (qual_named made (substituted_from 0 expansions) (query_aggregates q) keeps v w names (qual_of q)
            (within_right (in_targets (targets_of q)) (qual_aggregates (qual_of q)) (query_aggregates q) (within_itself (query_aggregates q))) k))
      ]

-- ---- the expansions of keys

pub kept_names : (conditions : List QQual) (key : RelKey) → NamesAll (kept_expansion conditions key)
kept_names conditions key zero h = inr (λ a. refl)
kept_names conditions key (suc v) h = absurd (grind (arith, nat_tests, h))

some_value : (w : ℕ) (ts : List QTerm) → is_any (flat_map (used w) ts) ≡ true → some_name w (map has_value ts) ≡ true
some_value w [] h = cc h
some_value w (t ∷ ts) h =
    elim (either_true (is_any (used w t)) (is_any (flat_map (used w) ts)) (sym (any_append (used w t) (flat_map (used w) ts)) ∙ h)) [
      | inl k ↦ left_true (is_any (used w t ++ used w t)) (some_name w (map has_value ts)) (any_append (used w t) (used w t) ∙ left_true (is_any (used w t)) (is_any (used w t)) k)
      | inr k ↦ right_true (is_any (used w t ++ used w t)) (some_name w (map has_value ts)) (some_value w ts k)
    ]

-- a query without aggregates whose texts are so: its conditions name all
conditions_name : (expansions : List Expansion) (q : Query) → query_aggregates q ≡ [] → (w : ℕ)
    → (some_name w (conditions_from 0 expansions) ≡ true) ⊎ ((v : ℕ) × (is_any (used_in_query v q) ≡ true) × Names (substituted_from 0 expansions) v w) → some_name w (rows_conditions expansions q) ≡ true
conditions_name expansions q plain w (inl condition) =
    right_true (is_any (used_in_qual w (replaced_in_qual no_aggregate (substituted_from 0 expansions) (qual_of q)))) (some_name w (map has_value (substituted_terms expansions q) ++ conditions_from 0 expansions))
    (any_behind (λ q. is_any (used_in_qual w q)) (map has_value (substituted_terms expansions q)) (conditions_from 0 expansions)
    ∙ right_true (some_name w (map has_value (substituted_terms expansions q))) (some_name w (conditions_from 0 expansions)) condition)
conditions_name expansions q plain w (inr (v, is_used, names)) =
    elim (either_true (is_any (flat_map (λ t. used v t.term) (targets_of q))) (is_any (used_in_qual v (qual_of q)))
    (sym (any_append (flat_map (λ t. used v t.term) (targets_of q)) (used_in_qual v (qual_of q))) ∙ is_used)) [
      | inl k ↦
          right_true (is_any (used_in_qual w (replaced_in_qual no_aggregate (substituted_from 0 expansions) (qual_of q)))) (some_name w (map has_value (substituted_terms expansions q) ++ conditions_from 0 expansions))
          (any_behind (λ q. is_any (used_in_qual w q)) (map has_value (substituted_terms expansions q)) (conditions_from 0 expansions)
          ∙ left_true (some_name w (map has_value (substituted_terms expansions q))) (some_name w (conditions_from 0 expansions))
          (some_value w (substituted_terms expansions q) (terms (targets_of q) (none_left (in_targets (targets_of q)) (qual_aggregates (qual_of q)) plain) k)))
      | inr k ↦
          left_true (is_any (used_in_qual w (replaced_in_qual no_aggregate (substituted_from 0 expansions) (qual_of q)))) (some_name w (map has_value (substituted_terms expansions q) ++ conditions_from 0 expansions))
          (qual_named no_aggregate (substituted_from 0 expansions) [] (none_keep (substituted_from 0 expansions)) v w names (qual_of q)
          (within_none (qual_aggregates (qual_of q)) (none_right (in_targets (targets_of q)) (qual_aggregates (qual_of q)) plain)) k)
    ]
  where
    terms : (ts : List Target) → in_targets ts ≡ [] → is_any (flat_map (λ t. used v t.term) ts) ≡ true
        → is_any (flat_map (used w) (map (λ t. replaced no_aggregate (substituted_from 0 expansions) t.term) ts)) ≡ true
    terms [] none h = cc h
    terms (t ∷ ts) none h =
        any_append (used w (replaced no_aggregate (substituted_from 0 expansions) t.term)) (flat_map (used w) (map (λ t. replaced no_aggregate (substituted_from 0 expansions) t.term) ts))
        ∙ elim (either_true (is_any (used v t.term)) (is_any (flat_map (λ t. used v t.term) ts)) (sym (any_append (used v t.term) (flat_map (λ t. used v t.term) ts)) ∙ h)) [
          | inl k ↦
              left_true (is_any (used w (replaced no_aggregate (substituted_from 0 expansions) t.term))) (is_any (flat_map (used w) (map (λ t. replaced no_aggregate (substituted_from 0 expansions) t.term) ts)))
              (term_named no_aggregate (substituted_from 0 expansions) [] (none_keep (substituted_from 0 expansions)) v w names t.term
              (within_none (term_aggregates t.term) (none_left (term_aggregates t.term) (in_targets ts) none)) k)
          | inr k ↦
              right_true (is_any (used w (replaced no_aggregate (substituted_from 0 expansions) t.term))) (is_any (flat_map (used w) (map (λ t. replaced no_aggregate (substituted_from 0 expansions) t.term) ts)))
              (terms ts (none_right (term_aggregates t.term) (in_targets ts) none) k)
        ]

-- conditions that are settled name what they named, where there is a variable
settled_names : (vars : List RelKey) (conditions : List QQual) (w : ℕ) → nat_lt w (length vars) ≡ true → some_name w conditions ≡ true → some_name w (settled vars conditions) ≡ true
unfolding settled
settled_names [] conditions w h k = absurd (grind (arith, nat_tests, h))
settled_names (key ∷ vars) conditions w h k = k

-- and so its expansion does
pub rows_name : (expansions : List Expansion) (q : Query) → query_aggregates q ≡ [] → (w : ℕ) → nat_lt w (length (expansions_vars expansions)) ≡ true
    → (some_name w (conditions_from 0 expansions) ≡ true) ⊎ ((v : ℕ) × (is_any (used_in_query v q) ≡ true) × Names (substituted_from 0 expansions) v w) → some_name w (rows_expansion expansions q).conditions ≡ true
rows_name expansions q plain w inside placed = settled_names (expansions_vars expansions) (rows_conditions expansions q) w inside (conditions_name expansions q plain w placed)
