-- What is put in names only the variables of the expansions.
use Rattle.std.proofs.Common.{◌≡◌, refl, ◌∙◌, ℕ, zero, suc, ◌+◌, ◌≤◌, Bool, true, false, ◌&&◌, List, [], ◌∷◌, ◌++◌, map, length, arith}
use Rattle.std.proofs.lemmas.Bool.Decides.{nat_tests}
use Rattle.std.specs.Prelude.{nat_lt}
use Rattle.std.specs.List.{list_all}
use Rattle.calculus.specs.declared.query.QTerm.{QTerm, Int, Chars, Attr, Agg'}
use Rattle.calculus.specs.declared.query.QQual.{QQual, True, Cmp, Like}
use Rattle.calculus.specs.declared.query.RelKey.{RelKey}
use Rattle.calculus.specs.declared.query.Target.{Target}
use Rattle.calculus.specs.Term.{holds, no_aggs}
use Rattle.calculus.specs.declared.query.Query.{Query}
use Rattle.calculus.specs.Tree.{neg, abs, operation, concat, both, either, negated}
use Rattle.calculus.specs.QueryParts.{targets_of, qual_of}
use Rattle.view_text.specs.declared.expansion.Expansion.{Expansion}
use Rattle.view_text.specs.Replaced.{Substitution, without_value, shifted, shifted_qual, replaced, replaced_in_qual, no_aggregate}
use Rattle.view_text.specs.Scoped.{is_within, is_qual_within, are_within, is_scoped}
use Rattle.view_text.specs.Expansions.{attr_term, expansions_vars, substituted_from, conditions_from}
use Rattle.view_text.specs.ExpansionOf.{has_value, substituted_terms, rows_conditions, settled, rows_expansion}
use Rattle.tree_laws.proofs.Scopes.{both_true}
use Rattle.tree_laws.proofs.Joint.{both_are, all_append, attr_within}

-- ---- terms and qualifications

without_within : (n : ℕ) → is_within n without_value ≡ true
unfolding is_within
without_within n = refl

module _ (n : ℕ) (put : Substitution) (within : (v a : ℕ) → is_within n (put v a) ≡ true) where
  pub replaced_within : (t : QTerm) → is_within n (replaced no_aggregate put t) ≡ true
  unfolding replaced is_within
  replaced_within (Int z) = refl
  replaced_within (Chars bytes) = refl
  replaced_within (Attr var attr) = within var attr
  replaced_within (neg t) = replaced_within t
  replaced_within (abs t) = replaced_within t
  replaced_within (operation op t u) = λ i. replaced_within t i && replaced_within u i
  replaced_within (concat t u) = λ i. replaced_within t i && replaced_within u i
  replaced_within (Agg' mark row) = refl

  pub qual_replaced_within : (q : QQual) → is_qual_within n (replaced_in_qual no_aggregate put q) ≡ true
  unfolding replaced_in_qual is_qual_within
  qual_replaced_within True = refl
  qual_replaced_within (Cmp op t u) = λ i. replaced_within t i && replaced_within u i
  qual_replaced_within (Like t pattern same) = replaced_within t
  qual_replaced_within (both p q) = λ i. qual_replaced_within p i && qual_replaced_within q i
  qual_replaced_within (either p q) = λ i. qual_replaced_within p i && qual_replaced_within q i
  qual_replaced_within (negated p) = qual_replaced_within p

-- ---- what is shifted

module _ (n k total : ℕ) (room : n + k ≤ total) where
  lies : (v : ℕ) → nat_lt v k ≡ true → nat_lt (n + v) total ≡ true
  lies v h = grind (arith, nat_tests, h, room)

  shifted_within : (t : QTerm) → is_within k t ≡ true → is_within total (shifted n t) ≡ true
  unfolding replaced is_within
  shifted_within (Int z) h = refl
  shifted_within (Chars bytes) h = refl
  shifted_within (Attr var attr) h = lies var h
  shifted_within (neg t) h = shifted_within t h
  shifted_within (abs t) h = shifted_within t h
  shifted_within (operation op t u) h = let parts = both_true (is_within k t) (is_within k u) h in λ i. shifted_within t parts.0 i && shifted_within u parts.1 i
  shifted_within (concat t u) h = let parts = both_true (is_within k t) (is_within k u) h in λ i. shifted_within t parts.0 i && shifted_within u parts.1 i
  shifted_within (Agg' mark row) h = cc h

  qual_shifted_within : (q : QQual) → is_qual_within k q ≡ true → is_qual_within total (shifted_qual n q) ≡ true
  unfolding replaced_in_qual is_qual_within
  qual_shifted_within True h = refl
  qual_shifted_within (Cmp op t u) h = let parts = both_true (is_within k t) (is_within k u) h in λ i. shifted_within t parts.0 i && shifted_within u parts.1 i
  qual_shifted_within (Like t pattern same) h = shifted_within t h
  qual_shifted_within (both p q) h = let parts = both_true (is_qual_within k p) (is_qual_within k q) h in λ i. qual_shifted_within p parts.0 i && qual_shifted_within q parts.1 i
  qual_shifted_within (either p q) h = let parts = both_true (is_qual_within k p) (is_qual_within k q) h in λ i. qual_shifted_within p parts.0 i && qual_shifted_within q parts.1 i
  qual_shifted_within (negated p) h = qual_shifted_within p h

  quals_shifted_within : (qs : List QQual) → list_all (is_qual_within k) qs ≡ true → list_all (is_qual_within total) (map (shifted_qual n) qs) ≡ true
  quals_shifted_within [] h = refl
  quals_shifted_within (q ∷ qs) h = let parts = both_true (is_qual_within k q) (list_all (is_qual_within k) qs) h in λ i. qual_shifted_within q parts.0 i && quals_shifted_within qs parts.1 i

-- ---- texts one behind the other

-- each expansion names only its own variables
abbrev pub all_scoped : List Expansion → Bool
all_scoped expansions = list_all is_scoped expansions

vars_length : (expansion : Expansion) (expansions : List Expansion) → length (expansions_vars (expansion ∷ expansions)) ≡ length expansion.vars + length (expansions_vars expansions)
vars_length expansion expansions = behind expansion.vars (expansions_vars expansions)
  where
    behind : {X : Type 0} (xs ys : List X) → length (xs ++ ys) ≡ length xs + length ys
    behind [] ys = omega arith
    behind (x ∷ xs) ys = let more = behind xs ys in omega (arith, more)

pub put_within : (expansions : List Expansion) (n total : ℕ) → n + length (expansions_vars expansions) ≤ total → all_scoped expansions ≡ true → (v a : ℕ) → is_within total (substituted_from n expansions v a) ≡ true
put_within [] n total room scoped v a = without_within total
put_within (expansion ∷ expansions) n total room scoped zero a =
    let parts = both_true (is_scoped expansion) (all_scoped expansions) scoped in
    let long = vars_length expansion expansions in
    let fits : n + length expansion.vars ≤ total = omega (arith, room, long) in
    shifted_within n (length expansion.vars) total fits (attr_term expansion a) (attr_within expansion a parts.0)
put_within (expansion ∷ expansions) n total room scoped (suc v) a =
    let parts = both_true (is_scoped expansion) (all_scoped expansions) scoped in
    let long = vars_length expansion expansions in
    let fits : n + length expansion.vars + length (expansions_vars expansions) ≤ total = omega (arith, room, long) in
    put_within expansions (n + length expansion.vars) total fits parts.1 v a

pub conditions_are_within : (expansions : List Expansion) (n total : ℕ) → n + length (expansions_vars expansions) ≤ total → all_scoped expansions ≡ true → list_all (is_qual_within total) (conditions_from n expansions) ≡ true
conditions_are_within [] n total room scoped = refl
conditions_are_within (expansion ∷ expansions) n total room scoped =
    let parts = both_true (is_scoped expansion) (all_scoped expansions) scoped in
    let long = vars_length expansion expansions in
    let fits : n + length expansion.vars ≤ total = omega (arith, room, long) in
    let more : n + length expansion.vars + length (expansions_vars expansions) ≤ total = omega (arith, room, long) in
    let own = (both_true (are_within (length expansion.vars) expansion.terms) (list_all (is_qual_within (length expansion.vars)) expansion.conditions) parts.0).1 in
    all_append (is_qual_within total) (map (shifted_qual n) expansion.conditions) (conditions_from (n + length expansion.vars) expansions)
    ∙ both_are (list_all (is_qual_within total) (map (shifted_qual n) expansion.conditions)) (list_all (is_qual_within total) (conditions_from (n + length expansion.vars) expansions))
    (quals_shifted_within n (length expansion.vars) total fits expansion.conditions own) (conditions_are_within expansions (n + length expansion.vars) total more parts.1)

-- ---- the expansion of a query's rows

-- conditions that are settled name no more than they did
settled_within : (n : ℕ) (vars : List RelKey) (conditions : List QQual) → list_all (is_qual_within n) conditions ≡ true → list_all (is_qual_within n) (settled vars conditions) ≡ true
unfolding settled is_qual_within
settled_within n [] conditions h = by (list_all (λ q. holds no_aggs q []) conditions)
  where
    by : (b : Bool) → list_all (is_qual_within n) (elim b [ true ↦ [] | false ↦ negated True ∷ [] ]) ≡ true
    by true = refl
    by false = refl
settled_within n (key ∷ vars) conditions h = h

pub rows_expansion_scoped : (expansions : List Expansion) (q : Query) → all_scoped expansions ≡ true → is_scoped (rows_expansion expansions q) ≡ true
unfolding is_qual_within
rows_expansion_scoped expansions q scoped =
    both_are (list_all (is_within total) (substituted_terms expansions q)) (list_all (is_qual_within total) (settled (expansions_vars expansions) (rows_conditions expansions q)))
    (terms (targets_of q))
    (settled_within total (expansions_vars expansions) (rows_conditions expansions q)
    (both_are (is_qual_within total (replaced_in_qual no_aggregate (substituted_from 0 expansions) (qual_of q))) (list_all (is_qual_within total) rest)
    (qual_replaced_within total (substituted_from 0 expansions) within (qual_of q))
    (all_append (is_qual_within total) (map has_value (substituted_terms expansions q)) (conditions_from 0 expansions)
    ∙ both_are (list_all (is_qual_within total) (map has_value (substituted_terms expansions q))) (list_all (is_qual_within total) (conditions_from 0 expansions))
    (values (targets_of q)) (conditions_are_within expansions 0 total room scoped))))
  where
    total : ℕ
    total = length (expansions_vars expansions)

    rest : List QQual
    rest = map has_value (substituted_terms expansions q) ++ conditions_from 0 expansions

    room : 0 + length (expansions_vars expansions) ≤ total
    room = omega arith

    within : (v a : ℕ) → is_within total (substituted_from 0 expansions v a) ≡ true
    within v a = put_within expansions 0 total room scoped v a

    terms : (ts : List Target) → list_all (is_within total) (map (λ t. replaced no_aggregate (substituted_from 0 expansions) t.term) ts) ≡ true
    terms [] = refl
    terms (t ∷ ts) = λ i. replaced_within total (substituted_from 0 expansions) within t.term i && terms ts i

    values : (ts : List Target) → list_all (is_qual_within total) (map has_value (map (λ t. replaced no_aggregate (substituted_from 0 expansions) t.term) ts)) ≡ true
    values [] = refl
    values (t ∷ ts) = λ i. (replaced_within total (substituted_from 0 expansions) within t.term i && replaced_within total (substituted_from 0 expansions) within t.term i) && values ts i
