-- Texts that name only their own variables, and what is made of them.
use Rattle.std.proofs.Common.{◌≡◌, refl, ap, ◌∙◌, ℕ, zero, suc, ◌+◌, ◌≤◌, Bool, true, false, List, [], ◌∷◌, ◌++◌, map, length, Option, Some, None, length-append, arith}
use Rattle.std.specs.List.{list_all}
use Rattle.std.proofs.lemmas.Bool.{lt-ltb}
use Rattle.calculus.specs.declared.query.RelKey.{RelKey}
use Rattle.calculus.specs.declared.query.QTerm.{QTerm}
use Rattle.calculus.specs.declared.query.QQual.{QQual, True}
use Rattle.calculus.specs.Tree.{negated}
use Rattle.calculus.specs.Term.{holds, no_aggs}
use Rattle.calculus.specs.declared.query.Query.{Query}
use Rattle.calculus.specs.declared.query.Target.{Target}
use Rattle.calculus.specs.QueryParts.{targets_of, qual_of}
use Rattle.view_text.specs.declared.expansion.Expansion.{Expansion}
use Rattle.view_text.specs.Replaced.{Substitution, replaced, replaced_in_qual, no_aggregate, further, without_value, shifted, shifted_qual, of_only}
use Rattle.view_text.specs.Scoped.{is_within, is_qual_within, are_within, is_scoped}
use Rattle.view_text.specs.Expansions.{term_at, own_or, attr_term, expansions_vars, substituted_from, conditions_from}
use Rattle.view_text.specs.ExpansionOf.{kept_expansion, has_value, substituted_terms, rows_conditions, settled, rows_expansion}
use Rattle.view_text.proofs.Within.{PutsWithin, FirstWithin, left_true, right_true, both_true, replaced_within, replaced_qual_within, first_within, first_qual_within}

-- ---- lists

pub all_append : (k : ℕ) (ps qs : List QQual) → list_all (is_qual_within k) ps ≡ true → list_all (is_qual_within k) qs ≡ true → list_all (is_qual_within k) (ps ++ qs) ≡ true
all_append k [] qs h g = g
all_append k (p ∷ ps) qs h g =
    both_true (is_qual_within k p) (list_all (is_qual_within k) (ps ++ qs)) (left_true (is_qual_within k p) (list_all (is_qual_within k) ps) h)
    (all_append k ps qs (right_true (is_qual_within k p) (list_all (is_qual_within k) ps) h) g)

-- ---- what moves

moves_within : (n k m : ℕ) → n + k ≤ m → FirstWithin k m (further n)
unfolding is_within
moves_within n k m h var attr l = lt-ltb (n + var) m (omega arith)

pub shifted_within : (n k m : ℕ) → n + k ≤ m → (t : QTerm) → is_within k t ≡ true → is_within m (shifted n t) ≡ true
shifted_within n k m h t w = first_within k m (further n) (moves_within n k m h) t w

all_shifted : (n k m : ℕ) → n + k ≤ m → (qs : List QQual) → list_all (is_qual_within k) qs ≡ true → list_all (is_qual_within m) (map (shifted_qual n) qs) ≡ true
all_shifted n k m h [] w = refl
all_shifted n k m h (q ∷ qs) w =
    both_true (is_qual_within m (shifted_qual n q)) (list_all (is_qual_within m) (map (shifted_qual n) qs))
    (first_qual_within k m (further n) (moves_within n k m h) q (left_true (is_qual_within k q) (list_all (is_qual_within k) qs) w))
    (all_shifted n k m h qs (right_true (is_qual_within k q) (list_all (is_qual_within k) qs) w))

-- ---- the terms of expansions

without_within : (n : ℕ) → is_within n without_value ≡ true
unfolding is_within
without_within n = refl

term_at_within : (k : ℕ) (terms : List QTerm) (place : ℕ) → list_all (is_within k) terms ≡ true → is_within k (term_at terms place) ≡ true
term_at_within k [] place h = without_within k
term_at_within k (t ∷ ts) zero h = left_true (is_within k t) (list_all (is_within k) ts) h
term_at_within k (t ∷ ts) (suc place) h = term_at_within k ts place (right_true (is_within k t) (list_all (is_within k) ts) h)

own_within : (k : ℕ) (o : Option (List QTerm)) (attr : ℕ) → are_within k o ≡ true → is_within k (own_or o attr) ≡ true
unfolding is_within
own_within k None attr h = h
own_within k (Some terms) attr h = term_at_within k terms attr h

attr_within : (expansion : Expansion) (attr : ℕ) → is_scoped expansion ≡ true → is_within (length expansion.vars) (attr_term expansion attr) ≡ true
attr_within expansion attr h =
    own_within (length expansion.vars) expansion.terms attr (left_true (are_within (length expansion.vars) expansion.terms) (list_all (is_qual_within (length expansion.vars)) expansion.conditions) h)

vars_before : (expansion : Expansion) (expansions : List Expansion) → length (expansions_vars (expansion ∷ expansions)) ≡ length expansion.vars + length (expansions_vars expansions)
vars_before expansion expansions = length-append expansion.vars (expansions_vars expansions)

pub put_within : (n m : ℕ) (expansions : List Expansion) → list_all is_scoped expansions ≡ true → n + length (expansions_vars expansions) ≤ m → PutsWithin m (substituted_from n expansions)
put_within n m [] s h var attr = without_within m
put_within n m (expansion ∷ expansions) s h zero attr =
    let e = vars_before expansion expansions in
    shifted_within n (length expansion.vars) m (omega arith) (attr_term expansion attr) (attr_within expansion attr (left_true (is_scoped expansion) (list_all is_scoped expansions) s))
put_within n m (expansion ∷ expansions) s h (suc var) attr =
    let e = vars_before expansion expansions in
    put_within (n + length expansion.vars) m expansions (right_true (is_scoped expansion) (list_all is_scoped expansions) s) (omega arith) var attr

pub conditions_within : (n m : ℕ) (expansions : List Expansion) → list_all is_scoped expansions ≡ true → n + length (expansions_vars expansions) ≤ m → list_all (is_qual_within m) (conditions_from n expansions) ≡ true
conditions_within n m [] s h = refl
conditions_within n m (expansion ∷ expansions) s h =
    let e = vars_before expansion expansions in
    all_append m (map (shifted_qual n) expansion.conditions) (conditions_from (n + length expansion.vars) expansions)
    (all_shifted n (length expansion.vars) m (omega arith) expansion.conditions
    (right_true (are_within (length expansion.vars) expansion.terms) (list_all (is_qual_within (length expansion.vars)) expansion.conditions) (left_true (is_scoped expansion) (list_all is_scoped expansions) s)))
    (conditions_within (n + length expansion.vars) m expansions (right_true (is_scoped expansion) (list_all is_scoped expansions) s) (omega arith))

-- ---- the expansions of queries and of what is kept

terms_put_within : (m : ℕ) (put : Substitution) → PutsWithin m put → (ts : List Target) → list_all (is_within m) (map (λ t. replaced no_aggregate put t.term) ts) ≡ true
terms_put_within m put h [] = refl
terms_put_within m put h (t ∷ ts) =
    both_true (is_within m (replaced no_aggregate put t.term)) (list_all (is_within m) (map (λ t. replaced no_aggregate put t.term) ts))
    (replaced_within m put h t.term) (terms_put_within m put h ts)

value_within : (m : ℕ) (t : QTerm) → is_within m t ≡ true → is_qual_within m (has_value t) ≡ true
unfolding is_qual_within
value_within m t h = both_true (is_within m t) (is_within m t) h h

values_within : (m : ℕ) (ts : List QTerm) → list_all (is_within m) ts ≡ true → list_all (is_qual_within m) (map has_value ts) ≡ true
values_within m [] h = refl
values_within m (t ∷ ts) h =
    both_true (is_qual_within m (has_value t)) (list_all (is_qual_within m) (map has_value ts)) (value_within m t (left_true (is_within m t) (list_all (is_within m) ts) h))
    (values_within m ts (right_true (is_within m t) (list_all (is_within m) ts) h))

-- conditions that are settled name no more than they did
settled_within : (m : ℕ) (vars : List RelKey) (conditions : List QQual) → list_all (is_qual_within m) conditions ≡ true → list_all (is_qual_within m) (settled vars conditions) ≡ true
unfolding settled is_qual_within
settled_within m [] conditions h = by (list_all (λ q. holds no_aggs q []) conditions)
  where
    by : (b : Bool) → list_all (is_qual_within m) (elim b [ true ↦ [] | false ↦ negated True ∷ [] ]) ≡ true
    by true = refl
    by false = refl
settled_within m (key ∷ vars) conditions h = h

-- what is put in for a query's rows names only the expansions' variables
pub rows_scoped : (expansions : List Expansion) (q : Query) → list_all is_scoped expansions ≡ true → is_scoped (rows_expansion expansions q) ≡ true
rows_scoped expansions q s =
    let m : ℕ = length (expansions_vars expansions) in
    let puts : PutsWithin m (substituted_from 0 expansions) = put_within 0 m expansions s (omega arith) in
    let terms : list_all (is_within m) (substituted_terms expansions q) ≡ true = terms_put_within m (substituted_from 0 expansions) puts (targets_of q) in
    both_true (list_all (is_within m) (substituted_terms expansions q)) (list_all (is_qual_within m) (settled (expansions_vars expansions) (rows_conditions expansions q))) terms
    (settled_within m (expansions_vars expansions) (rows_conditions expansions q)
    (both_true (is_qual_within m (replaced_in_qual no_aggregate (substituted_from 0 expansions) (qual_of q))) (list_all (is_qual_within m) (map has_value (substituted_terms expansions q) ++ conditions_from 0 expansions))
    (replaced_qual_within m (substituted_from 0 expansions) puts (qual_of q))
    (all_append m (map has_value (substituted_terms expansions q)) (conditions_from 0 expansions) (values_within m (substituted_terms expansions q) terms) (conditions_within 0 m expansions s (omega arith)))))

pub rows_made_scoped : (expansions : List Expansion) (q : Query) (expansion : Expansion) → list_all is_scoped expansions ≡ true → expansion ≡ rows_expansion expansions q → is_scoped expansion ≡ true
rows_made_scoped expansions q expansion s e = ap is_scoped e ∙ rows_scoped expansions q s

-- what is kept, with conditions on the only variable's row
pub kept_scoped : (conditions : List QQual) (key : RelKey) → list_all (is_qual_within 1) conditions ≡ true → is_scoped (kept_expansion conditions key) ≡ true
kept_scoped conditions key h = h

only_within : PutsWithin 1 of_only
unfolding is_within
only_within zero attr = refl
only_within (suc var) attr = without_within 1

-- the condition of a permit is on the only variable's row
pub condition_within : (q : QQual) → is_qual_within 1 (replaced_in_qual no_aggregate of_only q) ≡ true
condition_within q = replaced_qual_within 1 of_only only_within q
