-- What is put in has the kinds of what it stands for.
use Rattle.std.proofs.Common.{◌≡◌, refl, ap, ◌∙◌, ℕ, zero, suc, ◌+◌, Bool, true, false, cond, not, ◌&&◌, List, [], ◌∷◌, ◌++◌, map, length, Option, Some, None, is_some, arith}
use Rattle.std.proofs.lemmas.Bool.Decides.{nat_tests}
use Rattle.std.specs.Prelude.{slice_get, nat_lt, ◌==◌}
use Rattle.std.specs.List.{list_all}
use Rattle.calculus.specs.declared.value.Kind.{Kind}
use Rattle.calculus.specs.declared.query.QTerm.{QTerm, Int, Chars, Attr, Agg'}
use Rattle.calculus.specs.declared.query.QQual.{QQual, True, Cmp, Like}
use Rattle.calculus.specs.Tree.{neg, abs, operation, concat, both, either, negated}
use Rattle.calculus.specs.Kinds.{kind_in, attribute_kind, kind_of, number_kind, operated_kind, joined_kind, comparable, is_text_kind, kinds_fit, is_number_kind}
use Rattle.calculus.specs.Lists.{is_any}
use Rattle.calculus.specs.Used.{used, used_in_qual}
use Rattle.view_text.specs.Replaced.{Substitution, shifted, shifted_qual, replaced, replaced_in_qual, no_aggregate}
use Rattle.view_text.specs.Scoped.{is_within, is_qual_within}
use Rattle.tree_laws.proofs.Halves.{any_append}
use Rattle.tree_laws.proofs.Named.{left_true, right_true}
use Rattle.tree_laws.proofs.Scopes.{both_true}
use Rattle.tree_laws.proofs.Nests.{number_there, operated_there, joined_there, compared_there, text_there}

-- the kinds of each variable's attributes
abbrev pub VarKinds : Type 0
VarKinds = List (List Kind)

-- ---- what is shifted

get_front : (seg post : VarKinds) (v : ℕ) → nat_lt v (length seg) ≡ true → slice_get (seg ++ post) v ≡ slice_get seg v
get_front [] post v h = absurd (grind (arith, nat_tests, h))
get_front (row ∷ seg) post zero h = refl
get_front (row ∷ seg) post (suc v) h = let less : nat_lt v (length seg) ≡ true = grind (arith, nat_tests, h) in get_front seg post v less

get_behind : (pre rest : VarKinds) (i v : ℕ) → i ≡ length pre + v → slice_get (pre ++ rest) i ≡ slice_get rest v
get_behind [] rest i v h = let same : i ≡ v = omega (arith, h) in ap (slice_get rest) same
get_behind (row ∷ pre) rest zero v h = absurd (omega (arith, h))
get_behind (row ∷ pre) rest (suc i) v h = let less : i ≡ length pre + v = omega (arith, h) in get_behind pre rest i v less

attribute_further : (pre seg post : VarKinds) (v a : ℕ) → nat_lt v (length seg) ≡ true → attribute_kind (pre ++ (seg ++ post)) (length pre + v) a ≡ attribute_kind seg v a
unfolding attribute_kind
attribute_further pre seg post v a h = ap (λ r. kind_in r a) (get_behind pre (seg ++ post) (length pre + v) v refl ∙ get_front seg post v h)

module _ (pre seg post : VarKinds) where
  pub kind_shifted : (t : QTerm) → is_within (length seg) t ≡ true → kind_of (shifted (length pre) t) (pre ++ (seg ++ post)) ≡ kind_of t seg
  unfolding kind_of replaced is_within
  kind_shifted (Int n) h = refl
  kind_shifted (Chars bytes) h = refl
  kind_shifted (Attr var attr) h = attribute_further pre seg post var attr h
  kind_shifted (neg t) h = ap number_kind (kind_shifted t h)
  kind_shifted (abs t) h = ap number_kind (kind_shifted t h)
  kind_shifted (operation op t u) h = let parts = both_true (is_within (length seg) t) (is_within (length seg) u) h in λ i. operated_kind (kind_shifted t parts.0 i) (kind_shifted u parts.1 i)
  kind_shifted (concat t u) h = let parts = both_true (is_within (length seg) t) (is_within (length seg) u) h in λ i. joined_kind (kind_shifted t parts.0 i) (kind_shifted u parts.1 i)
  kind_shifted (Agg' mark row) h = cc h

  pub fit_shifted : (q : QQual) → is_qual_within (length seg) q ≡ true → kinds_fit (shifted_qual (length pre) q) (pre ++ (seg ++ post)) ≡ kinds_fit q seg
  unfolding kinds_fit replaced_in_qual is_qual_within
  fit_shifted True h = refl
  fit_shifted (Cmp op t u) h = let parts = both_true (is_within (length seg) t) (is_within (length seg) u) h in λ i. comparable (kind_shifted t parts.0 i) (kind_shifted u parts.1 i)
  fit_shifted (Like t pattern same) h = ap is_text_kind (kind_shifted t h)
  fit_shifted (both p q) h = let parts = both_true (is_qual_within (length seg) p) (is_qual_within (length seg) q) h in λ i. fit_shifted p parts.0 i && fit_shifted q parts.1 i
  fit_shifted (either p q) h = let parts = both_true (is_qual_within (length seg) p) (is_qual_within (length seg) q) h in λ i. fit_shifted p parts.0 i && fit_shifted q parts.1 i
  fit_shifted (negated p) h = fit_shifted p h

  -- each of these fits
  abbrev pub all_fit : VarKinds → List QQual → Bool
  all_fit vars qs = list_all (λ q. kinds_fit q vars) qs

  pub all_fit_shifted : (qs : List QQual) → list_all (is_qual_within (length seg)) qs ≡ true → list_all (λ q. kinds_fit q (pre ++ (seg ++ post))) (map (shifted_qual (length pre)) qs) ≡ list_all (λ q. kinds_fit q seg) qs
  all_fit_shifted [] h = refl
  all_fit_shifted (q ∷ qs) h = let parts = both_true (is_qual_within (length seg) q) (list_all (is_qual_within (length seg)) qs) h in λ i. fit_shifted q parts.0 i && all_fit_shifted qs parts.1 i

-- ---- what is put in

-- what is put in for an attribute that is there, of a variable of which this is known, has its kind
abbrev pub HasKinds : (ℕ → Type 0) → Substitution → VarKinds → VarKinds → Type 0
HasKinds Known put new vars = (v a : ℕ) → Known v → is_some (attribute_kind vars v a) ≡ true → kind_of (put v a) new ≡ attribute_kind vars v a

-- of each variable that is named this is known
abbrev pub Names : (ℕ → Type 0) → (ℕ → List ℕ) → Type 0
Names Known named = (v : ℕ) → is_any (named v) ≡ true → Known v

pub in_left : (Known : ℕ → Type 0) (xs ys : ℕ → List ℕ) → Names Known (λ v. xs v ++ ys v) → Names Known xs
in_left Known xs ys h v k = h v (any_append (xs v) (ys v) ∙ left_true (is_any (xs v)) (is_any (ys v)) k)

pub in_right : (Known : ℕ → Type 0) (xs ys : ℕ → List ℕ) → Names Known (λ v. xs v ++ ys v) → Names Known ys
in_right Known xs ys h v k = h v (any_append (xs v) (ys v) ∙ right_true (is_any (xs v)) (is_any (ys v)) k)

pub own_name : (v a : ℕ) → is_any (used v (Attr v a)) ≡ true
own_name v a = by (v == v) (grind (arith, nat_tests))
  where
    by : (b : Bool) → b ≡ true → is_any (cond b (a ∷ []) []) ≡ true
    by true h = refl
    by false h = cc h

module _ (Known : ℕ → Type 0) (put : Substitution) (new vars : VarKinds) (has : HasKinds Known put new vars) where
  pub kind_replaced : (t : QTerm) → Names Known (λ v. used v t) → is_some (kind_of t vars) ≡ true → kind_of (replaced no_aggregate put t) new ≡ kind_of t vars
  unfolding kind_of replaced
  kind_replaced (Int n) names h = refl
  kind_replaced (Chars bytes) names h = refl
  kind_replaced (Attr var attr) names h = has var attr (names var (own_name var attr)) h
  kind_replaced (neg t) names h = ap number_kind (kind_replaced t names (number_there (kind_of t vars) h))
  kind_replaced (abs t) names h = ap number_kind (kind_replaced t names (number_there (kind_of t vars) h))
  kind_replaced (operation op t u) names h =
      let there = operated_there (kind_of t vars) (kind_of u vars) h in
      let left = kind_replaced t (in_left Known (λ v. used v t) (λ v. used v u) names) there.0 in
      let right = kind_replaced u (in_right Known (λ v. used v t) (λ v. used v u) names) there.1 in
      λ i. operated_kind (left i) (right i)
  kind_replaced (concat t u) names h =
      let there = joined_there (kind_of t vars) (kind_of u vars) h in
      let left = kind_replaced t (in_left Known (λ v. used v t) (λ v. used v u) names) there.0 in
      let right = kind_replaced u (in_right Known (λ v. used v t) (λ v. used v u) names) there.1 in
      λ i. joined_kind (left i) (right i)
  kind_replaced (Agg' mark row) names h = cc h

  pub fit_replaced : (q : QQual) → Names Known (λ v. used_in_qual v q) → kinds_fit q vars ≡ true → kinds_fit (replaced_in_qual no_aggregate put q) new ≡ true
  unfolding kinds_fit replaced_in_qual
  fit_replaced True names h = refl
  fit_replaced (Cmp op t u) names h =
      let there = compared_there (kind_of t vars) (kind_of u vars) h in
      let left = kind_replaced t (in_left Known (λ v. used v t) (λ v. used v u) names) there.0 in
      let right = kind_replaced u (in_right Known (λ v. used v t) (λ v. used v u) names) there.1 in
      (λ i. comparable (left i) (right i)) ∙ h
  fit_replaced (Like t pattern same) names h = ap is_text_kind (kind_replaced t names (text_there (kind_of t vars) h)) ∙ h
  fit_replaced (both p q) names h =
      let parts = both_true (kinds_fit p vars) (kinds_fit q vars) h in
      let left = fit_replaced p (in_left Known (λ v. used_in_qual v p) (λ v. used_in_qual v q) names) parts.0 in
      let right = fit_replaced q (in_right Known (λ v. used_in_qual v p) (λ v. used_in_qual v q) names) parts.1 in
      λ i. left i && right i
  fit_replaced (either p q) names h =
      let parts = both_true (kinds_fit p vars) (kinds_fit q vars) h in
      let left = fit_replaced p (in_left Known (λ v. used_in_qual v p) (λ v. used_in_qual v q) names) parts.0 in
      let right = fit_replaced q (in_right Known (λ v. used_in_qual v p) (λ v. used_in_qual v q) names) parts.1 in
      λ i. left i && right i
  fit_replaced (negated p) names h = fit_replaced p names h

-- ---- a term that has a kind compares with itself

pub itself_compares : (k : Option Kind) → is_some k ≡ true → comparable k k ≡ true
unfolding comparable
itself_compares None h = cc h
itself_compares (Some k) h = by (is_number_kind k) refl
  where
    by : (b : Bool) → is_number_kind k ≡ b → cond b (is_number_kind k) (not (is_number_kind k)) ≡ true
    by true e = e
    by false e = ap not e
