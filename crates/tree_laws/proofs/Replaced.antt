-- What is substituted for attributes and aggregates adds so many levels at most, and what has a size has few.
use Rattle.std.proofs.Common.{◌≡◌, refl, sym, ap, ℕ, zero, suc, ◌+◌, ◌≤◌, max, true, List, [], ◌∷◌, map, is_some, arith}
use Rattle.calculus.specs.declared.value.Kind.{Kind}
use Rattle.calculus.specs.declared.query.RelKey.{RelKey}
use Rattle.calculus.specs.declared.query.QTerm.{QTerm, Int, Chars, Attr, Agg', items-the_row-QTerm, Row_of-QTerm, end_of-QTerm, more_of-QTerm, more_of-QAgg}
use Rattle.calculus.specs.declared.query.QAgg.{QAgg}
use Rattle.calculus.specs.declared.query.QQual.{QQual, True, Cmp, Like}
use Rattle.calculus.specs.declared.query.Target.{Target}
use Rattle.calculus.specs.declared.query.Query.{Query, Query', items-the_row-Target, Row_of-Target, end_of-Target, more_of-Target}
use Rattle.calculus.specs.Tree.{neg, abs, operation, concat, both, either, negated, term_row, target_row, query}
use Rattle.calculus.specs.TreeLevels.{term_levels, greatest_term_levels, qual_levels, greatest_target_levels, query_levels}
use Rattle.calculus.specs.Kinds.{kind_of, kinds_fit}
use Rattle.calculus.specs.QueryParts.{targets_of, qual_of, term_aggregates, qual_aggregates}
use Rattle.calculus.specs.Sizes.{Measures, attr_size, term_size, qual_size}
use Rattle.calculus_laws.proofs.Members.{Within}
use Rattle.view_text.specs.Replaced.{Substitution, replaced, replaced_in_qual, no_aggregate, further, shifted, shifted_qual, of_only}
use Rattle.tree_laws.proofs.Scopes.{both_true}
use Rattle.tree_laws.proofs.Values.{within_left, within_right}
use Rattle.tree_laws.proofs.Nests.{number_there, operated_there, joined_there, compared_there, text_there}
use Rattle.tree_laws.proofs.Joined.{Low}

-- ---- what is put in

module _ (made : QTerm → QTerm) (put : Substitution) (m : ℕ) (gs : List QAgg) (puts : (v a : ℕ) → term_levels (put v a) ≤ suc m)
    (makes : (t : QTerm) → 2 ≤ term_levels t → Within (term_aggregates t) gs → term_levels (made t) ≤ term_levels t + m) where
  pub term_replaced : (t : QTerm) → Within (term_aggregates t) gs → term_levels (replaced made put t) ≤ term_levels t + m
  unfolding replaced term_aggregates
  term_replaced (Int n) w = omega arith
  term_replaced (Chars bytes) w = omega arith
  term_replaced (Attr var attr) w = let one = puts var attr in omega (arith, one)
  term_replaced (neg t) w = let one = term_replaced t w in omega (arith, one)
  term_replaced (abs t) w = let one = term_replaced t w in omega (arith, one)
  term_replaced (operation op t u) w =
      let left = term_replaced t (within_left (term_aggregates t) (term_aggregates u) gs w) in
      let right = term_replaced u (within_right (term_aggregates t) (term_aggregates u) gs w) in
      omega (arith, left, right)
  term_replaced (concat t u) w =
      let left = term_replaced t (within_left (term_aggregates t) (term_aggregates u) gs w) in
      let right = term_replaced u (within_right (term_aggregates t) (term_aggregates u) gs w) in
      omega (arith, left, right)
  term_replaced (Agg' mark (more_of-QAgg slot op source arg bys by links link qual rest)) w =
      let two : 2 ≤ term_levels (Agg' mark (more_of-QAgg slot op source arg bys by links link qual rest)) = omega arith in
      makes (Agg' mark (more_of-QAgg slot op source arg bys by links link qual rest)) two w

  pub qual_replaced : (q : QQual) → Within (qual_aggregates q) gs → qual_levels (replaced_in_qual made put q) ≤ qual_levels q + m
  unfolding replaced_in_qual qual_aggregates
  qual_replaced True w = omega arith
  qual_replaced (Cmp op t u) w =
      let left = term_replaced t (within_left (term_aggregates t) (term_aggregates u) gs w) in
      let right = term_replaced u (within_right (term_aggregates t) (term_aggregates u) gs w) in
      omega (arith, left, right)
  qual_replaced (Like t pattern same) w = let one = term_replaced t w in omega (arith, one)
  qual_replaced (both p q) w =
      let left = qual_replaced p (within_left (qual_aggregates p) (qual_aggregates q) gs w) in
      let right = qual_replaced q (within_right (qual_aggregates p) (qual_aggregates q) gs w) in
      omega (arith, left, right)
  qual_replaced (either p q) w =
      let left = qual_replaced p (within_left (qual_aggregates p) (qual_aggregates q) gs w) in
      let right = qual_replaced q (within_right (qual_aggregates p) (qual_aggregates q) gs w) in
      omega (arith, left, right)
  qual_replaced (negated p) w = let one = qual_replaced p w in omega (arith, one)

-- in place of an aggregate stands nothing deeper
pub none_made : (m : ℕ) (gs : List QAgg) (t : QTerm) → 2 ≤ term_levels t → Within (term_aggregates t) gs → term_levels (no_aggregate t) ≤ term_levels t + m
none_made m gs t two w = omega (arith, two)

-- ---- what is shifted

further_low : (n v a : ℕ) → term_levels (further n v a) ≤ 1
further_low n v a = omega arith

pub shifted_low : (n : ℕ) (t : QTerm) → term_levels (shifted n t) ≤ term_levels t
shifted_low n t =
    let more = term_replaced no_aggregate (further n) 0 (term_aggregates t) (further_low n) (none_made 0 (term_aggregates t)) t (λ g h. h) in omega (arith, more)

shifted_qual_low : (n : ℕ) (q : QQual) → qual_levels (shifted_qual n q) ≤ qual_levels q
shifted_qual_low n q =
    let more = qual_replaced no_aggregate (further n) 0 (qual_aggregates q) (further_low n) (none_made 0 (qual_aggregates q)) q (λ g h. h) in omega (arith, more)

pub all_shifted_low : (m n : ℕ) (qs : List QQual) → Low m qs → Low m (map (shifted_qual n) qs)
all_shifted_low m n [] low = tt
all_shifted_low m n (q ∷ qs) low = let one = shifted_qual_low n q in let own = low.0 in (omega (arith, one, own), all_shifted_low m n qs low.1)

-- ---- what has a size

module _ (put : Substitution) (vars : Measures) (puts : (v a : ℕ) → term_levels (put v a) ≤ suc (attr_size vars v a)) where
  pub term_sized : (t : QTerm) → term_levels (replaced no_aggregate put t) ≤ suc (term_size vars t)
  unfolding replaced term_size
  term_sized (Int n) = omega arith
  term_sized (Chars bytes) = omega arith
  term_sized (Attr var attr) = puts var attr
  term_sized (neg t) = let one = term_sized t in omega (arith, one)
  term_sized (abs t) = let one = term_sized t in omega (arith, one)
  term_sized (operation op t u) = let left = term_sized t in let right = term_sized u in omega (arith, left, right)
  term_sized (concat t u) = let left = term_sized t in let right = term_sized u in omega (arith, left, right)
  term_sized (Agg' mark row) = omega arith

  pub qual_sized : (q : QQual) → qual_levels (replaced_in_qual no_aggregate put q) ≤ suc (qual_size vars q)
  unfolding replaced_in_qual qual_size
  qual_sized True = omega arith
  qual_sized (Cmp op t u) = let left = term_sized t in let right = term_sized u in omega (arith, left, right)
  qual_sized (Like t pattern same) = let one = term_sized t in omega (arith, one)
  qual_sized (both p q) = let left = qual_sized p in let right = qual_sized q in omega (arith, left, right)
  qual_sized (either p q) = let left = qual_sized p in let right = qual_sized q in omega (arith, left, right)
  qual_sized (negated p) = let one = qual_sized p in omega (arith, one)

-- where each attribute has a size, each term has
pub some_size : (vars : Measures) → ((v a : ℕ) → 1 ≤ attr_size vars v a) → (t : QTerm) → 1 ≤ term_size vars t
unfolding term_size
some_size vars some (Int n) = omega arith
some_size vars some (Chars bytes) = omega arith
some_size vars some (Attr var attr) = some var attr
some_size vars some (neg t) = omega arith
some_size vars some (abs t) = omega arith
some_size vars some (operation op t u) = omega arith
some_size vars some (concat t u) = omega arith
some_size vars some (Agg' mark row) = omega arith

pub none_sized : (v a : ℕ) → attr_size [] v a ≡ 1
none_sized zero a = refl
none_sized (suc v) a = refl

pub only_low : (v a : ℕ) → term_levels (of_only v a) ≤ suc (attr_size [] v a)
only_low zero a = let size = none_sized zero a in omega (arith, size)
only_low (suc v) a = let size = none_sized (suc v) a in omega (arith, size)

-- ---- what has a kind, so that no aggregate stands in it

term_plain : (vars : List (List Kind)) (t : QTerm) → is_some (kind_of t vars) ≡ true → term_levels t ≤ suc (term_size [] t)
unfolding kind_of term_size
term_plain vars (Int n) h = omega arith
term_plain vars (Chars bytes) h = omega arith
term_plain vars (Attr var attr) h = omega arith
term_plain vars (neg t) h = let one = term_plain vars t (number_there (kind_of t vars) h) in omega (arith, one)
term_plain vars (abs t) h = let one = term_plain vars t (number_there (kind_of t vars) h) in omega (arith, one)
term_plain vars (operation op t u) h =
    let there = operated_there (kind_of t vars) (kind_of u vars) h in
    let left = term_plain vars t there.0 in let right = term_plain vars u there.1 in omega (arith, left, right)
term_plain vars (concat t u) h =
    let there = joined_there (kind_of t vars) (kind_of u vars) h in
    let left = term_plain vars t there.0 in let right = term_plain vars u there.1 in omega (arith, left, right)
term_plain vars (Agg' mark row) h = cc h

pub qual_plain : (vars : List (List Kind)) (q : QQual) → kinds_fit q vars ≡ true → qual_levels q ≤ suc (qual_size [] q)
unfolding kinds_fit qual_size
qual_plain vars True h = omega arith
qual_plain vars (Cmp op t u) h =
    let there = compared_there (kind_of t vars) (kind_of u vars) h in
    let left = term_plain vars t there.0 in let right = term_plain vars u there.1 in omega (arith, left, right)
qual_plain vars (Like t pattern same) h = let one = term_plain vars t (text_there (kind_of t vars) h) in omega (arith, one)
qual_plain vars (both p q) h =
    let parts = both_true (kinds_fit p vars) (kinds_fit q vars) h in
    let left = qual_plain vars p parts.0 in let right = qual_plain vars q parts.1 in omega (arith, left, right)
qual_plain vars (either p q) h =
    let parts = both_true (kinds_fit p vars) (kinds_fit q vars) h in
    let left = qual_plain vars p parts.0 in let right = qual_plain vars q parts.1 in omega (arith, left, right)
qual_plain vars (negated p) h = let one = qual_plain vars p h in omega (arith, one)

-- ---- rows of terms and of targets

-- the greatest of these terms' levels
abbrev pub greatest_terms : List QTerm → ℕ
greatest_terms [] = 0
greatest_terms (t ∷ ts) = max (term_levels t) (greatest_terms ts)

pub row_terms : {n : _} (row : Row_of-QTerm n) → greatest_terms (items-the_row-QTerm _ row) ≡ greatest_term_levels row
row_terms end_of-QTerm = refl
row_terms (more_of-QTerm t rest) = ap (max (term_levels t)) (row_terms rest)

pub terms_row : (ts : List QTerm) → greatest_term_levels (term_row ts) ≡ greatest_terms ts
terms_row [] = refl
terms_row (t ∷ ts) = ap (max (term_levels t)) (terms_row ts)

-- the greatest of these targets' levels
abbrev pub greatest_targets : List Target → ℕ
greatest_targets [] = 0
greatest_targets (t ∷ ts) = max (term_levels t.term) (greatest_targets ts)

row_targets : {n : _} (row : Row_of-Target n) → greatest_targets (items-the_row-Target _ row) ≡ greatest_target_levels row
row_targets end_of-Target = refl
row_targets (more_of-Target name kind term rest) = ap (max (term_levels term)) (row_targets rest)

targets_row : (ts : List Target) → greatest_target_levels (target_row ts) ≡ greatest_targets ts
targets_row [] = refl
targets_row (t ∷ ts) = ap (max (term_levels t.term)) (targets_row ts)

pub query_is : (q : Query) → query_levels q ≡ 1 + max (greatest_targets (targets_of q)) (qual_levels (qual_of q))
query_is (Query' vars marks targets qual) = ap (λ n. 1 + max n (qual_levels qual)) (sym (row_targets targets))

pub built_is : (vars : List RelKey) (ts : List Target) (qual : QQual) → query_levels (query vars ts qual) ≡ 1 + max (greatest_targets ts) (qual_levels qual)
built_is vars ts qual = ap (λ n. 1 + max n (qual_levels qual)) (targets_row ts)

pub some_qual : (q : QQual) → 1 ≤ qual_levels q
some_qual True = omega arith
some_qual (Cmp op t u) = omega arith
some_qual (Like t pattern same) = omega arith
some_qual (both p q) = omega arith
some_qual (either p q) = omega arith
some_qual (negated p) = omega arith
