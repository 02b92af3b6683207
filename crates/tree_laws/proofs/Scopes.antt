-- Terms that name only some variables have the value that those variables give, wherever they stand.
use Rattle.std.proofs.Common.{◌≡◌, refl, ap, ◌∙◌, ℕ, zero, suc, ◌+◌, Bool, true, false, not, ◌&&◌, ◌||◌, List, [], ◌∷◌, ◌++◌, map, length, arith}
use Rattle.std.proofs.lemmas.Bool.Decides.{nat_tests}
use Rattle.std.specs.Prelude.{slice_get, nat_lt}
use Rattle.std.specs.List.{list_all}
use Rattle.calculus.specs.declared.query.QTerm.{QTerm, Int, Chars, Attr, Agg'}
use Rattle.calculus.specs.declared.query.QQual.{QQual, True, Cmp, Like}
use Rattle.calculus.specs.Tree.{neg, abs, operation, concat, both, either, negated}
use Rattle.calculus.specs.Term.{Env, Aggs, val, holds, value_in, attribute_value, opposite_value, value_without_sign, operated_values, joined_values, compared_values, matched_value}
use Rattle.view_text.specs.Replaced.{shifted, shifted_qual, replaced, replaced_in_qual}
use Rattle.view_text.specs.Scoped.{is_within, is_qual_within}

pub both_true : (b c : Bool) → (b && c) ≡ true → (b ≡ true) × (c ≡ true)
both_true true c h = (refl, h)
both_true false c h = cc h

-- ---- the row of a variable that stands further on

get_front : (seg post : Env) (v : ℕ) → nat_lt v (length seg) ≡ true → slice_get (seg ++ post) v ≡ slice_get seg v
get_front [] post v h = absurd (grind (arith, nat_tests, h))
get_front (row ∷ seg) post zero h = refl
get_front (row ∷ seg) post (suc v) h = let less : nat_lt v (length seg) ≡ true = grind (arith, nat_tests, h) in get_front seg post v less

get_behind : (pre rest : Env) (i v : ℕ) → i ≡ length pre + v → slice_get (pre ++ rest) i ≡ slice_get rest v
get_behind [] rest i v h = let same : i ≡ v = omega (arith, h) in ap (slice_get rest) same
get_behind (row ∷ pre) rest zero v h = absurd (omega (arith, h))
get_behind (row ∷ pre) rest (suc i) v h = let less : i ≡ length pre + v = omega (arith, h) in get_behind pre rest i v less

attribute_further : (pre seg post : Env) (v a : ℕ) → nat_lt v (length seg) ≡ true → attribute_value (pre ++ (seg ++ post)) (length pre + v) a ≡ attribute_value seg v a
unfolding attribute_value
attribute_further pre seg post v a h = ap (λ r. value_in r a) (get_behind pre (seg ++ post) (length pre + v) v refl ∙ get_front seg post v h)

-- ---- terms and qualifications

module _ (aggs bggs : Aggs) (pre seg post : Env) where
  pub val_shifted : (t : QTerm) → is_within (length seg) t ≡ true → val aggs (shifted (length pre) t) (pre ++ (seg ++ post)) ≡ val bggs t seg
  unfolding val replaced is_within
  val_shifted (Int n) h = refl
  val_shifted (Chars bytes) h = refl
  val_shifted (Attr var attr) h = attribute_further pre seg post var attr h
  val_shifted (neg t) h = ap opposite_value (val_shifted t h)
  val_shifted (abs t) h = ap value_without_sign (val_shifted t h)
  val_shifted (operation op t u) h = let parts = both_true (is_within (length seg) t) (is_within (length seg) u) h in
      λ i. operated_values op (val_shifted t parts.0 i) (val_shifted u parts.1 i)
  val_shifted (concat t u) h = let parts = both_true (is_within (length seg) t) (is_within (length seg) u) h in
      λ i. joined_values (val_shifted t parts.0 i) (val_shifted u parts.1 i)
  val_shifted (Agg' mark row) h = cc h

  pub holds_shifted : (q : QQual) → is_qual_within (length seg) q ≡ true → holds aggs (shifted_qual (length pre) q) (pre ++ (seg ++ post)) ≡ holds bggs q seg
  unfolding holds replaced_in_qual is_qual_within
  holds_shifted True h = refl
  holds_shifted (Cmp op t u) h = let parts = both_true (is_within (length seg) t) (is_within (length seg) u) h in
      λ i. compared_values op (val_shifted t parts.0 i) (val_shifted u parts.1 i)
  holds_shifted (Like t pattern same) h = ap (matched_value pattern same) (val_shifted t h)
  holds_shifted (both p q) h = let parts = both_true (is_qual_within (length seg) p) (is_qual_within (length seg) q) h in
      λ i. holds_shifted p parts.0 i && holds_shifted q parts.1 i
  holds_shifted (either p q) h = let parts = both_true (is_qual_within (length seg) p) (is_qual_within (length seg) q) h in
      λ i. holds_shifted p parts.0 i || holds_shifted q parts.1 i
  holds_shifted (negated p) h = ap not (holds_shifted p h)

  pub all_shifted : (qs : List QQual) → list_all (is_qual_within (length seg)) qs ≡ true
      → list_all (λ q. holds aggs q (pre ++ (seg ++ post))) (map (shifted_qual (length pre)) qs) ≡ list_all (λ q. holds bggs q seg) qs
  all_shifted [] h = refl
  all_shifted (q ∷ qs) h = let parts = both_true (is_qual_within (length seg) q) (list_all (is_qual_within (length seg)) qs) h in
      λ i. holds_shifted q parts.0 i && all_shifted qs parts.1 i
