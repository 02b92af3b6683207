-- What is put in names what stands in its place, so each variable of what is put in is used.
use Rattle.std.proofs.Common.{◌≡◌, ◌⊎◌, refl, sym, ◌∙◌, subst, inl, inr, ℕ, Bool, true, false, cond, ◌||◌, List, [], ◌∷◌, ◌++◌, map, arith}
use Rattle.std.proofs.lemmas.Bool.Decides.{nat_tests}
use Rattle.std.specs.Prelude.{◌==◌, flat_map}
use Rattle.calculus.specs.declared.query.QAgg.{QAgg}
use Rattle.calculus.specs.declared.query.QTerm.{QTerm, Int, Chars, Attr, Agg', more_of-QAgg}
use Rattle.calculus.specs.declared.query.QQual.{QQual, True, Cmp, Like}
use Rattle.calculus.specs.declared.query.Target.{Target}
use Rattle.calculus.specs.Tree.{neg, abs, operation, concat, both, either, negated}
use Rattle.calculus.specs.Lists.{is_any}
use Rattle.calculus.specs.QueryParts.{term_aggregates, qual_aggregates}
use Rattle.calculus.specs.Used.{used, used_in_qual}
use Rattle.calculus_laws.proofs.Members.{Within}
use Rattle.calculus_laws.proofs.Plain.{in_targets}
use Rattle.view_text.specs.Replaced.{Substitution, replaced, replaced_in_qual, replaced_target, no_aggregate}
use Rattle.tree_laws.proofs.Values.{is_aggregate, within_left, within_right}
use Rattle.tree_laws.proofs.Halves.{any_append}

-- ---- one of two

pub either_true : (b c : Bool) → (b || c) ≡ true → (b ≡ true) ⊎ (c ≡ true)
either_true true c h = inl refl
either_true false c h = inr h

pub left_true : (b c : Bool) → b ≡ true → (b || c) ≡ true
left_true true c h = refl
left_true false c h = cc h

pub right_true : (b c : Bool) → c ≡ true → (b || c) ≡ true
right_true true c h = refl
right_true false c h = h

-- what is in one of two lists is in one of two others, where each follows
follow : (xs ys vs ws : List ℕ) → (is_any xs ≡ true → is_any vs ≡ true) → (is_any ys ≡ true → is_any ws ≡ true) → is_any (xs ++ ys) ≡ true → is_any (vs ++ ws) ≡ true
follow xs ys vs ws f g h = any_append vs ws ∙ elim (either_true (is_any xs) (is_any ys) (sym (any_append xs ys) ∙ h)) [
  | inl k ↦ left_true (is_any vs) (is_any ws) (f k)
  | inr k ↦ right_true (is_any vs) (is_any ws) (g k)
]

-- ---- terms and qualifications

-- whatever is put in for an attribute of this variable names that one
abbrev pub Names : Substitution → ℕ → ℕ → Type 0
Names put v w = (a : ℕ) → is_any (used w (put v a)) ≡ true

-- what is made of an aggregate names that one where the aggregate's links name this variable
abbrev pub KeepsNames : (QTerm → QTerm) → Substitution → List QAgg → Type 0
KeepsNames made put gs = (v w : ℕ) → Names put v w → (t : QTerm) → is_aggregate t ≡ true → Within (term_aggregates t) gs → is_any (used v t) ≡ true → is_any (used w (made t)) ≡ true

module _ (made : QTerm → QTerm) (put : Substitution) (gs : List QAgg) (keeps : KeepsNames made put gs) (v w : ℕ) (names : Names put v w) where
  attr_named : (var attr : ℕ) (b : Bool) → (var == v) ≡ b → is_any (cond b (attr ∷ []) []) ≡ true → is_any (used w (put var attr)) ≡ true
  attr_named var attr true e h = let same : var ≡ v = grind (arith, nat_tests, e) in subst (λ v. is_any (used w (put v attr)) ≡ true) (sym same) (names attr)
  attr_named var attr false e h = cc h

  pub term_named : (t : QTerm) → Within (term_aggregates t) gs → is_any (used v t) ≡ true → is_any (used w (replaced made put t)) ≡ true
  unfolding replaced term_aggregates
  term_named (Int n) k h = cc h
  term_named (Chars bytes) k h = cc h
  term_named (Attr var attr) k h = attr_named var attr (var == v) refl h
  term_named (neg t) k h = term_named t k h
  term_named (abs t) k h = term_named t k h
  term_named (operation op t u) k h =
      follow (used v t) (used v u) (used w (replaced made put t)) (used w (replaced made put u))
      (term_named t (within_left (term_aggregates t) (term_aggregates u) gs k)) (term_named u (within_right (term_aggregates t) (term_aggregates u) gs k)) h
  term_named (concat t u) k h =
      follow (used v t) (used v u) (used w (replaced made put t)) (used w (replaced made put u))
      (term_named t (within_left (term_aggregates t) (term_aggregates u) gs k)) (term_named u (within_right (term_aggregates t) (term_aggregates u) gs k)) h
  term_named (Agg' mark row) k h = keeps v w names (Agg' mark row) refl k h

  pub qual_named : (q : QQual) → Within (qual_aggregates q) gs → is_any (used_in_qual v q) ≡ true → is_any (used_in_qual w (replaced_in_qual made put q)) ≡ true
  unfolding replaced_in_qual qual_aggregates
  qual_named True k h = cc h
  qual_named (Cmp op t u) k h =
      follow (used v t) (used v u) (used w (replaced made put t)) (used w (replaced made put u))
      (term_named t (within_left (term_aggregates t) (term_aggregates u) gs k)) (term_named u (within_right (term_aggregates t) (term_aggregates u) gs k)) h
  qual_named (Like t pattern same) k h = term_named t k h
  qual_named (both p q) k h =
      follow (used_in_qual v p) (used_in_qual v q) (used_in_qual w (replaced_in_qual made put p)) (used_in_qual w (replaced_in_qual made put q))
      (qual_named p (within_left (qual_aggregates p) (qual_aggregates q) gs k)) (qual_named q (within_right (qual_aggregates p) (qual_aggregates q) gs k)) h
  qual_named (either p q) k h =
      follow (used_in_qual v p) (used_in_qual v q) (used_in_qual w (replaced_in_qual made put p)) (used_in_qual w (replaced_in_qual made put q))
      (qual_named p (within_left (qual_aggregates p) (qual_aggregates q) gs k)) (qual_named q (within_right (qual_aggregates p) (qual_aggregates q) gs k)) h
  qual_named (negated p) k h = qual_named p k h

  pub targets_named : (ts : List Target) → Within (in_targets ts) gs → is_any (flat_map (λ t. used v t.term) ts) ≡ true
      → is_any (flat_map (λ t. used w t.term) (map (replaced_target made put) ts)) ≡ true
  targets_named [] k h = cc h
  targets_named (t ∷ ts) k h =
      follow (used v t.term) (flat_map (λ t. used v t.term) ts) (used w (replaced made put t.term)) (flat_map (λ t. used w t.term) (map (replaced_target made put) ts))
      (term_named t.term (within_left (term_aggregates t.term) (in_targets ts) gs k)) (targets_named ts (within_right (term_aggregates t.term) (in_targets ts) gs k)) h

-- where no aggregate stands, none has to keep names
pub none_keep : (put : Substitution) → KeepsNames no_aggregate put []
unfolding term_aggregates
none_keep put v w names (Agg' mark (more_of-QAgg slot op source arg bys by links link qual rest)) h k used = absurd (k _ (inl refl))
none_keep put v w names (Int n) h k used = cc h
none_keep put v w names (Chars bytes) h k used = cc h
none_keep put v w names (Attr var attr) h k used = cc h
none_keep put v w names (neg t) h k used = cc h
none_keep put v w names (abs t) h k used = cc h
none_keep put v w names (operation op t u) h k used = cc h
none_keep put v w names (concat t u) h k used = cc h
