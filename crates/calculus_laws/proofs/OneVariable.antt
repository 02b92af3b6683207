-- What names one variable alone, and no aggregate, is the same in all assignments that give that variable one row.
use Rattle.std.proofs.Common.{◌≡◌, refl, sym, ap, ◌∙◌, subst, ℕ, Bool, true, false, cond, not, ◌&&◌, ◌||◌, ◌==◌, List, [], ◌∷◌, ◌++◌, slice_get}
use Rattle.std.proofs.lemmas.Bool.Decides.{Decides-eqb}
use Rattle.calculus.specs.declared.query.QTerm.{QTerm, Int, Chars, Attr, Agg', Row_of-QAgg, end_of-QAgg, more_of-QAgg}
use Rattle.calculus.specs.declared.query.QQual.{QQual, True, Cmp, Like}
use Rattle.calculus.specs.Tree.{neg, abs, operation, concat, both, either, negated}
use Rattle.calculus.specs.Term.{Env, Aggs, val, holds, value_in, attribute_value, opposite_value, value_without_sign, operated_values, joined_values, aggregate_value, compared_values, matched_value}
use Rattle.calculus.specs.QueryParts.{aggregates_of, term_aggregates, qual_aggregates}
use Rattle.calculus.specs.Used.{used, used_in_qual}

left_empty : {X : Type 0} (xs ys : List X) → xs ++ ys ≡ [] → xs ≡ []
left_empty [] ys h = refl
left_empty (x ∷ xs) ys h = cc h

right_empty : {X : Type 0} (xs ys : List X) → xs ++ ys ≡ [] → ys ≡ []
right_empty [] ys h = h
right_empty (x ∷ xs) ys h = cc h

-- the term names no attribute of a variable other than this one
abbrev pub NamesOnly : ℕ → QTerm → Type 0
NamesOnly v t = (w : ℕ) → ¬ (w ≡ v) → used w t ≡ []

used_itself : (var attr : ℕ) → used var (Attr var attr) ≡ attr ∷ []
used_itself var attr = ap (λ b. cond b (attr ∷ []) []) ((Decides-eqb var var).1 refl)

only_itself : (v var attr : ℕ) → NamesOnly v (Attr var attr) → var ≡ v
only_itself v var attr h = go (var == v) refl
  where
    other : ¬ (var ≡ v) → ⊥
    other differs = let no : attr ∷ [] ≡ [] = sym (used_itself var attr) ∙ h var differs in cc no

    go : (b : Bool) → (var == v) ≡ b → var ≡ v
    go true e = (Decides-eqb var v).0 e
    go false e = absurd (other (λ same. let no : true ≡ false = sym ((Decides-eqb var v).1 same) ∙ e in cc no))

aggregate_same : (f g : Aggs) (d e : Env) {n : _} (row : Row_of-QAgg n) → aggregates_of row ≡ [] → aggregate_value f row d ≡ aggregate_value g row e
aggregate_same f g d e end_of-QAgg h = refl
aggregate_same f g d e (more_of-QAgg slot op source arg bys by links link qual rest) h = cc h

val_same : (f g : Aggs) (v : ℕ) (d e : Env) → slice_get d v ≡ slice_get e v
    → (t : QTerm) → NamesOnly v t → term_aggregates t ≡ [] → val f t d ≡ val g t e
unfolding val term_aggregates attribute_value
val_same f g v d e same (Int n) names none = refl
val_same f g v d e same (Chars bytes) names none = refl
val_same f g v d e same (Attr var attr) names none =
    subst (λ w. value_in (slice_get d w) attr ≡ value_in (slice_get e w) attr) (sym (only_itself v var attr names)) (ap (λ r. value_in r attr) same)
val_same f g v d e same (neg t) names none = ap opposite_value (val_same f g v d e same t names none)
val_same f g v d e same (abs t) names none = ap value_without_sign (val_same f g v d e same t names none)
val_same f g v d e same (operation op t u) names none =
    λ i. operated_values op
    (val_same f g v d e same t (λ w n. left_empty (used w t) (used w u) (names w n)) (left_empty (term_aggregates t) (term_aggregates u) none) i)
    (val_same f g v d e same u (λ w n. right_empty (used w t) (used w u) (names w n)) (right_empty (term_aggregates t) (term_aggregates u) none) i)
val_same f g v d e same (concat t u) names none =
    λ i. joined_values
    (val_same f g v d e same t (λ w n. left_empty (used w t) (used w u) (names w n)) (left_empty (term_aggregates t) (term_aggregates u) none) i)
    (val_same f g v d e same u (λ w n. right_empty (used w t) (used w u) (names w n)) (right_empty (term_aggregates t) (term_aggregates u) none) i)
val_same f g v d e same (Agg' mark row) names none = aggregate_same f g d e row none

pub holds_same : (f g : Aggs) (v : ℕ) (d e : Env) → slice_get d v ≡ slice_get e v
    → (p : QQual) → ((w : ℕ) → ¬ (w ≡ v) → used_in_qual w p ≡ []) → qual_aggregates p ≡ [] → holds f p d ≡ holds g p e
unfolding holds qual_aggregates
holds_same f g v d e same True names none = refl
holds_same f g v d e same (Cmp op t u) names none =
    λ i. compared_values op
    (val_same f g v d e same t (λ w n. left_empty (used w t) (used w u) (names w n)) (left_empty (term_aggregates t) (term_aggregates u) none) i)
    (val_same f g v d e same u (λ w n. right_empty (used w t) (used w u) (names w n)) (right_empty (term_aggregates t) (term_aggregates u) none) i)
holds_same f g v d e same (Like t pattern alike) names none = ap (matched_value pattern alike) (val_same f g v d e same t names none)
holds_same f g v d e same (both p q) names none =
    λ i. holds_same f g v d e same p (λ w n. left_empty (used_in_qual w p) (used_in_qual w q) (names w n)) (left_empty (qual_aggregates p) (qual_aggregates q) none) i
    && holds_same f g v d e same q (λ w n. right_empty (used_in_qual w p) (used_in_qual w q) (names w n)) (right_empty (qual_aggregates p) (qual_aggregates q) none) i
holds_same f g v d e same (either p q) names none =
    λ i. holds_same f g v d e same p (λ w n. left_empty (used_in_qual w p) (used_in_qual w q) (names w n)) (left_empty (qual_aggregates p) (qual_aggregates q) none) i
    || holds_same f g v d e same q (λ w n. right_empty (used_in_qual w p) (used_in_qual w q) (names w n)) (right_empty (qual_aggregates p) (qual_aggregates q) none) i
holds_same f g v d e same (negated p) names none = ap not (holds_same f g v d e same p names none)
