-- What terms and qualifications with others put in have as values: those that they had before, where what is put in has the value of what it stands for.
use Rattle.std.proofs.Common.{◌≡◌, refl, sym, ap, ◌∙◌, ℕ, Bool, true, false, not, ◌&&◌, ◌||◌, List, [], ◌∷◌, ◌++◌, map, None}
use Rattle.calculus.specs.declared.query.QTerm.{QTerm, Int, Chars, Attr, Agg', Row_of-QAgg, end_of-QAgg, more_of-QAgg}
use Rattle.calculus.specs.declared.query.QQual.{QQual, True, Cmp, Like}
use Rattle.calculus.specs.declared.query.QAgg.{QAgg}
use Rattle.calculus.specs.declared.query.Target.{Target}
use Rattle.calculus.specs.Tree.{neg, abs, operation, concat, both, either, negated}
use Rattle.calculus.specs.Term.{Env, Aggs, val, holds, no_aggs, attribute_value, aggregate_value, opposite_value, value_without_sign, operated_values, joined_values, compared_values, matched_value, value_before}
use Rattle.calculus.specs.QueryParts.{term_aggregates, qual_aggregates}
use Rattle.calculus.specs.Targets.{target_values}
use Rattle.calculus_laws.proofs.Members.{Within, In-append_left, In-append_right}
use Rattle.calculus_laws.proofs.Plain.{in_targets}
use Rattle.view_text.specs.Replaced.{Substitution, without_value, replaced, replaced_in_qual, replaced_target, no_aggregate}

pub without_value_has_none : (aggs : Aggs) (e : Env) → val aggs without_value e ≡ None
unfolding val operated_values
without_value_has_none aggs e = refl

-- the term is an aggregate
abbrev pub is_aggregate : QTerm → Bool
is_aggregate (Agg' mark row) = true
is_aggregate (Int n) = false
is_aggregate (Chars bytes) = false
is_aggregate (Attr var attr) = false
is_aggregate (neg t) = false
is_aggregate (abs t) = false
is_aggregate (operation op t u) = false
is_aggregate (concat t u) = false

-- what is put in for attributes has their values, whatever aggregates give
abbrev pub StandsFor : Substitution → Env → Env → Type 0
StandsFor put f e = (aggs : Aggs) (v a : ℕ) → val aggs (put v a) f ≡ attribute_value e v a

-- what is made of these aggregates has their values
abbrev pub MakesAll : Aggs → Aggs → (QTerm → QTerm) → Env → Env → List QAgg → Type 0
MakesAll aggs bggs made f e gs = (t : QTerm) → is_aggregate t ≡ true → Within (term_aggregates t) gs → val bggs (made t) f ≡ val aggs t e

-- what lies within is the left or the right part
pub within_left : (xs ys gs : List QAgg) → Within (xs ++ ys) gs → Within xs gs
within_left xs ys gs w a h = w a (In-append_left xs ys a h)

pub within_right : (xs ys gs : List QAgg) → Within (xs ++ ys) gs → Within ys gs
within_right xs ys gs w a h = w a (In-append_right xs ys a h)

module _ (aggs bggs : Aggs) (made : QTerm → QTerm) (put : Substitution) (e f : Env) (gs : List QAgg) (stands : StandsFor put f e) (makes : MakesAll aggs bggs made f e gs) where
  pub val_replaced : (t : QTerm) → Within (term_aggregates t) gs → val bggs (replaced made put t) f ≡ val aggs t e
  unfolding val replaced term_aggregates
  val_replaced (Int n) w = refl
  val_replaced (Chars bytes) w = refl
  val_replaced (Attr var attr) w = stands bggs var attr
  val_replaced (neg t) w = ap opposite_value (val_replaced t w)
  val_replaced (abs t) w = ap value_without_sign (val_replaced t w)
  val_replaced (operation op t u) w =
      let left = val_replaced t (within_left (term_aggregates t) (term_aggregates u) gs w) in
      let right = val_replaced u (within_right (term_aggregates t) (term_aggregates u) gs w) in
      λ i. operated_values op (left i) (right i)
  val_replaced (concat t u) w =
      let left = val_replaced t (within_left (term_aggregates t) (term_aggregates u) gs w) in
      let right = val_replaced u (within_right (term_aggregates t) (term_aggregates u) gs w) in
      λ i. joined_values (left i) (right i)
  val_replaced (Agg' mark row) w = makes (Agg' mark row) refl w

  pub holds_replaced : (q : QQual) → Within (qual_aggregates q) gs → holds bggs (replaced_in_qual made put q) f ≡ holds aggs q e
  unfolding holds replaced_in_qual qual_aggregates
  holds_replaced True w = refl
  holds_replaced (Cmp op t u) w =
      let left = val_replaced t (within_left (term_aggregates t) (term_aggregates u) gs w) in
      let right = val_replaced u (within_right (term_aggregates t) (term_aggregates u) gs w) in
      λ i. compared_values op (left i) (right i)
  holds_replaced (Like t pattern same) w = ap (matched_value pattern same) (val_replaced t w)
  holds_replaced (both p q) w =
      let left = holds_replaced p (within_left (qual_aggregates p) (qual_aggregates q) gs w) in
      let right = holds_replaced q (within_right (qual_aggregates p) (qual_aggregates q) gs w) in
      λ i. left i && right i
  holds_replaced (either p q) w =
      let left = holds_replaced p (within_left (qual_aggregates p) (qual_aggregates q) gs w) in
      let right = holds_replaced q (within_right (qual_aggregates p) (qual_aggregates q) gs w) in
      λ i. left i || right i
  holds_replaced (negated p) w = ap not (holds_replaced p w)

  pub targets_replaced : (ts : List Target) → Within (in_targets ts) gs → target_values bggs (map (replaced_target made put) ts) f ≡ target_values aggs ts e
  targets_replaced [] w = refl
  targets_replaced (t ∷ ts) w =
      let first = val_replaced t.term (within_left (term_aggregates t.term) (in_targets ts) gs w) in
      let rest = targets_replaced ts (within_right (term_aggregates t.term) (in_targets ts) gs w) in
      λ i. value_before (first i) (rest i)

-- where no aggregate has a value, none may stand
no_row : {n : _} (row : Row_of-QAgg n) (e : Env) → aggregate_value no_aggs row e ≡ None
no_row end_of-QAgg e = refl
no_row (more_of-QAgg slot op source arg bys by links link qual rest) e = refl

pub makes_none : (bggs : Aggs) (f e : Env) (gs : List QAgg) → MakesAll no_aggs bggs no_aggregate f e gs
unfolding val
makes_none bggs f e gs (Agg' mark row) h w = without_value_has_none bggs f ∙ sym (no_row row e)
makes_none bggs f e gs (Int n) h w = cc h
makes_none bggs f e gs (Chars bytes) h w = cc h
makes_none bggs f e gs (Attr var attr) h w = cc h
makes_none bggs f e gs (neg t) h w = cc h
makes_none bggs f e gs (abs t) h w = cc h
makes_none bggs f e gs (operation op t u) h w = cc h
makes_none bggs f e gs (concat t u) h w = cc h

-- each is one of its own
pub within_itself : {X : Type 0} (xs : List X) → Within xs xs
within_itself xs x h = h
