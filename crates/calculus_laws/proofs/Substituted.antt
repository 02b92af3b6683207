-- In an assignment of a view's text, what was put into has the value that the term has at the view's row.
use Rattle.std.proofs.Common.{◌≡◌, refl, sym, ap, ◌∙◌, ℕ, zero, suc, true, not, ◌&&◌, ◌||◌, List, [], ◌∷◌, Option, Some, None}
use Rattle.std.proofs.lemmas.Cmp.{tied_itself}
use Rattle.std.specs.Prelude.{slice_get, is_some}
use Rattle.std.specs.Ordering.{is_eq}
use Rattle.calculus.specs.declared.value.Value.{Value}
use Rattle.calculus.specs.declared.operator.CmpOp.TheVariants.{Eq}
use Rattle.calculus.specs.declared.query.QTerm.{QTerm, Int, Chars, Attr, Agg', Row_of-QAgg, end_of-QAgg, more_of-QAgg}
use Rattle.calculus.specs.declared.query.QQual.{QQual, True, Cmp, Like}
use Rattle.calculus.specs.declared.query.Target.{Target}
use Rattle.calculus.specs.Tree.{neg, abs, operation, concat, both, either, negated}
use Rattle.calculus.specs.Orders.{value_total}
use Rattle.calculus.specs.Rows.{Row}
use Rattle.calculus.specs.Term.{Env, Aggs, val, holds, attribute_value, aggregate_value, opposite_value, value_without_sign, operated_values, joined_values, compared_values, matched_value, value_before}
use Rattle.calculus.specs.QueryParts.{aggregates_of, term_aggregates, qual_aggregates}
use Rattle.calculus.specs.Targets.{target_values}
use Rattle.calculus_laws.specs.Expansion.{no_value, term_at, substituted_attribute, substituted, substituted_qual, substituted_targets, have_values}
use Rattle.calculus_laws.proofs.Plain.{none_left, none_right, in_targets}

-- ---- values in front of others

-- a value in front of others, where they make this row
abbrev pub IsBefore : Option Value → Option Row → Row → Type 0
IsBefore v vs row = (first : Value) × (rest : Row) × (v ≡ Some first) × (vs ≡ Some rest) × (first ∷ rest ≡ row)

pub before-is : (v : Option Value) (vs : Option Row) (row : Row) → value_before v vs ≡ Some row → IsBefore v vs row
before-is None vs row h = cc h
before-is (Some first) None row h = cc h
before-is (Some first) (Some rest) row h = (first, rest, refl, refl, cc h)

-- ---- terms

no_value_has_none : (aggs : Aggs) (e : Env) → val aggs no_value e ≡ None
unfolding val operated_values
no_value_has_none aggs e = refl

nowhere : (place : ℕ) → slice_get {X = Value} [] place ≡ None
nowhere zero = refl
nowhere (suc place) = refl

at_place : (aggs : Aggs) (targets : List Target) (e : Env) (row : Row) (place : ℕ) → target_values aggs targets e ≡ Some row → val aggs (term_at targets place) e ≡ slice_get row place
at_place aggs [] e row place h =
    let empty : [] ≡ row = cc h in
    no_value_has_none aggs e ∙ sym (nowhere place) ∙ ap (λ r. slice_get r place) empty
at_place aggs (t ∷ ts) e row zero h =
    let (first, rest, here, there, same) = before-is (val aggs t.term e) (target_values aggs ts e) row h in
    here ∙ ap (λ r. slice_get r 0) same
at_place aggs (t ∷ ts) e row (suc place) h =
    let (first, rest, here, there, same) = before-is (val aggs t.term e) (target_values aggs ts e) row h in
    at_place aggs ts e rest place there ∙ ap (λ r. slice_get r (suc place)) same

attribute_substituted : (aggs : Aggs) (targets : List Target) (e : Env) (row : Row) (var attr : ℕ) → target_values aggs targets e ≡ Some row
    → val aggs (substituted_attribute targets var attr) e ≡ attribute_value (row ∷ []) var attr
unfolding attribute_value
attribute_substituted aggs targets e row zero attr h = at_place aggs targets e row attr h
attribute_substituted aggs targets e row (suc var) attr h = no_value_has_none aggs e

no_aggregate : (aggs : Aggs) (e f : Env) {n : _} (items : Row_of-QAgg n) → aggregates_of items ≡ [] → aggregate_value aggs items e ≡ aggregate_value aggs items f
no_aggregate aggs e f end_of-QAgg h = refl
no_aggregate aggs e f (more_of-QAgg slot op source arg bys by links link qual rest) h = cc h

pub val_substituted : (aggs : Aggs) (targets : List Target) (e : Env) (row : Row) (t : QTerm) → target_values aggs targets e ≡ Some row → term_aggregates t ≡ []
    → val aggs (substituted targets t) e ≡ val aggs t (row ∷ [])
unfolding val term_aggregates
val_substituted aggs targets e row (Int n) h none = refl
val_substituted aggs targets e row (Chars bytes) h none = refl
val_substituted aggs targets e row (Attr var attr) h none = attribute_substituted aggs targets e row var attr h
val_substituted aggs targets e row (neg t) h none = ap opposite_value (val_substituted aggs targets e row t h none)
val_substituted aggs targets e row (abs t) h none = ap value_without_sign (val_substituted aggs targets e row t h none)
val_substituted aggs targets e row (operation op t u) h none = λ i. operated_values op
    (val_substituted aggs targets e row t h (none_left (term_aggregates t) (term_aggregates u) none) i)
    (val_substituted aggs targets e row u h (none_right (term_aggregates t) (term_aggregates u) none) i)
val_substituted aggs targets e row (concat t u) h none = λ i. joined_values
    (val_substituted aggs targets e row t h (none_left (term_aggregates t) (term_aggregates u) none) i)
    (val_substituted aggs targets e row u h (none_right (term_aggregates t) (term_aggregates u) none) i)
val_substituted aggs targets e row (Agg' mark items) h none = no_aggregate aggs e (row ∷ []) items none

pub holds_substituted : (aggs : Aggs) (targets : List Target) (e : Env) (row : Row) (q : QQual) → target_values aggs targets e ≡ Some row → qual_aggregates q ≡ []
    → holds aggs (substituted_qual targets q) e ≡ holds aggs q (row ∷ [])
unfolding holds qual_aggregates
holds_substituted aggs targets e row True h none = refl
holds_substituted aggs targets e row (Cmp op t u) h none = λ i. compared_values op
    (val_substituted aggs targets e row t h (none_left (term_aggregates t) (term_aggregates u) none) i)
    (val_substituted aggs targets e row u h (none_right (term_aggregates t) (term_aggregates u) none) i)
holds_substituted aggs targets e row (Like t pattern same) h none = ap (matched_value pattern same) (val_substituted aggs targets e row t h none)
holds_substituted aggs targets e row (both p q) h none = λ i.
    holds_substituted aggs targets e row p h (none_left (qual_aggregates p) (qual_aggregates q) none) i
    && holds_substituted aggs targets e row q h (none_right (qual_aggregates p) (qual_aggregates q) none) i
holds_substituted aggs targets e row (either p q) h none = λ i.
    holds_substituted aggs targets e row p h (none_left (qual_aggregates p) (qual_aggregates q) none) i
    || holds_substituted aggs targets e row q h (none_right (qual_aggregates p) (qual_aggregates q) none) i
holds_substituted aggs targets e row (negated p) h none = ap not (holds_substituted aggs targets e row p h none)

-- ---- targets

pub targets_substituted : (aggs : Aggs) (targets : List Target) (e : Env) (row : Row) (ts : List Target) → target_values aggs targets e ≡ Some row → in_targets ts ≡ []
    → target_values aggs (substituted_targets targets ts) e ≡ target_values aggs ts (row ∷ [])
targets_substituted aggs targets e row [] h none = refl
targets_substituted aggs targets e row (t ∷ ts) h none = λ i. value_before
    (val_substituted aggs targets e row t.term h (none_left (term_aggregates t.term) (in_targets ts) none) i)
    (targets_substituted aggs targets e row ts h (none_right (term_aggregates t.term) (in_targets ts) none) i)

-- ---- what it is to have values

-- a value equals itself, and no value equals nothing
equals_itself : (v : Option Value) → compared_values Eq v v ≡ is_some v
unfolding compared_values
equals_itself None = refl
equals_itself (Some v) = ap is_eq (tied_itself value_total v)

some_before : (v : Option Value) (vs : Option Row) → is_some (value_before v vs) ≡ (is_some v && is_some vs)
some_before None vs = refl
some_before (Some v) None = refl
some_before (Some v) (Some vs) = refl

pub values_required : (aggs : Aggs) (ts : List Target) (e : Env) → holds aggs (have_values ts) e ≡ is_some (target_values aggs ts e)
unfolding holds
values_required aggs [] e = refl
values_required aggs (t ∷ ts) e =
    (λ i. equals_itself (val aggs t.term e) i && values_required aggs ts e i) ∙ sym (some_before (val aggs t.term e) (target_values aggs ts e))

there_is : {X : Type 0} (o : Option X) → is_some o ≡ true → (x : X) × (o ≡ Some x)
there_is None h = cc h
there_is (Some x) h = (x, refl)

-- where the targets have values, that is what is required
pub values-have : (aggs : Aggs) (ts : List Target) (e : Env) (row : Row) → target_values aggs ts e ≡ Some row → holds aggs (have_values ts) e ≡ true
values-have aggs ts e row h = values_required aggs ts e ∙ ap is_some h

-- where it is required, they have values
pub have-values : (aggs : Aggs) (ts : List Target) (e : Env) → holds aggs (have_values ts) e ≡ true → (row : Row) × (target_values aggs ts e ≡ Some row)
have-values aggs ts e h = there_is (target_values aggs ts e) (sym (values_required aggs ts e) ∙ h)
