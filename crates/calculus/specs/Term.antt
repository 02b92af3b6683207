-- The value of a term and the truth of a qualification, in an assignment of rows to variables.
use Rattle.std.specs.Prelude.{ℕ, ℤ, Bool, true, false, not, ◌&&◌, ◌||◌, if◌then◌else◌, nat_le, List, [], ◌∷◌, ◌++◌, length, slice_get, Option, Some, None}
use Rattle.std.specs.declared.cmp.Ordering.{Ordering}
use Rattle.std.specs.Ordering.{is_eq, is_ne, is_lt, is_le, is_gt, is_ge}
use Rattle.calculus.specs.declared.value.Value.{Value}
use Rattle.calculus.specs.declared.value.Value.TheVariants as value
use Rattle.calculus.specs.declared.operator.ArithOp.{ArithOp}
use Rattle.calculus.specs.declared.operator.CmpOp.{CmpOp}
use Rattle.calculus.specs.declared.operator.CmpOp.TheVariants as compare
use Rattle.calculus.specs.declared.query.QTerm.{QTerm, Int, Chars, Attr, Agg', items-the_row-QTerm, Row_of-QAgg, end_of-QAgg, more_of-QAgg}
use Rattle.calculus.specs.declared.query.QQual.{QQual, True, Cmp, Like}
use Rattle.calculus.specs.declared.query.QAgg.{QAgg}
use Rattle.calculus.specs.Tree.{neg, abs, operation, concat, both, either, negated}
use Rattle.calculus.specs.Number.{opposite, without_sign, operated}
use Rattle.calculus.specs.Constant.{constant_text}
use Rattle.calculus.specs.Pattern.{matches}
use Rattle.calculus.specs.Value.{value_cmp}

-- a row of each variable, in the order of the variables
abbrev pub Env : Type 0
Env = List (List Value)

-- what each aggregate gives in each assignment
abbrev pub Aggs : Type 0
Aggs = QAgg → Env → Option Value

-- the value at a place of a row that may be there
abbrev pub value_in : Option (List Value) → ℕ → Option Value
value_in None attr = None
value_in (Some row) attr = slice_get row attr

-- the value of a variable's attribute, both by place; none where there is no such place
unfoldable pub attribute_value : Env → ℕ → ℕ → Option Value
attribute_value e var attr = value_in (slice_get e var) attr

-- the number as a value
abbrev pub number_value : Option ℤ → Option Value
number_value None = None
number_value (Some n) = Some (value.Int n)

-- what is made of a number; none where there is none
abbrev pub of_number : (ℤ → Option Value) → Option Value → Option Value
of_number f None = None
of_number f (Some (value.Int n)) = f n
of_number f (Some (value.Text t)) = None

-- what is made of a text; none where there is none
abbrev pub of_text : (List ℕ → Option Value) → Option Value → Option Value
of_text f None = None
of_text f (Some (value.Int n)) = None
of_text f (Some (value.Text t)) = f t

-- the value with the other sign
unfoldable pub opposite_value : Option Value → Option Value
opposite_value v = of_number (λ x. number_value (opposite x)) v

-- the value without its sign
unfoldable pub value_without_sign : Option Value → Option Value
value_without_sign v = of_number (λ x. number_value (without_sign x)) v

-- what an operation gives for two values
unfoldable pub operated_values : ArithOp → Option Value → Option Value → Option Value
operated_values op v w = of_number (λ x. of_number (λ y. number_value (operated op x y)) w) v

-- one text behind the other, where that has at most 255 bytes
abbrev pub joined_text : List ℕ → List ℕ → Option Value
joined_text s t = if nat_le (length (s ++ t)) 255 then Some (value.Text (s ++ t)) else None

-- one value behind the other
unfoldable pub joined_values : Option Value → Option Value → Option Value
joined_values v w = of_text (λ s. of_text (λ t. joined_text s t) w) v

-- what the aggregate of a tree gives
abbrev pub aggregate_value : Aggs → {n : _} → Row_of-QAgg n → Env → Option Value
aggregate_value aggs end_of-QAgg e = None
aggregate_value aggs (more_of-QAgg slot op source arg bys by links link qual rest) e =
    aggs (record { slot = slot; op = op; source = source; arg = arg; by = items-the_row-QTerm _ by; link = items-the_row-QTerm _ link; qual = qual }) e

-- the value of a term in an assignment, or none, where `aggs` is what the aggregates give
unfoldable pub val : Aggs → QTerm → Env → Option Value
val aggs (Int n) e = Some (value.Int n)
val aggs (Chars bytes) e = Some (value.Text (constant_text bytes))
val aggs (Attr var attr) e = attribute_value e var attr
val aggs (neg t) e = opposite_value (val aggs t e)
val aggs (abs t) e = value_without_sign (val aggs t e)
val aggs (operation op t u) e = operated_values op (val aggs t e) (val aggs u e)
val aggs (concat t u) e = joined_values (val aggs t e) (val aggs u e)
val aggs (Agg' mark row) e = aggregate_value aggs row e

-- which orders of two values a comparison asks for
abbrev pub asks_for : CmpOp → Ordering → Bool
asks_for compare.Eq = is_eq
asks_for compare.Ne = is_ne
asks_for compare.Lt = is_lt
asks_for compare.Le = is_le
asks_for compare.Gt = is_gt
asks_for compare.Ge = is_ge

-- a comparison of two values: false where a side has none
unfoldable pub compared_values : CmpOp → Option Value → Option Value → Bool
compared_values op None w = false
compared_values op (Some v) None = false
compared_values op (Some v) (Some w) = asks_for op (value_cmp v w)

-- a value matched against a pattern, or not where `same` is false; false where there is no text
unfoldable pub matched_value : List ℕ → Bool → Option Value → Bool
matched_value pattern same None = false
matched_value pattern same (Some (value.Int n)) = false
matched_value pattern same (Some (value.Text t)) = if same then matches pattern t else not (matches pattern t)

-- whether a qualification holds in an assignment, where `aggs` is what the aggregates give
unfoldable pub holds : Aggs → QQual → Env → Bool
holds aggs True e = true
holds aggs (Cmp op t u) e = compared_values op (val aggs t e) (val aggs u e)
holds aggs (Like t pattern same) e = matched_value pattern same (val aggs t e)
holds aggs (both p q) e = holds aggs p e && holds aggs q e
holds aggs (either p q) e = holds aggs p e || holds aggs q e
holds aggs (negated p) e = not (holds aggs p e)

-- no value for any aggregate
abbrev pub no_aggs : Aggs
no_aggs g e = None

-- the value in front of the others, where all are there
abbrev pub value_before : Option Value → Option (List Value) → Option (List Value)
value_before None vs = None
value_before (Some v) None = None
value_before (Some v) (Some vs) = Some (v ∷ vs)

-- the values of terms that hold no aggregate, in order; none where one of them has none
unfoldable pub values_of : List QTerm → Env → Option (List Value)
values_of [] e = Some []
values_of (t ∷ ts) e = value_before (val no_aggs t e) (values_of ts e)
