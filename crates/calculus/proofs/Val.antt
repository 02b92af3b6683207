-- The value of a term and the truth of a qualification, form by form.
use Rattle.std.proofs.Common.{◌≡◌, ℕ, ℤ, Bool, true, not, ◌&&◌, ◌||◌, refl, List, Some}
use denote.Hole.Carrier.{hidden}
use Rattle.calculus.specs.declared.query.AggSource.TheBlock.{shape-the_row-QTerm-2, hidden-the_row-QTerm-2, shape-the_row-QQual-1, hidden-the_row-QQual-1, shape-the_row-QAgg-4, hidden-the_row-QAgg-4, items_hidden-the_row-QTerm-3}
use Rattle.calculus.specs.declared.operator.ArithOp.{ArithOp}
use Rattle.calculus.specs.declared.operator.CmpOp.{CmpOp}
use Rattle.calculus.specs.declared.query.QTerm.{QTerm}
use Rattle.calculus.specs.declared.query.QTerm.TheVariants.{Int, Chars, Attr, Neg, Abs, Arith, Concat, Agg}
use Rattle.calculus.specs.declared.query.QQual.{QQual}
use Rattle.calculus.specs.declared.query.QQual.TheVariants.{True, Cmp, Like, And, Or, Not}
use Rattle.calculus.specs.declared.query.QAgg.{QAgg}
use Rattle.calculus.specs.declared.value.Value.TheVariants as value
use Rattle.calculus.specs.Constant.{constant_text}
use Rattle.calculus.specs.Term.{Env, Aggs, val, holds, attribute_value, opposite_value, value_without_sign, operated_values, joined_values, compared_values, matched_value}

pub val_int : (aggs : Aggs) (n : ℤ) (e : Env) → val aggs (Int n) e ≡ Some (value.Int n)
unfolding val
val_int aggs n e = refl

pub val_chars : (aggs : Aggs) (bytes : List ℕ) (e : Env) → val aggs (Chars bytes) e ≡ Some (value.Text (constant_text bytes))
unfolding val
val_chars aggs bytes e = refl

pub val_attr : (aggs : Aggs) (var attr : ℕ) (e : Env) → val aggs (Attr var attr) e ≡ attribute_value e var attr
unfolding val
val_attr aggs var attr e = refl

pub val_neg : (aggs : Aggs) (t : QTerm) (e : Env) → val aggs (Neg t) e ≡ opposite_value (val aggs t e)
unfolding shape-the_row-QTerm-2 hidden-the_row-QTerm-2 hidden val
val_neg aggs t e = refl

pub val_abs : (aggs : Aggs) (t : QTerm) (e : Env) → val aggs (Abs t) e ≡ value_without_sign (val aggs t e)
unfolding shape-the_row-QTerm-2 hidden-the_row-QTerm-2 hidden val
val_abs aggs t e = refl

pub val_arith : (aggs : Aggs) (op : ArithOp) (t u : QTerm) (e : Env) → val aggs (Arith op t u) e ≡ operated_values op (val aggs t e) (val aggs u e)
unfolding shape-the_row-QTerm-2 hidden-the_row-QTerm-2 hidden val
val_arith aggs op t u e = refl

pub val_concat : (aggs : Aggs) (t u : QTerm) (e : Env) → val aggs (Concat t u) e ≡ joined_values (val aggs t e) (val aggs u e)
unfolding shape-the_row-QTerm-2 hidden-the_row-QTerm-2 hidden val
val_concat aggs t u e = refl

pub val_agg : (aggs : Aggs) (g : QAgg) (e : Env) → val aggs (Agg g) e ≡ aggs g e
unfolding shape-the_row-QAgg-4 hidden-the_row-QAgg-4 hidden val
val_agg aggs g e = λ i. aggs (record { slot = g.slot; op = g.op; source = g.source; arg = g.arg; by = items_hidden-the_row-QTerm-3 g.by i; link = items_hidden-the_row-QTerm-3 g.link i; qual = g.qual }) e

pub holds_true : (aggs : Aggs) (e : Env) → holds aggs True e ≡ true
unfolding holds
holds_true aggs e = refl

pub holds_cmp : (aggs : Aggs) (op : CmpOp) (t u : QTerm) (e : Env) → holds aggs (Cmp op t u) e ≡ compared_values op (val aggs t e) (val aggs u e)
unfolding holds
holds_cmp aggs op t u e = refl

pub holds_like : (aggs : Aggs) (t : QTerm) (pattern : List ℕ) (same : Bool) (e : Env) → holds aggs (Like t pattern same) e ≡ matched_value pattern same (val aggs t e)
unfolding holds
holds_like aggs t pattern same e = refl

pub holds_and : (aggs : Aggs) (p q : QQual) (e : Env) → holds aggs (And p q) e ≡ (holds aggs p e && holds aggs q e)
unfolding shape-the_row-QQual-1 hidden-the_row-QQual-1 hidden holds
holds_and aggs p q e = refl

pub holds_or : (aggs : Aggs) (p q : QQual) (e : Env) → holds aggs (Or p q) e ≡ (holds aggs p e || holds aggs q e)
unfolding shape-the_row-QQual-1 hidden-the_row-QQual-1 hidden holds
holds_or aggs p q e = refl

pub holds_not : (aggs : Aggs) (p : QQual) (e : Env) → holds aggs (Not p) e ≡ not (holds aggs p e)
unfolding shape-the_row-QQual-1 hidden-the_row-QQual-1 hidden holds
holds_not aggs p e = refl
