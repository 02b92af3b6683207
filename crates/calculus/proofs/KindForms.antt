-- The kind of a term and whether the kinds of a qualification fit, form by form.
use Rattle.std.proofs.Common.{◌≡◌, ℕ, ℤ, Bool, true, ◌&&◌, refl, List, Some, None}
use denote.Hole.Carrier.{hidden}
use Rattle.calculus.specs.declared.query.AggSource.TheBlock.{shape-the_row-QTerm-2, hidden-the_row-QTerm-2, shape-the_row-QQual-1, hidden-the_row-QQual-1, shape-the_row-QAgg-4, hidden-the_row-QAgg-4}
use Rattle.calculus.specs.declared.operator.ArithOp.{ArithOp}
use Rattle.calculus.specs.declared.operator.CmpOp.{CmpOp}
use Rattle.calculus.specs.declared.query.QTerm.{QTerm}
use Rattle.calculus.specs.declared.query.QTerm.TheVariants.{Int, Chars, Attr, Neg, Abs, Arith, Concat, Agg}
use Rattle.calculus.specs.declared.query.QQual.{QQual}
use Rattle.calculus.specs.declared.query.QQual.TheVariants.{True, Cmp, Like, And, Or, Not}
use Rattle.calculus.specs.declared.query.QAgg.{QAgg}
use Rattle.calculus.specs.declared.value.Kind.{Kind}
use Rattle.calculus.specs.declared.value.Kind.TheVariants.{Wide}
use Rattle.calculus.specs.Kinds.{kind_of, kinds_fit, constant_kind, attribute_kind, number_kind, operated_kind, joined_kind, comparable, is_text_kind}

abbrev Vars : Type 0
Vars = List (List Kind)

pub kind_int : (n : ℤ) (vars : Vars) → kind_of (Int n) vars ≡ Some Wide
unfolding kind_of
kind_int n vars = refl

pub kind_chars : (bytes : List ℕ) (vars : Vars) → kind_of (Chars bytes) vars ≡ Some (constant_kind bytes)
unfolding kind_of
kind_chars bytes vars = refl

pub kind_attr : (var attr : ℕ) (vars : Vars) → kind_of (Attr var attr) vars ≡ attribute_kind vars var attr
unfolding kind_of
kind_attr var attr vars = refl

pub kind_neg : (t : QTerm) (vars : Vars) → kind_of (Neg t) vars ≡ number_kind (kind_of t vars)
unfolding shape-the_row-QTerm-2 hidden-the_row-QTerm-2 hidden kind_of
kind_neg t vars = refl

pub kind_abs : (t : QTerm) (vars : Vars) → kind_of (Abs t) vars ≡ number_kind (kind_of t vars)
unfolding shape-the_row-QTerm-2 hidden-the_row-QTerm-2 hidden kind_of
kind_abs t vars = refl

pub kind_arith : (op : ArithOp) (t u : QTerm) (vars : Vars) → kind_of (Arith op t u) vars ≡ operated_kind (kind_of t vars) (kind_of u vars)
unfolding shape-the_row-QTerm-2 hidden-the_row-QTerm-2 hidden kind_of
kind_arith op t u vars = refl

pub kind_concat : (t u : QTerm) (vars : Vars) → kind_of (Concat t u) vars ≡ joined_kind (kind_of t vars) (kind_of u vars)
unfolding shape-the_row-QTerm-2 hidden-the_row-QTerm-2 hidden kind_of
kind_concat t u vars = refl

pub kind_agg : (g : QAgg) (vars : Vars) → kind_of (Agg g) vars ≡ None
unfolding shape-the_row-QAgg-4 hidden-the_row-QAgg-4 hidden kind_of
kind_agg g vars = refl

pub fit_true : (vars : Vars) → kinds_fit True vars ≡ true
unfolding kinds_fit
fit_true vars = refl

pub fit_cmp : (op : CmpOp) (t u : QTerm) (vars : Vars) → kinds_fit (Cmp op t u) vars ≡ comparable (kind_of t vars) (kind_of u vars)
unfolding kinds_fit
fit_cmp op t u vars = refl

pub fit_like : (t : QTerm) (pattern : List ℕ) (same : Bool) (vars : Vars) → kinds_fit (Like t pattern same) vars ≡ is_text_kind (kind_of t vars)
unfolding kinds_fit
fit_like t pattern same vars = refl

pub fit_and : (p q : QQual) (vars : Vars) → kinds_fit (And p q) vars ≡ (kinds_fit p vars && kinds_fit q vars)
unfolding shape-the_row-QQual-1 hidden-the_row-QQual-1 hidden kinds_fit
fit_and p q vars = refl

pub fit_or : (p q : QQual) (vars : Vars) → kinds_fit (Or p q) vars ≡ (kinds_fit p vars && kinds_fit q vars)
unfolding shape-the_row-QQual-1 hidden-the_row-QQual-1 hidden kinds_fit
fit_or p q vars = refl

pub fit_not : (p : QQual) (vars : Vars) → kinds_fit (Not p) vars ≡ kinds_fit p vars
unfolding shape-the_row-QQual-1 hidden-the_row-QQual-1 hidden kinds_fit
fit_not p vars = refl
