-- The sizes of terms and qualifications, form by form.
use Rattle.std.proofs.Common.{◌≡◌, refl, ℕ, ℤ, ◌+◌, Bool, List}
use denote.Hole.Carrier.{hidden}
use Rattle.calculus.specs.declared.query.AggSource.TheBlock.{shape-the_row-QTerm-2, hidden-the_row-QTerm-2, shape-the_row-QQual-1, hidden-the_row-QQual-1, shape-the_row-QAgg-4, hidden-the_row-QAgg-4}
use Rattle.calculus.specs.declared.operator.ArithOp.{ArithOp}
use Rattle.calculus.specs.declared.operator.CmpOp.{CmpOp}
use Rattle.calculus.specs.declared.query.QTerm.{QTerm}
use Rattle.calculus.specs.declared.query.QTerm.TheVariants.{Int, Chars, Attr, Neg, Abs, Arith, Concat, Agg}
use Rattle.calculus.specs.declared.query.QQual.{QQual}
use Rattle.calculus.specs.declared.query.QQual.TheVariants.{True, Cmp, Like, And, Or, Not}
use Rattle.calculus.specs.declared.query.QAgg.{QAgg}
use Rattle.calculus.specs.Sizes.{Measures, attr_size, term_size, qual_size}

pub size_int : (vars : Measures) (n : ℤ) → term_size vars (Int n) ≡ 1
unfolding term_size
size_int vars n = refl

pub size_chars : (vars : Measures) (bytes : List ℕ) → term_size vars (Chars bytes) ≡ 1
unfolding term_size
size_chars vars bytes = refl

pub size_attr : (vars : Measures) (var attr : ℕ) → term_size vars (Attr var attr) ≡ attr_size vars var attr
unfolding term_size
size_attr vars var attr = refl

pub size_neg : (vars : Measures) (t : QTerm) → term_size vars (Neg t) ≡ 1 + term_size vars t
unfolding shape-the_row-QTerm-2 hidden-the_row-QTerm-2 hidden term_size
size_neg vars t = refl

pub size_abs : (vars : Measures) (t : QTerm) → term_size vars (Abs t) ≡ 1 + term_size vars t
unfolding shape-the_row-QTerm-2 hidden-the_row-QTerm-2 hidden term_size
size_abs vars t = refl

pub size_arith : (vars : Measures) (op : ArithOp) (t u : QTerm) → term_size vars (Arith op t u) ≡ 1 + (term_size vars t + term_size vars u)
unfolding shape-the_row-QTerm-2 hidden-the_row-QTerm-2 hidden term_size
size_arith vars op t u = refl

pub size_concat : (vars : Measures) (t u : QTerm) → term_size vars (Concat t u) ≡ 1 + (term_size vars t + term_size vars u)
unfolding shape-the_row-QTerm-2 hidden-the_row-QTerm-2 hidden term_size
size_concat vars t u = refl

pub size_agg : (vars : Measures) (g : QAgg) → term_size vars (Agg g) ≡ 1
unfolding shape-the_row-QAgg-4 hidden-the_row-QAgg-4 hidden term_size
size_agg vars g = refl

pub size_true : (vars : Measures) → qual_size vars True ≡ 0
unfolding qual_size
size_true vars = refl

pub size_cmp : (vars : Measures) (op : CmpOp) (t u : QTerm) → qual_size vars (Cmp op t u) ≡ 1 + (term_size vars t + term_size vars u)
unfolding qual_size
size_cmp vars op t u = refl

pub size_like : (vars : Measures) (t : QTerm) (pattern : List ℕ) (same : Bool) → qual_size vars (Like t pattern same) ≡ 1 + (term_size vars t + 1)
unfolding qual_size
size_like vars t pattern same = refl

pub size_and : (vars : Measures) (p q : QQual) → qual_size vars (And p q) ≡ 1 + (qual_size vars p + qual_size vars q)
unfolding shape-the_row-QQual-1 hidden-the_row-QQual-1 hidden qual_size
size_and vars p q = refl

pub size_or : (vars : Measures) (p q : QQual) → qual_size vars (Or p q) ≡ 1 + (qual_size vars p + qual_size vars q)
unfolding shape-the_row-QQual-1 hidden-the_row-QQual-1 hidden qual_size
size_or vars p q = refl

pub size_not : (vars : Measures) (p : QQual) → qual_size vars (Not p) ≡ 1 + qual_size vars p
unfolding shape-the_row-QQual-1 hidden-the_row-QQual-1 hidden qual_size
size_not vars p = refl
