-- Terms and qualifications with other terms in place of their attributes, form by form.
use Rattle.std.proofs.Common.{◌≡◌, ℕ, ℤ, pos, Bool, refl, ap, List}
use denote.Hole.Carrier.{hidden}
use Rattle.calculus.specs.declared.query.AggSource.TheBlock.{shape-the_row-QTerm-2, hidden-the_row-QTerm-2, shape-the_row-QQual-1, hidden-the_row-QQual-1, shape-the_row-QAgg-4, hidden-the_row-QAgg-4}
use Rattle.calculus.specs.declared.operator.ArithOp.{ArithOp}
use Rattle.calculus.specs.declared.operator.ArithOp.TheVariants.{Div}
use Rattle.calculus.specs.declared.operator.CmpOp.{CmpOp}
use Rattle.calculus.specs.declared.query.QTerm.{QTerm}
use Rattle.calculus.specs.declared.query.QTerm.TheVariants.{Int, Chars, Attr, Neg, Abs, Arith, Concat, Agg}
use Rattle.calculus.specs.declared.query.QQual.{QQual}
use Rattle.calculus.specs.declared.query.QQual.TheVariants.{True, Cmp, Like, And, Or, Not}
use Rattle.calculus.specs.declared.query.QAgg.{QAgg}
use Rattle.calculus.specs.Tree.{aggregate}
use Rattle.calculus.proofs.Forms.{agg_is}
use Rattle.view_text.specs.Replaced.{Substitution, replaced, replaced_in_qual, without_value}

abbrev Making : Type 0
Making = QTerm → QTerm

pub replaced_int : (made : Making) (put : Substitution) (n : ℤ) → replaced made put (Int n) ≡ Int n
unfolding replaced
replaced_int made put n = refl

pub replaced_chars : (made : Making) (put : Substitution) (bytes : List ℕ) → replaced made put (Chars bytes) ≡ Chars bytes
unfolding replaced
replaced_chars made put bytes = refl

pub replaced_attr : (made : Making) (put : Substitution) (var attr : ℕ) → replaced made put (Attr var attr) ≡ put var attr
unfolding replaced
replaced_attr made put var attr = refl

pub replaced_neg : (made : Making) (put : Substitution) (t : QTerm) → replaced made put (Neg t) ≡ Neg (replaced made put t)
unfolding shape-the_row-QTerm-2 hidden-the_row-QTerm-2 hidden replaced
replaced_neg made put t = refl

pub replaced_abs : (made : Making) (put : Substitution) (t : QTerm) → replaced made put (Abs t) ≡ Abs (replaced made put t)
unfolding shape-the_row-QTerm-2 hidden-the_row-QTerm-2 hidden replaced
replaced_abs made put t = refl

pub replaced_arith : (made : Making) (put : Substitution) (op : ArithOp) (t u : QTerm) → replaced made put (Arith op t u) ≡ Arith op (replaced made put t) (replaced made put u)
unfolding shape-the_row-QTerm-2 hidden-the_row-QTerm-2 hidden replaced
replaced_arith made put op t u = refl

pub replaced_concat : (made : Making) (put : Substitution) (t u : QTerm) → replaced made put (Concat t u) ≡ Concat (replaced made put t) (replaced made put u)
unfolding shape-the_row-QTerm-2 hidden-the_row-QTerm-2 hidden replaced
replaced_concat made put t u = refl

pub replaced_agg : (made : Making) (put : Substitution) (g : QAgg) → replaced made put (Agg g) ≡ made (aggregate g)
unfolding shape-the_row-QAgg-4 hidden-the_row-QAgg-4 hidden replaced
replaced_agg made put g = ap made (agg_is g)

pub replaced_true : (made : Making) (put : Substitution) → replaced_in_qual made put True ≡ True
unfolding replaced_in_qual
replaced_true made put = refl

pub replaced_cmp : (made : Making) (put : Substitution) (op : CmpOp) (t u : QTerm) → replaced_in_qual made put (Cmp op t u) ≡ Cmp op (replaced made put t) (replaced made put u)
unfolding replaced_in_qual
replaced_cmp made put op t u = refl

pub replaced_like : (made : Making) (put : Substitution) (t : QTerm) (pattern : List ℕ) (same : Bool) → replaced_in_qual made put (Like t pattern same) ≡ Like (replaced made put t) pattern same
unfolding replaced_in_qual
replaced_like made put t pattern same = refl

pub replaced_and : (made : Making) (put : Substitution) (p q : QQual) → replaced_in_qual made put (And p q) ≡ And (replaced_in_qual made put p) (replaced_in_qual made put q)
unfolding shape-the_row-QQual-1 hidden-the_row-QQual-1 hidden replaced_in_qual
replaced_and made put p q = refl

pub replaced_or : (made : Making) (put : Substitution) (p q : QQual) → replaced_in_qual made put (Or p q) ≡ Or (replaced_in_qual made put p) (replaced_in_qual made put q)
unfolding shape-the_row-QQual-1 hidden-the_row-QQual-1 hidden replaced_in_qual
replaced_or made put p q = refl

pub replaced_not : (made : Making) (put : Substitution) (q : QQual) → replaced_in_qual made put (Not q) ≡ Not (replaced_in_qual made put q)
unfolding shape-the_row-QQual-1 hidden-the_row-QQual-1 hidden replaced_in_qual
replaced_not made put q = refl

-- the quotient of one and nothing, as the program makes it
pub quotient_of_nothing : Arith Div (Int (pos 1)) (Int (pos 0)) ≡ without_value
unfolding shape-the_row-QTerm-2 hidden-the_row-QTerm-2 hidden
quotient_of_nothing = refl
