-- The forms of terms and qualifications as they are written, as the program makes them, are those that definitions name.
use mathlib.Core.Former.{arity, list, this}
use denote.Hole.Carrier.{hidden}
use Rattle.std.proofs.Common.{◌≡◌, refl, ap, List, [], ◌∷◌}
use Rattle.calculus.specs.declared.operator.ArithOp.{ArithOp}
use Rattle.calculus.specs.declared.statement.AggTerm.{AggTerm}
use Rattle.calculus.specs.declared.statement.Qual.TheBlock.{shape-the_row-Qual-0, hidden-the_row-Qual-0, shape-the_row-Term-1, hidden-the_row-Term-1, shape-the_row-Term-2, hidden-the_row-Term-2, shape-the_row-AggTerm-3, hidden-the_row-AggTerm-3}
use Rattle.calculus.specs.declared.statement.Qual.{Qual}
use Rattle.calculus.specs.declared.statement.Qual.TheVariants.{And, Or, Not}
use Rattle.calculus.specs.declared.statement.Term.{Term, Agg', Row_of-Term, more_of-Term, items-the_row-Term, end_of-AggTerm, more_of-AggTerm}
use Rattle.calculus.specs.declared.statement.Term.TheVariants.{Neg, Abs, Arith, Concat, Agg}
use Rattle.calculus.specs.Tree.{marks_for}
use Rattle.calculus.specs.Written.{neg, abs, operation, concat, aggregate, term_row, both, either, negated}

pub neg_is : (t : Term) → Neg t ≡ neg t
unfolding shape-the_row-Term-1 hidden-the_row-Term-1 hidden
neg_is t = refl

pub abs_is : (t : Term) → Abs t ≡ abs t
unfolding shape-the_row-Term-1 hidden-the_row-Term-1 hidden
abs_is t = refl

pub operation_is : (op : ArithOp) (s t : Term) → Arith op s t ≡ operation op s t
unfolding shape-the_row-Term-1 hidden-the_row-Term-1 hidden
operation_is op s t = refl

pub concat_is : (s t : Term) → Concat s t ≡ concat s t
unfolding shape-the_row-Term-1 hidden-the_row-Term-1 hidden
concat_is s t = refl

pub both_is : (p q : Qual) → And p q ≡ both p q
unfolding shape-the_row-Qual-0 hidden-the_row-Qual-0 hidden
both_is p q = refl

pub either_is : (p q : Qual) → Or p q ≡ either p q
unfolding shape-the_row-Qual-0 hidden-the_row-Qual-0 hidden
either_is p q = refl

pub negated_is : (p : Qual) → Not p ≡ negated p
unfolding shape-the_row-Qual-0 hidden-the_row-Qual-0 hidden
negated_is p = refl

-- the shape and the row of a list of terms, as the program makes them
pub terms_is : (ts : List Term) → ◌≡◌ {A = (s : List (Unit {0})) × Row_of-Term (arity (list this) s)} (shape-the_row-Term-2 ts, hidden-the_row-Term-2 ts) (marks_for ts, term_row ts)
unfolding shape-the_row-Term-2 hidden-the_row-Term-2 hidden
terms_is [] = refl
terms_is (t ∷ ts) = ap (λ p. (tt ∷ p.0, more_of-Term t p.1)) (terms_is ts)

pub agg_is : (a : AggTerm) → Agg a ≡ aggregate a
unfolding shape-the_row-AggTerm-3 hidden-the_row-AggTerm-3 hidden
agg_is a = λ i. Agg' tt (more_of-AggTerm a.op a.arg (terms_is a.by i).0 (terms_is a.by i).1 a.qual end_of-AggTerm)

-- what the row holds is the list
pub items_of_terms : (ts : List Term) → items-the_row-Term _ (term_row ts) ≡ ts
items_of_terms [] = refl
items_of_terms (t ∷ ts) = ap (λ us. t ∷ us) (items_of_terms ts)
