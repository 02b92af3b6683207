-- Names for the forms of terms and qualifications as they are written. The forms that hold no tree have their own names, as `Int n`.
use mathlib.Core.Former.{arity, list, this}
use Rattle.std.specs.Prelude.{List, [], ◌∷◌}
use Rattle.calculus.specs.declared.operator.AggOp.{AggOp}
use Rattle.calculus.specs.declared.operator.ArithOp.{ArithOp}
use Rattle.calculus.specs.Tree.{marks_for}
use Rattle.calculus.specs.declared.statement.AggTerm.{AggTerm}
use Rattle.calculus.specs.declared.statement.Qual.{Qual, And', Or', Not', end_of-Qual, more_of-Qual}
use Rattle.calculus.specs.declared.statement.Term.{Term, Neg', Abs', Arith', Concat', Agg', Row_of-Term, end_of-Term, more_of-Term, end_of-AggTerm, more_of-AggTerm}

-- ---- terms

-- the term with the other sign
pattern abbrev pub neg : Term → Term
neg t = Neg' tt (more_of-Term t end_of-Term)

-- the term without its sign
pattern abbrev pub abs : Term → Term
abs t = Abs' tt (more_of-Term t end_of-Term)

-- an operation on two terms
pattern abbrev pub operation : ArithOp → Term → Term → Term
operation op s t = Arith' op tt (more_of-Term s end_of-Term) tt (more_of-Term t end_of-Term)

-- one text behind the other
pattern abbrev pub concat : Term → Term → Term
concat s t = Concat' tt (more_of-Term s end_of-Term) tt (more_of-Term t end_of-Term)

-- an aggregate: its operation and term, the shape and the terms of `by`, and its qualification
pattern abbrev pub aggregate_parts : AggOp → Term → (bs : List (Unit {0})) → Row_of-Term (arity (list this) bs) → Qual → Term
aggregate_parts op arg bs by qual = Agg' tt (more_of-AggTerm op arg bs by qual end_of-AggTerm)

-- ---- qualifications

-- both hold
pattern abbrev pub both : Qual → Qual → Qual
both p q = And' tt (more_of-Qual p end_of-Qual) tt (more_of-Qual q end_of-Qual)

-- at least one holds
pattern abbrev pub either : Qual → Qual → Qual
either p q = Or' tt (more_of-Qual p end_of-Qual) tt (more_of-Qual q end_of-Qual)

-- it doesn't hold
pattern abbrev pub negated : Qual → Qual
negated p = Not' tt (more_of-Qual p end_of-Qual)

-- ---- trees that hold lists, from their parts

-- terms, as a tree holds them
abbrev pub term_row : (ts : List Term) → Row_of-Term (arity (list this) (marks_for ts))
term_row [] = end_of-Term
term_row (t ∷ ts) = more_of-Term t (term_row ts)

-- the term that is this aggregate
abbrev pub aggregate : AggTerm → Term
aggregate a = Agg' tt (more_of-AggTerm a.op a.arg (marks_for a.by) (term_row a.by) a.qual end_of-AggTerm)
