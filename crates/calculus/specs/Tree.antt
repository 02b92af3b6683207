-- Names for the forms of a term, a qualification, an aggregate and a query, to read them by and to write them with.
use mathlib.Core.Former.{arity, list, this}
use Rattle.std.specs.Prelude.{List, [], ◌∷◌}
use Rattle.calculus.specs.declared.query.RelKey.{RelKey}
use Rattle.calculus.specs.declared.operator.ArithOp.{ArithOp}
use Rattle.calculus.specs.declared.query.Target.{Target}
use Rattle.calculus.specs.declared.query.QTerm.{QTerm, Neg', Abs', Arith', Concat', Agg', Row_of-QTerm, end_of-QTerm, more_of-QTerm, end_of-QAgg, more_of-QAgg}
use Rattle.calculus.specs.declared.query.QQual.{QQual, And', Or', Not', end_of-QQual, more_of-QQual}
use Rattle.calculus.specs.declared.query.QAgg.{QAgg}
use Rattle.calculus.specs.declared.query.AggSource.{AggSource, Rows', end_of-Query, more_of-Query}
use Rattle.calculus.specs.declared.query.Query.{Query, Query', Row_of-Target, end_of-Target, more_of-Target}

-- the term with the other sign
pattern abbrev pub neg : QTerm → QTerm
neg t = Neg' tt (more_of-QTerm t end_of-QTerm)

-- the term without its sign
pattern abbrev pub abs : QTerm → QTerm
abs t = Abs' tt (more_of-QTerm t end_of-QTerm)

-- an operation on two terms
pattern abbrev pub operation : ArithOp → QTerm → QTerm → QTerm
operation op left right = Arith' op tt (more_of-QTerm left end_of-QTerm) tt (more_of-QTerm right end_of-QTerm)

-- one text behind the other
pattern abbrev pub concat : QTerm → QTerm → QTerm
concat left right = Concat' tt (more_of-QTerm left end_of-QTerm) tt (more_of-QTerm right end_of-QTerm)

-- both hold
pattern abbrev pub both : QQual → QQual → QQual
both p q = And' tt (more_of-QQual p end_of-QQual) tt (more_of-QQual q end_of-QQual)

-- at least one holds
pattern abbrev pub either : QQual → QQual → QQual
either p q = Or' tt (more_of-QQual p end_of-QQual) tt (more_of-QQual q end_of-QQual)

-- it doesn't hold
pattern abbrev pub negated : QQual → QQual
negated p = Not' tt (more_of-QQual p end_of-QQual)

-- the rows of a query
pattern abbrev pub rows_of_query : Query → AggSource
rows_of_query q = Rows' tt (more_of-Query q end_of-Query)

-- one mark for each item of a list
abbrev pub marks_for : {X : Type 0} → List X → List (Unit {0})
marks_for [] = []
marks_for (x ∷ xs) = tt ∷ marks_for xs

-- terms, as a tree holds them
abbrev pub term_row : (ts : List QTerm) → Row_of-QTerm (arity (list this) (marks_for ts))
term_row [] = end_of-QTerm
term_row (t ∷ ts) = more_of-QTerm t (term_row ts)

-- targets, as a query holds them
abbrev pub target_row : (ts : List Target) → Row_of-Target (arity (list this) (marks_for ts))
target_row [] = end_of-Target
target_row (t ∷ ts) = more_of-Target t.name t.kind t.term (target_row ts)

-- the query of these variables, targets and qualification
abbrev pub query : List RelKey → List Target → QQual → Query
query vars targets qual = Query' vars (marks_for targets) (target_row targets) qual

-- the term that is this aggregate
abbrev pub aggregate : QAgg → QTerm
aggregate g = Agg' tt (more_of-QAgg g.slot g.op g.source g.arg (marks_for g.by) (term_row g.by) (marks_for g.link) (term_row g.link) g.qual end_of-QAgg)
