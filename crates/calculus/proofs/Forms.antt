-- The forms of trees, as the program makes them, are those that definitions name.
use Rattle.std.proofs.Common.{◌≡◌, refl, ap, List, [], ◌∷◌}
use mathlib.Core.Former.{arity, list, this}
use denote.Hole.Carrier.{hidden, roll}
use Rattle.calculus.specs.declared.operator.ArithOp.{ArithOp}
use Rattle.calculus.specs.declared.query.AggSource.TheBlock.{shape-the_row-Query-0, hidden-the_row-Query-0, shape-the_row-Target-5, hidden-the_row-Target-5, shape-the_row-QQual-1, hidden-the_row-QQual-1, shape-the_row-QTerm-2, hidden-the_row-QTerm-2, shape-the_row-QTerm-3, hidden-the_row-QTerm-3, shape-the_row-QAgg-4, hidden-the_row-QAgg-4}
use Rattle.calculus.specs.declared.query.AggSource.TheVariants.{Rows}
use Rattle.calculus.specs.declared.query.QAgg.{QAgg}
use Rattle.calculus.specs.declared.query.QQual.{QQual}
use Rattle.calculus.specs.declared.query.QQual.TheVariants.{And, Or, Not}
use Rattle.calculus.specs.declared.query.QTerm.{QTerm, Agg', Row_of-QTerm, more_of-QTerm, items-the_row-QTerm, end_of-QAgg, more_of-QAgg}
use Rattle.calculus.specs.declared.query.QTerm.TheVariants.{Neg, Abs, Arith, Concat, Agg}
use Rattle.calculus.specs.declared.query.Query.{Query, Query', roll-Query, items-the_row-Target, Row_of-Target, more_of-Target}
use Rattle.calculus.specs.declared.query.RelKey.{RelKey}
use Rattle.calculus.specs.declared.query.Target.{Target}
use Rattle.calculus.specs.Tree.{neg, abs, operation, concat, aggregate, marks_for, term_row, both, either, negated, rows_of_query, query, target_row}

pub neg_is : (t : QTerm) → Neg t ≡ neg t
unfolding shape-the_row-QTerm-2 hidden-the_row-QTerm-2 hidden
neg_is t = refl

pub abs_is : (t : QTerm) → Abs t ≡ abs t
unfolding shape-the_row-QTerm-2 hidden-the_row-QTerm-2 hidden
abs_is t = refl

pub operation_is : (op : ArithOp) (s t : QTerm) → Arith op s t ≡ operation op s t
unfolding shape-the_row-QTerm-2 hidden-the_row-QTerm-2 hidden
operation_is op s t = refl

pub concat_is : (s t : QTerm) → Concat s t ≡ concat s t
unfolding shape-the_row-QTerm-2 hidden-the_row-QTerm-2 hidden
concat_is s t = refl

-- the shape and the row of a list of terms, as the program makes them
pub terms_is : (ts : List QTerm) → ◌≡◌ {A = (s : List (Unit {0})) × Row_of-QTerm (arity (list this) s)} (shape-the_row-QTerm-3 ts, hidden-the_row-QTerm-3 ts) (marks_for ts, term_row ts)
unfolding shape-the_row-QTerm-3 hidden-the_row-QTerm-3 hidden
terms_is [] = refl
terms_is (t ∷ ts) = ap (λ p. (tt ∷ p.0, more_of-QTerm t p.1)) (terms_is ts)

pub agg_is : (g : QAgg) → Agg g ≡ aggregate g
unfolding shape-the_row-QAgg-4 hidden-the_row-QAgg-4 hidden
agg_is g =
    λ i. Agg' tt (more_of-QAgg g.slot g.op g.source g.arg (terms_is g.by i).0 (terms_is g.by i).1 (terms_is g.link i).0 (terms_is g.link i).1 g.qual end_of-QAgg)

-- what the row holds is the list
pub items_of_terms : (ts : List QTerm) → items-the_row-QTerm _ (term_row ts) ≡ ts
items_of_terms [] = refl
items_of_terms (t ∷ ts) = ap (λ us. t ∷ us) (items_of_terms ts)

pub both_is : (p q : QQual) → And p q ≡ both p q
unfolding shape-the_row-QQual-1 hidden-the_row-QQual-1 hidden
both_is p q = refl

pub either_is : (p q : QQual) → Or p q ≡ either p q
unfolding shape-the_row-QQual-1 hidden-the_row-QQual-1 hidden
either_is p q = refl

pub negated_is : (p : QQual) → Not p ≡ negated p
unfolding shape-the_row-QQual-1 hidden-the_row-QQual-1 hidden
negated_is p = refl

-- ---- sources and queries

pub rows_is : (q : Query) → Rows q ≡ rows_of_query q
unfolding shape-the_row-Query-0 hidden-the_row-Query-0 hidden
rows_is q = refl

-- the shape and the row of a list of targets, as the program makes them
pub targets_is : (ts : List Target) → ◌≡◌ {A = (s : List (Unit {0})) × Row_of-Target (arity (list this) s)} (shape-the_row-Target-5 ts, hidden-the_row-Target-5 ts) (marks_for ts, target_row ts)
unfolding shape-the_row-Target-5 hidden-the_row-Target-5 hidden
targets_is [] = refl
targets_is (t ∷ ts) = ap (λ p. (tt ∷ p.0, more_of-Target t.name t.kind t.term p.1)) (targets_is ts)

pub query_is : (vars : List RelKey) (targets : List Target) (qual : QQual) → roll-Query (record { vars = vars; targets = targets; qual = qual }) ≡ query vars targets qual
unfolding roll-Query roll
query_is vars targets qual = λ i. Query' vars (targets_is targets i).0 (targets_is targets i).1 qual

-- what the row holds is the list
pub items_of_targets : (ts : List Target) → items-the_row-Target _ (target_row ts) ≡ ts
items_of_targets [] = refl
items_of_targets (t ∷ ts) = ap (λ us. t ∷ us) (items_of_targets ts)
