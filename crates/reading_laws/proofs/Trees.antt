-- The tree of a written term has at most as many levels as the term, and so has that of a qualification.
use Rattle.std.proofs.Common.{ℕ, ◌+◌, ◌≤◌, max, length, arith}
use Rattle.calculus.specs.declared.operator.CmpOp.{CmpOp}
use Rattle.calculus.specs.declared.operator.CmpOp.TheVariants as compare
use Rattle.calculus.specs.declared.query.QTerm.{QTerm}
use Rattle.calculus.specs.declared.query.QTerm.TheVariants as qterm
use Rattle.calculus.specs.declared.statement.Qual.{Qual, True, Cmp}
use Rattle.calculus.specs.declared.statement.Term.{Term, Int, Chars, Attr as Dot, Agg', Row_of-Term, end_of-Term, more_of-Term, items-the_row-Term, Row_of-AggTerm, end_of-AggTerm, more_of-AggTerm}
use Rattle.calculus.specs.Tree.{term_row}
use Rattle.calculus.specs.TreeLevels as deep
use Rattle.calculus.specs.Written.{neg, abs, operation, concat, both, either, negated}
use Rattle.quel_meaning.specs.Scope.{Scope}
use Rattle.quel_meaning.specs.WrittenParts.{aggregates_in, aggregates_in_qual, aggregate_vars}
use Rattle.quel_meaning.specs.WrittenTree.{Vars, compared, term_tree, aggregate_tree, row_trees, qual_tree}
use Rattle.reading_laws.specs.Shallow.{term_levels, aggregate_levels, greatest_term_levels, qual_levels}

-- ---- from bounds on the parts

pub same : (n : ℕ) → n ≤ n
same n = omega arith

pub at_most : (l m n : ℕ) → l ≤ m → m ≤ n → l ≤ n
at_most l m n h g = omega (arith, h, g)

pub first : (m n : ℕ) → m ≤ max m n
first m n = omega arith

pub second : (m n : ℕ) → n ≤ max m n
second m n = omega arith

one_above : (m n : ℕ) → m ≤ n → 1 + m ≤ 1 + n
one_above m n h = omega (arith, h)

greater : (m n j k : ℕ) → m ≤ j → n ≤ k → max m n ≤ max j k
greater m n j k h g = omega (arith, h, g)

pub two_above : (m n j k : ℕ) → m ≤ j → n ≤ k → 1 + max m n ≤ 1 + max j k
two_above m n j k h g = one_above (max m n) (max j k) (greater m n j k h g)

-- of an aggregate's term, of its by-list, which stands twice, and of its qualification
gathered : (a b l q i j k : ℕ) → a ≤ i → b ≤ j → l ≤ j → q ≤ k → 1 + (1 + max 0 (max a (max b (max l q)))) ≤ 1 + (1 + max i (max j k))
gathered a b l q i j k h f g e = omega (arith, h, f, g, e)

-- ---- terms and qualifications

-- what is matched with a pattern isn't deeper than what is compared
compared_shallow : (op : CmpOp) (t u : QTerm) → deep.qual_levels (compared op t u) ≤ 1 + max (deep.term_levels t) (deep.term_levels u)
compared_shallow compare.Eq t (qterm.Chars pattern) = one_above (deep.term_levels t) (max (deep.term_levels t) 1) (first (deep.term_levels t) 1)
compared_shallow compare.Ne t (qterm.Chars pattern) = one_above (deep.term_levels t) (max (deep.term_levels t) 1) (first (deep.term_levels t) 1)
compared_shallow compare.Eq (qterm.Chars pattern) u = one_above (deep.term_levels u) (max 1 (deep.term_levels u)) (second 1 (deep.term_levels u))
compared_shallow compare.Ne (qterm.Chars pattern) u = one_above (deep.term_levels u) (max 1 (deep.term_levels u)) (second 1 (deep.term_levels u))
compared_shallow op t u = same (1 + max (deep.term_levels t) (deep.term_levels u))

mutual
  pub term_shallow : (s : Scope) (vars : Vars) (n : ℕ) (t : Term) → deep.term_levels (term_tree s vars n t) ≤ term_levels t
  term_shallow s vars n (Int number) = same 1
  term_shallow s vars n (Chars bytes) = same 1
  term_shallow s vars n (Dot var attr) = same 1
  term_shallow s vars n (neg t) = one_above _ _ (term_shallow s vars n t)
  term_shallow s vars n (abs t) = one_above _ _ (term_shallow s vars n t)
  term_shallow s vars n (operation op t u) = two_above _ _ _ _ (term_shallow s vars n t) (term_shallow s vars (n + length (aggregates_in t)) u)
  term_shallow s vars n (concat t u) = two_above _ _ _ _ (term_shallow s vars n t) (term_shallow s vars (n + length (aggregates_in t)) u)
  term_shallow s vars n (Agg' mark row) = aggregate_shallow s vars n row

  aggregate_shallow : (s : Scope) (vars : Vars) (n : ℕ) → {m : _} → (row : Row_of-AggTerm m) → deep.term_levels (aggregate_tree s vars n row) ≤ 1 + aggregate_levels row
  aggregate_shallow s vars n end_of-AggTerm = same 1
  aggregate_shallow s vars n (more_of-AggTerm op arg bys by qual rest) =
      let inner = aggregate_vars (record { op = op; arg = arg; by = items-the_row-Term _ by; qual = qual }) in
      gathered _ _ _ _ _ _ _ (term_shallow s inner 0 arg) (row_shallow s inner by) (row_shallow s vars by) (qual_shallow s inner 0 qual)

  row_shallow : (s : Scope) (vars : Vars) → {m : _} → (row : Row_of-Term m) → deep.greatest_term_levels (term_row (row_trees s vars row)) ≤ greatest_term_levels row
  row_shallow s vars end_of-Term = same 0
  row_shallow s vars (more_of-Term t rest) = greater _ _ _ _ (term_shallow s vars 0 t) (row_shallow s vars rest)

  pub qual_shallow : (s : Scope) (vars : Vars) (n : ℕ) (q : Qual) → deep.qual_levels (qual_tree s vars n q) ≤ qual_levels q
  qual_shallow s vars n True = same 1
  qual_shallow s vars n (Cmp op t u) =
      at_most _ _ _ (compared_shallow op (term_tree s vars n t) (term_tree s vars (n + length (aggregates_in t)) u))
      (two_above _ _ _ _ (term_shallow s vars n t) (term_shallow s vars (n + length (aggregates_in t)) u))
  qual_shallow s vars n (both p q) = two_above _ _ _ _ (qual_shallow s vars n p) (qual_shallow s vars (n + length (aggregates_in_qual p)) q)
  qual_shallow s vars n (either p q) = two_above _ _ _ _ (qual_shallow s vars n p) (qual_shallow s vars (n + length (aggregates_in_qual p)) q)
  qual_shallow s vars n (negated p) = one_above _ _ (qual_shallow s vars n p)
