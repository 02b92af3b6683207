-- How deep a written statement is: the greatest number of terms, qualifications and aggregates that stand inside one another.
use Rattle.std.specs.Prelude.{ℕ, ◌+◌, max, map}
use Rattle.calculus.specs.declared.statement.Term.{Term, Int, Chars, Attr, Agg', Row_of-Term, end_of-Term, more_of-Term, Row_of-AggTerm, end_of-AggTerm, more_of-AggTerm}
use Rattle.calculus.specs.declared.statement.Qual.{Qual, True, Cmp}
use Rattle.calculus.specs.declared.statement.Item.{Item}
use Rattle.calculus.specs.declared.statement.Item.TheVariants as item
use Rattle.calculus.specs.declared.statement.Statement.{Statement}
use Rattle.calculus.specs.Written.{neg, abs, operation, concat, both, either, negated}
use Rattle.quel_meaning.specs.Planned.{greatest}
use Rattle.quel_meaning.specs.WrittenParts.{items_of, where_of}

abbrev mutual
  -- of a term
  pub term_levels : Term → ℕ
  term_levels (Int n) = 1
  term_levels (Chars bytes) = 1
  term_levels (Attr var attr) = 1
  term_levels (neg t) = 1 + term_levels t
  term_levels (abs t) = 1 + term_levels t
  term_levels (operation op t u) = 1 + max (term_levels t) (term_levels u)
  term_levels (concat t u) = 1 + max (term_levels t) (term_levels u)
  term_levels (Agg' mark row) = 1 + aggregate_levels row

  -- of the aggregate that a term is
  pub aggregate_levels : {n : _} → Row_of-AggTerm n → ℕ
  aggregate_levels end_of-AggTerm = 0
  aggregate_levels (more_of-AggTerm op arg bys by qual rest) = 1 + max (term_levels arg) (max (greatest_term_levels by) (qual_levels qual))

  -- the greatest of several terms'
  pub greatest_term_levels : {n : _} → Row_of-Term n → ℕ
  greatest_term_levels end_of-Term = 0
  greatest_term_levels (more_of-Term t rest) = max (term_levels t) (greatest_term_levels rest)

  -- of a qualification
  pub qual_levels : Qual → ℕ
  qual_levels True = 1
  qual_levels (Cmp op t u) = 1 + max (term_levels t) (term_levels u)
  qual_levels (both p q) = 1 + max (qual_levels p) (qual_levels q)
  qual_levels (either p q) = 1 + max (qual_levels p) (qual_levels q)
  qual_levels (negated p) = 1 + qual_levels p

-- of an item of a target list; an attribute, and all of a variable's, are terms of one level
abbrev pub item_levels : Item → ℕ
item_levels (item.Set name term) = term_levels term
item_levels (item.Attr var attr) = 1
item_levels (item.All var) = 1

-- of a statement: the greatest of its items' and its qualification's, which is True where none is written
unfoldable pub statement_levels : Statement → ℕ
statement_levels s = max (greatest (map item_levels (items_of s))) (qual_levels (where_of s))
