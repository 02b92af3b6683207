-- How deep trees are: the greatest number of terms, qualifications, aggregates and queries that stand inside one another.
use Rattle.std.specs.Prelude.{ℕ, ◌+◌, max}
use Rattle.calculus.specs.declared.query.AggSource.{AggSource, Named}
use Rattle.calculus.specs.declared.query.QTerm.{QTerm, Int, Chars, Attr, Agg', Row_of-QTerm, end_of-QTerm, more_of-QTerm, Row_of-QAgg, end_of-QAgg, more_of-QAgg}
use Rattle.calculus.specs.declared.query.QQual.{QQual, True, Cmp, Like}
use Rattle.calculus.specs.declared.query.Query.{Query, Query', Row_of-Target, end_of-Target, more_of-Target}
use Rattle.calculus.specs.Tree.{neg, abs, operation, concat, both, either, negated, rows_of_query}

abbrev mutual
  -- of a term
  pub term_levels : QTerm → ℕ
  term_levels (Int n) = 1
  term_levels (Chars bytes) = 1
  term_levels (Attr var attr) = 1
  term_levels (neg t) = 1 + term_levels t
  term_levels (abs t) = 1 + term_levels t
  term_levels (operation op t u) = 1 + max (term_levels t) (term_levels u)
  term_levels (concat t u) = 1 + max (term_levels t) (term_levels u)
  term_levels (Agg' mark row) = 1 + aggregate_levels row

  -- of the aggregate that a term is
  pub aggregate_levels : {n : _} → Row_of-QAgg n → ℕ
  aggregate_levels end_of-QAgg = 0
  aggregate_levels (more_of-QAgg slot op source arg bys by links link qual rest) =
      1 + max (source_levels source) (max (term_levels arg) (max (greatest_term_levels by) (max (greatest_term_levels link) (qual_levels qual))))

  -- of an aggregate's source
  pub source_levels : AggSource → ℕ
  source_levels (Named key) = 0
  source_levels (rows_of_query q) = query_levels q

  -- the greatest of several terms'
  pub greatest_term_levels : {n : _} → Row_of-QTerm n → ℕ
  greatest_term_levels end_of-QTerm = 0
  greatest_term_levels (more_of-QTerm t rest) = max (term_levels t) (greatest_term_levels rest)

  -- of a qualification
  pub qual_levels : QQual → ℕ
  qual_levels True = 1
  qual_levels (Cmp op t u) = 1 + max (term_levels t) (term_levels u)
  qual_levels (Like t pattern same) = 1 + term_levels t
  qual_levels (both p q) = 1 + max (qual_levels p) (qual_levels q)
  qual_levels (either p q) = 1 + max (qual_levels p) (qual_levels q)
  qual_levels (negated p) = 1 + qual_levels p

  -- the greatest of several targets'
  pub greatest_target_levels : {n : _} → Row_of-Target n → ℕ
  greatest_target_levels end_of-Target = 0
  greatest_target_levels (more_of-Target name kind term rest) = max (term_levels term) (greatest_target_levels rest)

  -- of a query
  pub query_levels : Query → ℕ
  query_levels (Query' vars marks targets qual) = 1 + max (greatest_target_levels targets) (qual_levels qual)
