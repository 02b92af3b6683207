-- The constants in a tree, and the names of its targets: whether each is one of its type, in aggregates too.
use Rattle.std.specs.Prelude.{Bool, true, ◌&&◌}
use Rattle.calculus.specs.declared.query.AggSource.{AggSource, Named}
use Rattle.calculus.specs.declared.query.QTerm.{QTerm, Int, Chars, Attr, Agg', Row_of-QTerm, end_of-QTerm, more_of-QTerm, Row_of-QAgg, end_of-QAgg, more_of-QAgg}
use Rattle.calculus.specs.declared.query.QQual.{QQual, True, Cmp, Like}
use Rattle.calculus.specs.declared.query.Query.{Query, Query', Row_of-Target, end_of-Target, more_of-Target}
use Rattle.calculus.specs.Chars.{is_chars}
use Rattle.calculus.specs.Name.{is_name}
use Rattle.calculus.specs.Number.{has_64_bits}
use Rattle.calculus.specs.Tree.{neg, abs, operation, concat, both, either, negated, rows_of_query}

abbrev mutual
  -- in a term each number has 64 bits, and each text constant is one
  pub term_is_spelled : QTerm → Bool
  term_is_spelled (Int n) = has_64_bits n
  term_is_spelled (Chars bytes) = is_chars bytes
  term_is_spelled (Attr var attr) = true
  term_is_spelled (neg t) = term_is_spelled t
  term_is_spelled (abs t) = term_is_spelled t
  term_is_spelled (operation op t u) = term_is_spelled t && term_is_spelled u
  term_is_spelled (concat t u) = term_is_spelled t && term_is_spelled u
  term_is_spelled (Agg' mark row) = aggregate_is_spelled row

  -- so it is in the aggregate that a term is
  pub aggregate_is_spelled : {n : _} → Row_of-QAgg n → Bool
  aggregate_is_spelled end_of-QAgg = true
  aggregate_is_spelled (more_of-QAgg slot op source arg bys by links link qual rest) =
      source_is_spelled source && (term_is_spelled arg && (terms_are_spelled by && (terms_are_spelled link && qual_is_spelled qual)))

  -- in an aggregate's source
  pub source_is_spelled : AggSource → Bool
  source_is_spelled (Named key) = true
  source_is_spelled (rows_of_query q) = query_is_spelled q

  -- in several terms
  pub terms_are_spelled : {n : _} → Row_of-QTerm n → Bool
  terms_are_spelled end_of-QTerm = true
  terms_are_spelled (more_of-QTerm t rest) = term_is_spelled t && terms_are_spelled rest

  -- in a qualification, its patterns too
  pub qual_is_spelled : QQual → Bool
  qual_is_spelled True = true
  qual_is_spelled (Cmp op t u) = term_is_spelled t && term_is_spelled u
  qual_is_spelled (Like t pattern same) = term_is_spelled t && is_chars pattern
  qual_is_spelled (both p q) = qual_is_spelled p && qual_is_spelled q
  qual_is_spelled (either p q) = qual_is_spelled p && qual_is_spelled q
  qual_is_spelled (negated p) = qual_is_spelled p

  -- in several targets, whose names are names
  pub targets_are_spelled : {n : _} → Row_of-Target n → Bool
  targets_are_spelled end_of-Target = true
  targets_are_spelled (more_of-Target name kind term rest) = is_name name && (term_is_spelled term && targets_are_spelled rest)

  -- in a query
  pub query_is_spelled : Query → Bool
  query_is_spelled (Query' vars marks targets qual) = targets_are_spelled targets && qual_is_spelled qual
