-- Which attributes of a variable are used: those that are named outside aggregates, and in the by-lists that link to the variable.
use Rattle.std.specs.Prelude.{ℕ, if◌then◌else◌, ◌==◌, List, [], ◌∷◌, ◌++◌, filter, flat_map}
use Rattle.std.specs.List.{enumerate_from}
use Rattle.calculus.specs.declared.query.RelKey.{RelKey}
use Rattle.calculus.specs.declared.query.QTerm.{QTerm, Int, Chars, Attr, Agg', Row_of-QTerm, end_of-QTerm, more_of-QTerm, Row_of-QAgg, end_of-QAgg, more_of-QAgg}
use Rattle.calculus.specs.declared.query.QQual.{QQual, True, Cmp, Like}
use Rattle.calculus.specs.declared.query.QAgg.{QAgg}
use Rattle.calculus.specs.declared.query.Query.{Query}
use Rattle.calculus.specs.Lists.{is_any}
use Rattle.calculus.specs.Tree.{neg, abs, operation, concat, both, either, negated}
use Rattle.calculus.specs.QueryParts.{vars_of, targets_of, qual_of}

-- the attributes of the variable `v` that a term names: of an aggregate, those that its links name
abbrev mutual
  pub used : ℕ → QTerm → List ℕ
  used v (Int n) = []
  used v (Chars bytes) = []
  used v (Attr var attr) = if var == v then attr ∷ [] else []
  used v (neg t) = used v t
  used v (abs t) = used v t
  used v (operation op t u) = used v t ++ used v u
  used v (concat t u) = used v t ++ used v u
  used v (Agg' mark row) = used_in_links v row

  pub used_in_links : ℕ → {n : _} → Row_of-QAgg n → List ℕ
  used_in_links v end_of-QAgg = []
  used_in_links v (more_of-QAgg slot op source arg bys by links link qual rest) = used_in_row v link

  pub used_in_row : ℕ → {n : _} → Row_of-QTerm n → List ℕ
  used_in_row v end_of-QTerm = []
  used_in_row v (more_of-QTerm t rest) = used v t ++ used_in_row v rest

-- the same for a qualification
abbrev pub used_in_qual : ℕ → QQual → List ℕ
used_in_qual v True = []
used_in_qual v (Cmp op t u) = used v t ++ used v u
used_in_qual v (Like t pattern same) = used v t
used_in_qual v (both p q) = used_in_qual v p ++ used_in_qual v q
used_in_qual v (either p q) = used_in_qual v p ++ used_in_qual v q
used_in_qual v (negated p) = used_in_qual v p

-- the attributes of a query's variable that are used
abbrev pub used_in_query : ℕ → Query → List ℕ
used_in_query v q = flat_map (λ t. used v t.term) (targets_of q) ++ used_in_qual v (qual_of q)

-- all attributes of its variable that an aggregate names: in its argument, its by-list and its qualification
abbrev pub used_in_aggregate : QAgg → List ℕ
used_in_aggregate g = used 0 g.arg ++ (flat_map (used 0) g.by ++ used_in_qual 0 g.qual)

-- the used variables of a query: their places, each with what the variable ranges over
abbrev pub used_vars : Query → List (ℕ × RelKey)
used_vars q = filter (λ p. is_any (used_in_query p.0 q)) (enumerate_from 0 (vars_of q))
