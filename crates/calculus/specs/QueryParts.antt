-- The parts of a query, and the aggregates in it.
use Rattle.std.specs.Prelude.{ℕ, List, [], ◌∷◌, ◌++◌, flat_map, Result, Ok, Err}
use Rattle.calculus.specs.declared.query.RelKey.{RelKey}
use Rattle.calculus.specs.declared.query.QTerm.{QTerm, Int, Chars, Attr, Agg', items-the_row-QTerm, Row_of-QAgg, end_of-QAgg, more_of-QAgg}
use Rattle.calculus.specs.declared.query.QQual.{QQual, True, Cmp, Like}
use Rattle.calculus.specs.declared.query.QAgg.{QAgg}
use Rattle.calculus.specs.declared.query.Target.{Target}
use Rattle.calculus.specs.declared.query.Query.{Query, Query', items-the_row-Target}
use Rattle.calculus.specs.Tree.{neg, abs, operation, concat, both, either, negated}

-- the bytes of a text constant; of any other term, the term
abbrev pub chars_or_term : QTerm → Result (List ℕ) QTerm
chars_or_term (Chars bytes) = Ok bytes
chars_or_term t = Err t

-- what its variables range over, in their order
abbrev pub vars_of : Query → List RelKey
vars_of (Query' vars marks targets qual) = vars

-- its targets, in order
abbrev pub targets_of : Query → List Target
targets_of (Query' vars marks targets qual) = items-the_row-Target _ targets

-- its qualification
abbrev pub qual_of : Query → QQual
qual_of (Query' vars marks targets qual) = qual

-- the aggregate that a term is, as a list of one
abbrev pub aggregates_of : {n : _} → Row_of-QAgg n → List QAgg
aggregates_of end_of-QAgg = []
aggregates_of (more_of-QAgg slot op source arg bys by links link qual rest) =
    record { slot = slot; op = op; source = source; arg = arg; by = items-the_row-QTerm _ by; link = items-the_row-QTerm _ link; qual = qual } ∷ []

-- the aggregates in a term, from left to right
unfoldable pub term_aggregates : QTerm → List QAgg
term_aggregates (Int n) = []
term_aggregates (Chars bytes) = []
term_aggregates (Attr var attr) = []
term_aggregates (neg t) = term_aggregates t
term_aggregates (abs t) = term_aggregates t
term_aggregates (operation op t u) = term_aggregates t ++ term_aggregates u
term_aggregates (concat t u) = term_aggregates t ++ term_aggregates u
term_aggregates (Agg' mark row) = aggregates_of row

-- the aggregates in a qualification, from left to right
unfoldable pub qual_aggregates : QQual → List QAgg
qual_aggregates True = []
qual_aggregates (Cmp op t u) = term_aggregates t ++ term_aggregates u
qual_aggregates (Like t pattern same) = term_aggregates t
qual_aggregates (both p q) = qual_aggregates p ++ qual_aggregates q
qual_aggregates (either p q) = qual_aggregates p ++ qual_aggregates q
qual_aggregates (negated p) = qual_aggregates p

-- the aggregates in a query: those of the targets in their order, then those of the qualification
abbrev pub query_aggregates : Query → List QAgg
query_aggregates q = flat_map (λ t. term_aggregates t.term) (targets_of q) ++ qual_aggregates (qual_of q)
