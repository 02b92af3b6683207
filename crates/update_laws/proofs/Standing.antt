-- The parts of a tree whose constants are those of their types.
use Rattle.std.proofs.Common.{IsTrue}
use Rattle.calculus.specs.declared.query.QAgg.{QAgg}
use Rattle.calculus.specs.declared.query.QTerm.{QTerm, Int, Chars, Attr, Agg', Row_of-QAgg, end_of-QAgg, more_of-QAgg}
use Rattle.calculus.specs.declared.query.Query.{Query, Query', items-the_row-Target, Row_of-Target, end_of-Target, more_of-Target}
use Rattle.calculus.specs.declared.query.Target.{Target}
use Rattle.calculus.specs.Name.{is_name}
use Rattle.calculus.specs.QueryParts.{targets_of, aggregates_of, term_aggregates}
use Rattle.calculus.specs.Spelled.{term_is_spelled, aggregate_is_spelled, source_is_spelled, targets_are_spelled, qual_is_spelled, query_is_spelled}
use Rattle.calculus.specs.Tree.{neg, abs, operation, concat}
use Rattle.quel_meaning.proofs.Each.{Each, both_of}
use Rattle.update_laws.proofs.Texts.{both}

-- the constants of the target's term stand
abbrev pub TargetStands : Target → Type 0
TargetStands t = IsTrue (term_is_spelled t.term)

in_row : {n : _} (row : Row_of-Target n) → IsTrue (targets_are_spelled row) → Each TargetStands (items-the_row-Target _ row)
in_row end_of-Target h = tt
in_row (more_of-Target name kind term rest) h =
    let parts = both (term_is_spelled term) (targets_are_spelled rest) (both (is_name name) _ h).1 in (parts.0, in_row rest parts.1)

-- so it is of each target of a query
pub in_targets : (q : Query) → IsTrue (query_is_spelled q) → Each TargetStands (targets_of q)
in_targets (Query' vars marks targets qual) h = in_row targets (both (targets_are_spelled targets) (qual_is_spelled qual) h).0

-- the constants of the aggregate's source and of the term that it is over stand
abbrev pub AggregateStands : QAgg → Type 0
AggregateStands g = IsTrue (source_is_spelled g.source) × IsTrue (term_is_spelled g.arg)

in_aggregate : {n : _} (row : Row_of-QAgg n) → IsTrue (aggregate_is_spelled row) → Each AggregateStands (aggregates_of row)
in_aggregate end_of-QAgg h = tt
in_aggregate (more_of-QAgg slot op source arg bys by links link qual rest) h =
    let source_stands = both (source_is_spelled source) _ h in
    ((source_stands.0, (both (term_is_spelled arg) _ source_stands.1).0), tt)

-- so it is of each aggregate of a term
pub in_term : (t : QTerm) → IsTrue (term_is_spelled t) → Each AggregateStands (term_aggregates t)
unfolding term_aggregates
in_term (Int n) h = tt
in_term (Chars bytes) h = tt
in_term (Attr var attr) h = tt
in_term (neg t) h = in_term t h
in_term (abs t) h = in_term t h
in_term (operation op t u) h =
    let parts = both (term_is_spelled t) (term_is_spelled u) h in
    both_of AggregateStands (term_aggregates t) (term_aggregates u) (in_term t parts.0) (in_term u parts.1)
in_term (concat t u) h =
    let parts = both (term_is_spelled t) (term_is_spelled u) h in
    both_of AggregateStands (term_aggregates t) (term_aggregates u) (in_term t parts.0) (in_term u parts.1)
in_term (Agg' mark row) h = in_aggregate row h
