-- Queries in whose aggregates no other stands, and updates that change no view.
use Rattle.std.specs.Prelude.{◌≡◌, ℕ, Bool, true, not, ◌&&◌, slice_get, Some}
use Rattle.std.specs.List.{list_all}
use Rattle.calculus.specs.declared.query.AggSource.{AggSource, Named}
use Rattle.calculus.specs.declared.query.QAgg.{QAgg}
use Rattle.calculus.specs.declared.query.Query.{Query}
use Rattle.calculus.specs.Tree.{rows_of_query}
use Rattle.calculus.specs.Lists.{is_any}
use Rattle.calculus.specs.declared.query.RelKey.{RelKey}
use Rattle.calculus.specs.declared.request.Update.{Update}
use Rattle.calculus.specs.Assignments.{is_changed}
use Rattle.calculus.specs.Database.{Db}
use Rattle.calculus.specs.QueryParts.{vars_of, term_aggregates, query_aggregates}
use Rattle.calculus.specs.Stored.{range_at}
use Rattle.calculus_laws.specs.Expansion.{is_no_view}

-- no aggregate stands in the query that an aggregate is over
abbrev pub source_is_plain : AggSource → Bool
source_is_plain (Named key) = true
source_is_plain (rows_of_query q) = not (is_any (query_aggregates q))

-- nor in the terms that it is linked by
abbrev pub nests_none : QAgg → Bool
nests_none g = source_is_plain g.source && list_all (λ t. not (is_any (term_aggregates t))) g.link

-- so it is with all aggregates of a query
abbrev pub aggregates_nest_none : Query → Bool
aggregates_nest_none q = list_all nests_none (query_aggregates q)

-- the variable whose rows an update replaces or deletes, if there is one, ranges over no view
abbrev pub IsOverNoView : Db → Update → Type 0
IsOverNoView db u = (v : ℕ) (key : RelKey) → slice_get (vars_of u.query) v ≡ Some key → is_changed u v ≡ true → is_no_view (range_at db key) ≡ true
