-- Queries that list no more variables than have places.
use Rattle.std.specs.Prelude.{Bool, true, nat_le, length}
use Rattle.std.specs.List.{list_all}
use Rattle.calculus.specs.declared.query.AggSource.{AggSource, Named}
use Rattle.calculus.specs.declared.query.Query.{Query}
use Rattle.calculus.specs.QueryParts.{vars_of, query_aggregates}
use Rattle.calculus.specs.Tree.{rows_of_query}

-- a query lists at most 256 variables
abbrev pub lists_few : Query → Bool
lists_few q = nat_le (length (vars_of q)) 256

-- so does the query that an aggregate's source is
abbrev pub source_lists_few : AggSource → Bool
source_lists_few (Named key) = true
source_lists_few (rows_of_query q) = lists_few q

-- the sources of all aggregates of a query do
abbrev pub sources_list_few : Query → Bool
sources_list_few q = list_all (λ g. source_lists_few g.source) (query_aggregates q)
