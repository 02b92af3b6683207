-- What is read: the base relations and catalogues whose rows decide what a view, a query or an update has.
use Rattle.std.specs.Prelude.{List, [], ◌∷◌, ◌++◌, flat_map, Option, Some, None}
use Rattle.calculus.specs.declared.query.RelKey.{RelKey}
use Rattle.calculus.specs.declared.query.AggSource.{AggSource, Named}
use Rattle.calculus.specs.declared.query.Query.{Query}
use Rattle.calculus.specs.declared.request.Update.{Update}
use Rattle.calculus.specs.Tree.{rows_of_query}
use Rattle.calculus.specs.Limits.{greatest_level}
use Rattle.calculus.specs.Database.{Db, View}
use Rattle.calculus.specs.Stored.{Range, Kept, Viewed}
use Rattle.calculus.specs.Through.{through}
use Rattle.calculus.specs.QueryParts.{query_aggregates}
use Rattle.calculus.specs.Used.{used_vars}

-- what is read of what a variable ranges over, where `of_view` is what is read of a view
abbrev pub range_reads : (View → List RelKey) → RelKey → Option Range → List RelKey
range_reads of_view key None = []
range_reads of_view key (Some (Kept relation)) = key ∷ []
range_reads of_view key (Some (Viewed view)) = of_view view

-- what the used variables of a query read, where `below` is what each key reads
abbrev pub vars_read : (RelKey → List RelKey) → Query → List RelKey
vars_read below q = flat_map (λ p. below p.1) (used_vars q)

-- the base relations and catalogues that a key reads: itself, or what the query of the view reads
unfoldable pub reads_of : Db → RelKey → List RelKey
reads_of db key = through range_reads (λ below view. vars_read below view.query) [] greatest_level db key

-- what the source of an aggregate reads
abbrev pub source_reads : Db → AggSource → List RelKey
source_reads db (Named key) = reads_of db key
source_reads db (rows_of_query q) = vars_read (reads_of db) q

-- the base relations and catalogues that a query reads: those of its used variables and of its aggregates
unfoldable pub query_reads : Db → Query → List RelKey
query_reads db q = vars_read (reads_of db) q ++ flat_map (λ g. source_reads db g.source) (query_aggregates q)

-- what an update reads: what its query reads, and the relation that it changes
unfoldable pub update_reads : Db → Update → List RelKey
update_reads db u = u.rel ∷ query_reads db u.query
