-- Which queries and aggregates a tree may have: their places are in range, their kinds fit, and what they name is there.
use Rattle.std.specs.Prelude.{ℕ, ◌+◌, Bool, true, false, ◌&&◌, nat_eq, nat_le, nat_lt, List, [], ◌∷◌, length, Option, Some, None, is_some}
use Rattle.std.specs.List.{list_all}
use Rattle.calculus.specs.declared.query.RelKey.{RelKey}
use Rattle.calculus.specs.declared.query.AggSource.{AggSource, Named}
use Rattle.calculus.specs.declared.query.QAgg.{QAgg}
use Rattle.calculus.specs.declared.query.Query.{Query}
use Rattle.calculus.specs.declared.request.Asked.{Asked}
use Rattle.calculus.specs.Limits.{most_attributes, most_expanded_variables}
use Rattle.calculus.specs.Tree.{rows_of_query}
use Rattle.calculus.specs.Database.{Db}
use Rattle.calculus.specs.Stored.{Range, Kept, Viewed, range_at, info_at}
use Rattle.calculus.specs.QueryParts.{vars_of, targets_of, query_aggregates}
use Rattle.calculus.specs.Sizes.{measure_of, expanded_variables}
use Rattle.calculus.specs.IsDatabase.{valid_query}
use Rattle.quel_meaning.specs.KindsInQueries.{query_fits}

-- rows are kept: it is there and no view
abbrev pub keeps_rows : Option Range → Bool
keeps_rows None = false
keeps_rows (Some (Kept relation)) = true
keeps_rows (Some (Viewed view)) = false

-- a base relation or a catalogue is there under the key
abbrev pub is_kept : Db → RelKey → Bool
is_kept db key = keeps_rows (range_at db key)

-- what a variable may range over, and what an aggregate may be over, by itself or through the rows of a query
pub record Allowed : Type 0 where
  pub variable : RelKey → Bool
  pub source : RelKey → Bool

-- base relations and catalogues that are there
abbrev pub kept_alone : Db → Allowed
kept_alone db = record { variable = is_kept db; source = is_kept db }

-- a relation, view or catalogue is there under the key
abbrev pub can_be_ranged_over : Db → RelKey → Bool
can_be_ranged_over db key = is_some (info_at db key)

-- views too, those that an aggregate is over having at most one variable once the views in them are expanded
abbrev pub kept_or_viewed : Db → Allowed
kept_or_viewed db = record { variable = can_be_ranged_over db; source = λ key. can_be_ranged_over db key && nat_le (measure_of db key).variables 1 }

-- a query lists no more variables than one may have that stands for views
abbrev pub lists_few_vars : Query → Bool
lists_few_vars q = nat_le (length (vars_of q)) most_expanded_variables

-- a query has no more targets than a relation may have attributes
abbrev pub has_few_targets : Query → Bool
has_few_targets q = nat_le (length (targets_of q)) most_attributes

-- a source of an aggregate: what is allowed, or the rows of a query over one of what is allowed at most, in which no aggregate stands
unfoldable pub source_fits : Allowed → Db → AggSource → Bool
source_fits may db (Named key) = may.source key
source_fits may db (rows_of_query q) =
    list_all may.source (vars_of q) && (nat_le (length (vars_of q)) 1 && (has_few_targets q && valid_query db q))

-- the sources of a query's aggregates
abbrev pub sources_fit : Allowed → Db → Query → Bool
sources_fit may db q = list_all (λ g. source_fits may db g.source) (query_aggregates q)

-- the slots of these aggregates count up from this number
abbrev pub slots_count_from : ℕ → List QAgg → Bool
slots_count_from n [] = true
slots_count_from n (g ∷ gs) = nat_eq g.slot n && slots_count_from (n + 1) gs

-- the slots of a query's aggregates are 0, 1, .. in the order of its text
abbrev pub slots_count_up : Query → Bool
slots_count_up q = slots_count_from 0 (query_aggregates q)

-- what a query reads is allowed, its aggregates are numbered, and its variables and targets are not too many
unfoldable pub reads_fit : Allowed → Db → Query → Bool
reads_fit may db q = list_all may.variable (vars_of q) && (sources_fit may db q && (slots_count_up q && (lists_few_vars q && has_few_targets q)))

-- the columns to sort by are columns
abbrev pub sort_is_in_range : Asked → Bool
sort_is_in_range a = list_all (λ k. nat_lt k.column (length (targets_of a.query))) a.sort

-- a query that is asked: what it reads, its kinds, its variables and its columns to sort by
unfoldable pub asked_fits : Allowed → Db → Asked → Bool
asked_fits may db a =
    reads_fit may db a.query && (query_fits db a.query && (nat_le (expanded_variables db a.query) most_expanded_variables && sort_is_in_range a))
