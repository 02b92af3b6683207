-- What passes a limit: variables, sizes, widths, numbers and names.
use Rattle.std.specs.Prelude.{ℕ, ◌+◌, Bool, true, ◌||◌, nat_le, nat_lt, List, length, sum_by, Option, Some, None}
use Rattle.calculus.specs.declared.value.Kind.{Kind}
use Rattle.calculus.specs.declared.query.Query.{Query}
use Rattle.calculus.specs.Limits.{most_attributes, most_row_bytes, most_variables, most_expanded_variables, greatest_size, most_levels, greatest_level, most_entries}
use Rattle.calculus.specs.Keys.{key_of}
use Rattle.calculus.specs.Database.{Db, entries, is_there}
use Rattle.calculus.specs.Catalogue.{is_catalogue_name}
use Rattle.calculus.specs.IsDatabase.{kind_bytes}
use Rattle.calculus.specs.Sizes.{measure_of, source_variables, query_size, query_level}
use Rattle.calculus.specs.QueryParts.{vars_of, query_aggregates}
use Rattle.calculus.specs.TreeLevels.{query_levels}

-- how many variables a query lists, each of its aggregates having one
abbrev pub listed_variables : Query → ℕ
listed_variables q = length (vars_of q) + length (query_aggregates q)

-- how many they are once the views in them are expanded
abbrev pub listed_expanded_variables : Db → Query → ℕ
listed_expanded_variables db q =
    sum_by (λ key. (measure_of db key).variables) (vars_of q) + sum_by (λ g. source_variables (measure_of db) g.source) (query_aggregates q)

-- a query whose variables are all used has more of them than it may have, as it stands or once the views in it are expanded
unfoldable pub has_too_many : Db → Query → Bool
has_too_many db q = nat_lt most_variables (listed_variables q) || nat_lt most_expanded_variables (listed_expanded_variables db q)

-- there is no room for a further relation, view or index
unfoldable pub is_full : Db → Bool
is_full db = nat_le most_entries (length (entries db))

-- there is no level, or it is above the greatest
abbrev pub is_too_high : Option ℕ → Bool
is_too_high None = true
is_too_high (Some level) = nat_lt greatest_level level

-- a view of this query would be too large, would stand on too many levels of views, or its tree would be too deep
unfoldable pub is_too_large : Db → Query → Bool
is_too_large db q = nat_lt greatest_size (query_size db q) || (is_too_high (query_level db q) || nat_lt most_levels (query_levels q))

-- a row of these kinds has too many attributes or too many bytes
unfoldable pub is_too_wide : List Kind → Bool
is_too_wide kinds = nat_lt most_attributes (length kinds) || nat_lt most_row_bytes (sum_by kind_bytes kinds)

-- the user has a relation, view or index of this name, or it is a catalogue's
unfoldable pub is_taken : Db → List ℕ → List ℕ → Bool
is_taken db user name = is_there db (key_of user name) || is_catalogue_name name
