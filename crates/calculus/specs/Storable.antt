-- What is stored as a tree: no deeper and no larger than it may be, its constants and numbers those of their types.
use Rattle.std.specs.Prelude.{Bool, ◌&&◌, nat_le, [], length}
use Rattle.calculus.specs.declared.query.QQual.{QQual}
use Rattle.calculus.specs.declared.query.Query.{Query}
use Rattle.calculus.specs.declared.schema.Permit.{Permit}
use Rattle.calculus.specs.Limits.{greatest_qual_size, most_levels, most_listed_attributes}
use Rattle.calculus.specs.Rights.{are_rights}
use Rattle.calculus.specs.Sizes.{qual_size}
use Rattle.calculus.specs.TreeLevels.{query_levels, qual_levels}
use Rattle.calculus.specs.Spelled.{qual_is_spelled, query_is_spelled}

-- the query of a view
abbrev pub query_is_storable : Query → Bool
query_is_storable q = nat_le (query_levels q) most_levels && query_is_spelled q

-- a qualification over one row is no larger and no deeper than one that is stored may be
abbrev pub row_qual_is_small : QQual → Bool
row_qual_is_small q = nat_le (qual_size [] q) greatest_qual_size && nat_le (qual_levels q) most_levels

-- the qualification of a rule or a permit
abbrev pub row_qual_is_storable : QQual → Bool
row_qual_is_storable q = row_qual_is_small q && qual_is_spelled q

-- what a permit lists: rights, and no more attributes than it may
abbrev pub permit_lists_are_storable : Permit → Bool
permit_lists_are_storable permit = nat_le (length permit.attrs) most_listed_attributes && are_rights permit.ops
