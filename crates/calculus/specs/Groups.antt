-- The groups of an aggregate.
use Rattle.std.specs.Prelude.{List, map, Option}
use Rattle.calculus.specs.declared.value.Value.{Value}
use Rattle.calculus.specs.Rows.{Row, Ascends}

-- the values that the rows of a group have in common, and what the aggregate gives there; none where it has no value
abbrev pub Group : Type 0
Group = Row × Option Value

-- the values in common ascend strictly from group to group
abbrev pub GroupsAscend : List Group → Type 0
GroupsAscend groups = Ascends (map (λ g. g.0) groups)
