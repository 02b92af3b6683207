-- Rows that break no rule.
use Rattle.std.specs.Prelude.{Bool, true, false, List, [], ◌∷◌, Option, Some, None}
use Rattle.std.specs.List.{list_all}
use Rattle.calculus.specs.declared.schema.Rule.{Rule}
use Rattle.calculus.specs.Rows.{Row}
use Rattle.calculus.specs.Term.{holds, no_aggs}

-- none of the rules is broken by the row
abbrev pub keeps_all : List Rule → Row → Bool
keeps_all rules row = list_all (λ r. holds no_aggs r.qual (row ∷ [])) rules

-- the row alone where it is there and this is so, else nothing
abbrev pub some_if : Bool → Option Row → List Row
some_if is_so None = []
some_if true (Some row) = row ∷ []
some_if false (Some row) = []
