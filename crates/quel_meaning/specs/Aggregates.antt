-- Which aggregates may stand in a statement.
use Rattle.std.specs.Prelude.{ℕ, Bool, true, false, ◌&&◌, not, nat_le, List, [], ◌∷◌, ◌++◌, flat_map}
use Rattle.std.specs.List.{list_all}
use Rattle.calculus.specs.declared.statement.AggTerm.{AggTerm}
use Rattle.calculus.specs.declared.statement.Statement.{Statement}
use Rattle.calculus.specs.declared.statement.Statement.TheVariants as statement
use Rattle.calculus.specs.Lists.{is_any}
use Rattle.calculus.specs.Sizes.{measure_of}
use Rattle.quel_meaning.specs.Scope.{Scope, ranged, key_found}
use Rattle.quel_meaning.specs.WrittenParts.{aggregates_in, aggregates_in_qual, text_aggregates, aggregate_vars}

-- an aggregate holds another one
abbrev pub holds_another : AggTerm → Bool
holds_another g = is_any (aggregates_in g.arg ++ (flat_map aggregates_in g.by ++ aggregates_in_qual g.qual))

-- the variable is the only one, and what it ranges over has at most one variable once the views in it are expanded
abbrev pub is_one_plain : Scope → List (List ℕ) → Bool
is_one_plain s [] = false
is_one_plain s (var ∷ []) = nat_le (measure_of s.db (key_found (ranged s var))).variables 1
is_one_plain s (var ∷ other ∷ more) = false

-- an aggregate is allowed where it holds no other and is over exactly one variable, which is over no view of several
unfoldable pub aggregate_allowed : Scope → AggTerm → Bool
aggregate_allowed s g = not (holds_another g) && is_one_plain s (aggregate_vars g)

-- what a statement keeps for later: a view, a permit or a rule
abbrev pub keeps_a_text : Statement → Bool
keeps_a_text (statement.View name items qual) = true
keeps_a_text (statement.Permit ops var attrs user qual) = true
keeps_a_text (statement.Rule var qual) = true
keeps_a_text _ = false

-- the aggregates of a statement may stand; in a view, a permit or a rule there may be none
unfoldable pub aggregates_allowed : Scope → Statement → Bool
aggregates_allowed s stmt = elim (keeps_a_text stmt) [ true ↦ not (is_any (text_aggregates stmt)) | false ↦ list_all (aggregate_allowed s) (text_aggregates stmt) ]
