-- Rows that are folded, put together where they have the same by-values and stand side by side.
use Rattle.std.specs.Prelude.{◌≡◌, ℕ, suc, true, false, List, [], ◌∷◌, map, Option, Some, None, ⊤}
use Rattle.std.specs.List.{AllByRecursion}
use Rattle.std.specs.Ordering.{is_eq, is_lt}
use Rattle.calculus.specs.declared.operator.AggOp.{AggOp}
use Rattle.calculus.specs.declared.value.Value.{Value}
use Rattle.calculus.specs.Aggregate.{fold_values}
use Rattle.calculus.specs.Rows.{Row}
use Rattle.calculus.specs.Targets.{all_there}
use Rattle.calculus.specs.Value.{row_cmp}
use Rattle.aggregates.specs.Members.{Member}

-- the by-values that some rows have in common, and their arguments
abbrev pub Run : Type 0
Run = List Value × List (Option Value)

-- a row in front of runs: it joins the first one, where that has its by-values
abbrev pub in_front : Member → List Run → List Run
in_front m [] = (m.0, m.1 ∷ []) ∷ []
in_front m (g ∷ gs) = elim (is_eq (row_cmp m.0 g.0)) [ true ↦ (g.0, m.1 ∷ g.1) ∷ gs | false ↦ (m.0, m.1 ∷ []) ∷ g ∷ gs ]

-- the runs of rows with the same by-values
abbrev pub runs : List Member → List Run
runs [] = []
runs (m ∷ ms) = in_front m (runs ms)

-- what is made of arguments, where all of them are there
abbrev pub folded_where : AggOp → Value → Option (List Value) → Option Value
folded_where op none None = None
folded_where op none (Some vs) = fold_values op none vs

-- what is made of arguments; none where one has no value
abbrev pub folded : AggOp → Value → List (Option Value) → Option Value
folded op none args = folded_where op none (all_there args)

-- the group of a run: its by-values, and what is made of its arguments
abbrev pub group_of : AggOp → Value → Run → List Value × Option Value
group_of op none run = (run.0, folded op none run.1)

-- the groups of rows, where those with the same by-values stand side by side
unfoldable pub groups_of : AggOp → Value → List Member → List (List Value × Option Value)
groups_of op none ms = map (group_of op none) (runs ms)

-- how many of the first rows have these by-values
abbrev pub leading : Row → List Member → ℕ
leading by [] = 0
leading by (m ∷ ms) = elim (is_eq (row_cmp m.0 by)) [ true ↦ suc (leading by ms) | false ↦ 0 ]

-- no row has smaller by-values than one in front of it
abbrev pub Rises : List Member → Type 0
Rises [] = ⊤
Rises (m ∷ ms) = AllByRecursion (λ other. is_lt (row_cmp other.0 m.0) ≡ false) ms × Rises ms
