-- Rows that pairs replace, delete or put.
use Rattle.std.specs.Prelude.{◌≡◌, List, Some}
use Rattle.std.specs.List.{Contains}
use Rattle.calculus.specs.declared.change.Pair.{Pair}
use Rattle.calculus.specs.Rows.{Row}

-- the row is old in none of these pairs
abbrev pub IsOldInNone : List Pair → Row → Type 0
IsOldInNone ps row = (p : Pair) → Contains ps p → ¬ (p.old ≡ Some row)

-- the row is new in one of these pairs
abbrev pub IsNewInSome : List Pair → Row → Type 0
IsNewInSome ps row = (p : Pair) × Contains ps p × (p.new ≡ Some row)
