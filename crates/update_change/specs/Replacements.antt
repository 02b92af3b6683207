-- The replacements among pairs, and where an old row stands twice among them.
use Rattle.std.specs.Prelude.{◌≡◌, ℕ, ◌+◌, ◌<◌, Bool, true, false, ◌&&◌, List, filter_map, length, slice_index_or, Option, Some, None}
use Rattle.std.specs.List.{list_any}
use Rattle.std.specs.Ordering.{eq_by_cmp, ordering_then}
use Rattle.std.specs.declared.cmp.Ordering.{Ordering}
use Rattle.calculus.specs.declared.change.Pair.{Pair}
use Rattle.calculus.specs.Rows.{Row}
use Rattle.calculus.specs.Value.{row_cmp}

-- an old row and a new one
abbrev pub Both : Type 0
Both = Row × Row

-- the old row and the new one of a pair that has both
abbrev pub replacement : Pair → Option Both
replacement p = elim p.old [
  | None ↦ None
  | Some old ↦ elim p.new [ None ↦ None | Some new ↦ Some (old, new) ]
]

-- the old row and the new one of each pair that has both
abbrev pub replacements : List Pair → List Both
replacements ps = filter_map replacement ps

-- the old row of a pair that has no new one
abbrev pub old_alone : Pair → Option Row
old_alone p = elim p.new [ None ↦ p.old | Some new ↦ None ]

-- the new row of a pair that has no old one
abbrev pub new_alone : Pair → Option Row
new_alone p = elim p.old [ None ↦ p.new | Some old ↦ None ]

-- by the old rows, then by the new ones
abbrev pub both_cmp : Both → Both → Ordering
both_cmp a b = ordering_then (row_cmp a.0 b.0) (row_cmp a.1 b.1)

-- old rows are the same, and new rows are
abbrev pub is_both : Both → Both → Bool
is_both a b = eq_by_cmp row_cmp a.0 b.0 && eq_by_cmp row_cmp a.1 b.1

-- there are these replacements among the pairs, and no others
abbrev pub AreReplacements : List Pair → List Both → Type 0
AreReplacements ps all = (b : Both) → list_any (is_both b) all ≡ list_any (is_both b) (replacements ps)

-- at this place and the next the old rows are the same, or are not
abbrev pub Shares : List Both → ℕ → Bool → Type 0
Shares all place answer =
    (none : Both) → eq_by_cmp row_cmp (slice_index_or all place none).0 (slice_index_or all (place + 1) none).0 ≡ answer

-- no old row is also that of the next place
abbrev pub SharesNone : List Both → Type 0
SharesNone all = (place : ℕ) → place + 1 < length all → Shares all place false

-- the first place whose old row is also that of the next one
abbrev pub IsFirstShared : List Both → ℕ → Type 0
IsFirstShared all place = (place + 1 < length all) × Shares all place true × ((before : ℕ) → before < place → Shares all before false)
