-- Rows that are to go: as a set in which they are looked up, and in the lines of a page.
use Rattle.std.specs.Prelude.{◌≡◌, ℕ, Bool, false, List, Some, None, if◌then◌else◌}
use Rattle.std.specs.Cmp.Lexicographic.{slice_cmp}
use Rattle.std.specs.List.{list_any}
use Rattle.std.specs.Ordering.{is_eq, nat_cmp}
use Rattle.page_cells.specs.Page.{Slot}
use Rattle.page_chain.specs.Lying.{is_among}
use denote.Ref.{Bor}

-- The bytes that these references lead to are the rows that were listed, and no others.
pub record IsSetOf (listed : List (List ℕ)) (keys : List (Bor (List ℕ))) : Type 0 where
  pub same : (row : List ℕ) → list_any (λ k. is_eq (slice_cmp nat_cmp row k.now)) keys ≡ is_among listed row

-- a line has one of these rows
abbrev pub has_going : List (List ℕ) → Slot → Bool
has_going going None = false
has_going going (Some row) = is_among going row

-- what is left in a line where these rows go
abbrev pub unless_going : List (List ℕ) → Slot → Slot
unless_going going slot = if has_going going slot then None else slot
