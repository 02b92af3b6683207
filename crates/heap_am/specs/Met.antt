-- What a part of a scan gives.
use Rattle.std.specs.Prelude.{◌≡◌, ℕ, ◌+◌, List, Option, Some, None, map, filter}
use Rattle.calculus.specs.Rows.{Row}
use Rattle.calculus.specs.declared.probe.Place.{Place}
use Rattle.calculus.specs.declared.probe.Probe.{Probe}
use Rattle.base_trait.specs.Scans.{next_meeting}
use Rattle.am_traits.specs.Placed.{Placed, is_from, rows_from, row_with}
use Rattle.page_chain.specs.Lying.{place_of}

-- of the rows from a place on, none meets the probe up to this place; or this one is the first that does, and those from this place on are behind it
abbrev pub MetBefore : Placed → Probe → Place → Place → Option Row → Type 0
MetBefore rows probe from now None = next_meeting probe (rows_from rows from) ≡ next_meeting probe (rows_from rows now)
MetBefore rows probe from now (Some row) = next_meeting probe (rows_from rows from) ≡ Some (row, rows_from rows now)

-- the same, where the row stands in this line of a page, and no row stands behind it on the page that isn't left; none up to the next page
abbrev pub MetOn : Placed → Probe → ℕ → ℕ → Option (ℕ × Row) → Type 0
MetOn rows probe page from None = next_meeting probe (rows_from rows (place_of page from)) ≡ next_meeting probe (rows_from rows (place_of (page + 1) 0))
MetOn rows probe page from (Some (line, row)) =
    (next_meeting probe (rows_from rows (place_of page from)) ≡ Some (row, rows_from rows (place_of page (line + 1)))) × (row_with rows (place_of page line) ≡ Some row)

-- the rows from a place on, each with its place
abbrev pub placed_from : Placed → Place → Placed
placed_from rows at = filter (λ p. is_from at p.0) rows

-- rows of a page, each with its line, by their places
abbrev pub on_page : ℕ → List (ℕ × Row) → Placed
on_page page found = map (λ f. (place_of page f.0, f.1)) found
