-- What a scan gives.
use Rattle.std.specs.Prelude.{◌≡◌, ℕ, Bool, true, false, List, [], ◌∷◌, length, slice_get, option_map, unwrap_or, Option, Some, None, Result, Ok, Err}
use Rattle.std.specs.List.{list_all}
use Rattle.std.specs.Ordering.{eq_by_cmp}
use Rattle.calculus.specs.Rows.{Row, set_of}
use Rattle.calculus.specs.Value.{value_cmp}
use Rattle.calculus.specs.declared.value.Value.{Value}
use Rattle.calculus.specs.declared.probe.Place.{Place}
use Rattle.calculus.specs.declared.probe.Probe.{Probe}
use Rattle.base_trait.specs.declared.fault.BaseFault.{BaseFault}

-- where a scan begins
abbrev pub first_place : Place
first_place = record { page = 0; line = 0 }

-- the row has this value at this place
abbrev pub has_value : Row → ℕ × Value → Bool
has_value row e = unwrap_or (option_map (λ v. eq_by_cmp value_cmp v e.1) (slice_get row e.0)) false

-- the row has what the probe looks for
abbrev pub meets : Probe → Row → Bool
meets probe row = list_all (has_value row) probe.equal

-- the first of these rows that meets the probe, and the rows behind it
unfoldable pub next_meeting : Probe → List Row → Option (Row × List Row)
next_meeting probe [] = None
next_meeting probe (row ∷ rows) = elim (meets probe row) [ true ↦ Some (row, rows) | false ↦ next_meeting probe rows ]

-- these rows are those of the set, in some order, each once
pub record IsScan (set rows : List Row) : Type 0 where
  pub all : set_of rows ≡ set
  pub once : length rows ≡ length set

-- a scan that still gives these rows gave the first one that meets the probe, and then still gives the rows behind it; or there is none
abbrev pub Gave : Probe → List Row → List Row → Option Row → Type 0
Gave probe before behind None = next_meeting probe before ≡ None
Gave probe before behind (Some row) = next_meeting probe before ≡ Some (row, behind)

-- what a call of a scan gives, where these rows are left from each place on
abbrev pub Gives : Probe → (Place → List Row) → Place → Place → Result (Option Row) BaseFault → Type 0
Gives probe left before now (Ok answer) = Gave probe (left before) (left now) answer
Gives probe left before now (Err fault) = Unit {0}

-- a scan that answered none stands where none of the rows left meets the probe, so it goes on answering none
abbrev pub StaysOver : Probe → List Row → Option Row → Type 0
StaysOver probe behind None = next_meeting probe behind ≡ None
StaysOver probe behind (Some row) = Unit {0}

-- what a call of a scan says of those that follow, where these rows are left from each place on
abbrev pub IsOver : Probe → (Place → List Row) → Place → Result (Option Row) BaseFault → Type 0
IsOver probe left now (Ok answer) = StaysOver probe (left now) answer
IsOver probe left now (Err fault) = Unit {0}
