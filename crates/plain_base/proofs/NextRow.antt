-- The first row that meets a probe, from a position on.
use Rattle.std.proofs.Common.{◌≡◌, ap, ◌∙◌, ℕ, suc, ◌+◌, ◌<◌, ◌≤◌, Bool, true, false, List, ◌∷◌, length, drop, slice_index_or, Option, Some, None, drop-cons, arith}
use Rattle.std.proofs.lemmas.List.{drop_all}
use Rattle.calculus.specs.declared.probe.Probe.{Probe}
use Rattle.calculus.specs.Rows.{Row}
use Rattle.base_trait.specs.Scans.{meets, next_meeting}

abbrev chosen : Bool → Probe → Row → List Row → Option (Row × List Row)
chosen b probe row rows = elim b [ true ↦ Some (row, rows) | false ↦ next_meeting probe rows ]

first_of : (probe : Probe) (row : Row) (rows : List Row) (b : Bool) → meets probe row ≡ b → next_meeting probe (row ∷ rows) ≡ chosen b probe row rows
unfolding next_meeting
first_of probe row rows b e = ap (λ b. chosen b probe row rows) e

split_at : (rows : List Row) (i : ℕ) (d : Row) → i < length rows → drop i rows ≡ slice_index_or rows i d ∷ drop (i + 1) rows
split_at rows i d h = let e : suc i ≡ i + 1 = omega arith in drop-cons rows i d h ∙ ap (λ k. slice_index_or rows i d ∷ drop k rows) e

pub met_at : (probe : Probe) (rows : List Row) (i : ℕ) (d : Row) → i < length rows → meets probe (slice_index_or rows i d) ≡ true
    → next_meeting probe (drop i rows) ≡ Some (slice_index_or rows i d, drop (i + 1) rows)
met_at probe rows i d h e = ap (next_meeting probe) (split_at rows i d h) ∙ first_of probe (slice_index_or rows i d) (drop (i + 1) rows) true e

pub not_met_at : (probe : Probe) (rows : List Row) (i : ℕ) (d : Row) → i < length rows → meets probe (slice_index_or rows i d) ≡ false
    → next_meeting probe (drop i rows) ≡ next_meeting probe (drop (i + 1) rows)
not_met_at probe rows i d h e = ap (next_meeting probe) (split_at rows i d h) ∙ first_of probe (slice_index_or rows i d) (drop (i + 1) rows) false e

-- behind the last row there is none
pub none_at : (probe : Probe) (rows : List Row) (i : ℕ) → length rows ≤ i → next_meeting probe (drop i rows) ≡ None
unfolding next_meeting
none_at probe rows i h = ap (next_meeting probe) (drop_all i rows h)
