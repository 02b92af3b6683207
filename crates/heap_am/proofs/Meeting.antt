-- A scan of a heap, line by line.
use Rattle.std.proofs.Common.{◌≡◌, refl, sym, ap, ◌∙◌, ℕ, zero, suc, ◌+◌, ◌<◌, ◌≤◌, Bool, true, false, List, [], ◌∷◌, ◌++◌, length, Option, Some, None, option_map, arith, length-append}
use Rattle.calculus.specs.declared.probe.Place.{Place}
use Rattle.calculus.specs.declared.probe.Probe.{Probe}
use Rattle.calculus.specs.Rows.{Row}
use Rattle.disk_model.specs.Disk.{Image}
use Rattle.base_trait.specs.Scans.{meets, next_meeting}
use Rattle.am_traits.specs.Placed.{Placed, rows_of, row_with, rows_from}
use Rattle.calculus.specs.declared.schema.RelFile.{RelFile}
use Rattle.page_cells.specs.Page.{slots, slots_before, lines, row_at}
use Rattle.page_chain.specs.Lying.{place_of}
use Rattle.page_chain.specs.Pages.{page_at}
use Rattle.heap_am.specs.Heap.{heap_rows}
use Rattle.heap_am.proofs.Heaps.{at_next, next_page_from, none_left}
use Rattle.heap_am.proofs.Places.{at_place, as_list, from_place}

-- one row, or none
abbrev pub row_list : Option Row → List Row
row_list None = []
row_list (Some row) = row ∷ []

-- the rows from a line on are the one in it, and those from the next line on
pub from_line : (file : RelFile) (m : Image) (rows : Placed) (k l : ℕ) → 0 < file.used → heap_rows file m ≡ Some rows → rows_from rows (place_of k l) ≡ row_list (row_with rows (place_of k l)) ++ rows_from rows (place_of k (l + 1))
from_line file m rows k l some e = ap rows_of (at_next file m rows (place_of k l) some e) ∙ split (at_place (place_of k l) rows) (from_place (place_of k (l + 1)) rows)
  where
    split : (o : Option (Place × Row)) (rest : Placed) → rows_of (as_list o ++ rest) ≡ row_list (option_map (λ (r : Place × Row). r.1) o) ++ rows_of rest
    split None rest = refl
    split (Some r) rest = refl

first_row : (probe : Probe) (row : Row) (rows : List Row) (b : Bool) → meets probe row ≡ b → next_meeting probe (row ∷ rows) ≡ elim b [ true ↦ Some (row, rows) | false ↦ next_meeting probe rows ]
unfolding next_meeting
first_row probe row rows b e = ap (λ b. elim b [ true ↦ Some (row, rows) | false ↦ next_meeting probe rows ]) e

pub line_met : (file : RelFile) (m : Image) (rows : Placed) (probe : Probe) (k l : ℕ) (row : Row) → 0 < file.used → heap_rows file m ≡ Some rows → Some row ≡ row_with rows (place_of k l) → meets probe row ≡ true
    → next_meeting probe (rows_from rows (place_of k l)) ≡ Some (row, rows_from rows (place_of k (l + 1)))
line_met file m rows probe k l row some e is meet =
    ap (next_meeting probe) (from_line file m rows k l some e ∙ ap (λ o. row_list o ++ rows_from rows (place_of k (l + 1))) (sym is)) ∙ first_row probe row (rows_from rows (place_of k (l + 1))) true meet

pub line_unmet : (file : RelFile) (m : Image) (rows : Placed) (probe : Probe) (k l : ℕ) (row : Row) → 0 < file.used → heap_rows file m ≡ Some rows → Some row ≡ row_with rows (place_of k l) → meets probe row ≡ false
    → next_meeting probe (rows_from rows (place_of k l)) ≡ next_meeting probe (rows_from rows (place_of k (l + 1)))
line_unmet file m rows probe k l row some e is meet =
    ap (next_meeting probe) (from_line file m rows k l some e ∙ ap (λ o. row_list o ++ rows_from rows (place_of k (l + 1))) (sym is)) ∙ first_row probe row (rows_from rows (place_of k (l + 1))) false meet

pub line_empty : (file : RelFile) (m : Image) (rows : Placed) (probe : Probe) (k l : ℕ) → 0 < file.used → heap_rows file m ≡ Some rows → None ≡ row_with rows (place_of k l)
    → next_meeting probe (rows_from rows (place_of k l)) ≡ next_meeting probe (rows_from rows (place_of k (l + 1)))
line_empty file m rows probe k l some e is =
    ap (next_meeting probe) (from_line file m rows k l some e ∙ ap (λ o. row_list o ++ rows_from rows (place_of k (l + 1))) (sym is))

-- a page has as many slots as lines
count_slots : (p : List ℕ) (n : ℕ) → length (slots_before p n) ≡ n
count_slots p zero = refl
count_slots p (suc n) = let h = count_slots p n in omega (arith, length-append (slots_before p n) (row_at p n ∷ []))

pub slots_count : (p : List ℕ) → length (slots p) ≡ lines p
unfolding slots
slots_count p = count_slots p (lines p)

-- behind the last line of a page its scan is over
pub page_over : (file : RelFile) (m : Image) (rows : Placed) (probe : Probe) (k l : ℕ) (p : List ℕ) → k < file.used → heap_rows file m ≡ Some rows → m (page_at file.file k) ≡ Some p → lines p ≤ l
    → next_meeting probe (rows_from rows (place_of k l)) ≡ next_meeting probe (rows_from rows (place_of (k + 1) 0))
page_over file m rows probe k l p lt e is le =
    ap (λ r. next_meeting probe (rows_of r)) (next_page_from file m rows k l p lt e is (let c = slots_count p in omega arith))
    ∙ ap (λ j. next_meeting probe (rows_from rows (place_of j 0))) (let a : suc k ≡ k + 1 = omega arith in a)

-- behind the last page the scan is over
pub heap_over : (file : RelFile) (m : Image) (rows : Placed) (probe : Probe) (at : Place) → 0 < file.used → heap_rows file m ≡ Some rows → file.used ≤ at.page → next_meeting probe (rows_from rows at) ≡ None
unfolding next_meeting
heap_over file m rows probe at some e le = ap (next_meeting probe) (none_left file m rows at some e le)
