-- The rows of a page, line by line.
use Rattle.std.proofs.Common.{◌≡◌, refl, sym, ap, ap₂, ◌∙◌, ℕ, suc, ◌+◌, ◌<◌, ◌≤◌, List, [], ◌∷◌, ◌++◌, get_or, Option, Some, None, option_map, append_assoc, arith}
use Rattle.calculus.specs.Rows.{Row}
use Rattle.disk_model.specs.Disk.{Image}
use Rattle.am_traits.specs.Placed.{Placed, row_with}
use Rattle.calculus.specs.declared.schema.RelFile.{RelFile}
use Rattle.page_cells.specs.Page.{Slot, slots, lines}
use Rattle.page_chain.specs.Lying.{place_of}
use Rattle.page_chain.specs.Pages.{page_at}
use Rattle.page_chain.specs.Rows.{reader}
use Rattle.heap_am.specs.Heap.{heap_rows}
use Rattle.heap_am.specs.Met.{placed_from, on_page}
use Rattle.heap_am.proofs.Faults.{slot_read, row_at_line}
use Rattle.heap_am.proofs.Heaps.{at_line, at_next, next_page_from, slot_row}
use Rattle.heap_am.proofs.Meeting.{slots_count}
use Rattle.heap_am.proofs.Places.{at_place, as_list}

-- the row in a line, with its place
placed_line : (file : RelFile) (m : Image) (rows : Placed) (k l : ℕ) (p : List ℕ) → k < file.used → heap_rows file m ≡ Some rows → m (page_at file.file k) ≡ Some p
    → at_place (place_of k l) rows ≡ option_map (λ row. (place_of k l, row)) (row_with rows (place_of k l))
placed_line file m rows k l p lt e is =
    at_line file m rows k l p lt e is ∙ of_slot (get_or (slots p) l None) ∙ ap (option_map (λ row. (place_of k l, row))) (sym (row_at_line file m rows k l p lt e is))
  where
    of_slot : (s : Slot) → slot_row (reader file.domains) (place_of k l) s ≡ option_map (λ row. (place_of k l, row)) (slot_read (reader file.domains) s)
    of_slot None = refl
    of_slot (Some bytes) = refl

from_here : (file : RelFile) (m : Image) (rows : Placed) (k l : ℕ) (p : List ℕ) (o : Option Row) → k < file.used → heap_rows file m ≡ Some rows → m (page_at file.file k) ≡ Some p → o ≡ row_with rows (place_of k l)
    → placed_from rows (place_of k l) ≡ as_list (option_map (λ row. (place_of k l, row)) o) ++ placed_from rows (place_of k (l + 1))
from_here file m rows k l p o lt e is row =
    at_next file m rows (place_of k l) (omega arith) e
    ∙ ap (λ r. as_list r ++ placed_from rows (place_of k (l + 1))) (placed_line file m rows k l p lt e is ∙ ap (option_map (λ row. (place_of k l, row))) (sym row))

-- a line without a row
pub line_skipped : (file : RelFile) (m : Image) (rows : Placed) (k l : ℕ) (p : List ℕ) (found now : List (ℕ × Row)) (o : Option Row) → o ≡ None → now ≡ found → k < file.used → heap_rows file m ≡ Some rows → m (page_at file.file k) ≡ Some p → o ≡ row_with rows (place_of k l)
    → placed_from rows (place_of k 0) ≡ on_page k found ++ placed_from rows (place_of k l) → placed_from rows (place_of k 0) ≡ on_page k now ++ placed_from rows (place_of k (l + 1))
line_skipped file m rows k l p found now o none same lt e is row h = h ∙ ap₂ (λ f r. on_page k f ++ r) (sym same) (from_here file m rows k l p None lt e is (sym none ∙ row))

on_page_append : (k : ℕ) (xs ys : List (ℕ × Row)) → on_page k (xs ++ ys) ≡ on_page k xs ++ on_page k ys
on_page_append k [] ys = refl
on_page_append k (x ∷ xs) ys = ap (λ l. (place_of k x.0, x.1) ∷ l) (on_page_append k xs ys)

-- a line with a row
pub line_found : (file : RelFile) (m : Image) (rows : Placed) (k l : ℕ) (p : List ℕ) (found now : List (ℕ × Row)) (o : Option Row) (row : Row) → o ≡ Some row → now ≡ found ++ (l, row) ∷ [] → k < file.used → heap_rows file m ≡ Some rows → m (page_at file.file k) ≡ Some p → o ≡ row_with rows (place_of k l)
    → placed_from rows (place_of k 0) ≡ on_page k found ++ placed_from rows (place_of k l) → placed_from rows (place_of k 0) ≡ on_page k now ++ placed_from rows (place_of k (l + 1))
line_found file m rows k l p found now o row some new lt e is there h =
    h ∙ ap (λ r. on_page k found ++ r) (from_here file m rows k l p (Some row) lt e is (sym some ∙ there))
    ∙ sym (append_assoc (on_page k found) ((place_of k l, row) ∷ []) (placed_from rows (place_of k (l + 1))))
    ∙ ap (λ r. r ++ placed_from rows (place_of k (l + 1))) (sym (ap (on_page k) new ∙ on_page_append k found ((l, row) ∷ [])))

-- all lines were read
pub lines_over : (file : RelFile) (m : Image) (rows : Placed) (k l : ℕ) (p : List ℕ) (found : List (ℕ × Row)) → k < file.used → heap_rows file m ≡ Some rows → m (page_at file.file k) ≡ Some p → lines p ≤ l
    → placed_from rows (place_of k 0) ≡ on_page k found ++ placed_from rows (place_of k l) → placed_from rows (place_of k 0) ≡ on_page k found ++ placed_from rows (place_of (k + 1) 0)
lines_over file m rows k l p found lt e is le h =
    h ∙ ap (λ r. on_page k found ++ r)
    (next_page_from file m rows k l p lt e is (let c = slots_count p in omega arith) ∙ ap (λ j. placed_from rows (place_of j 0)) (let a : suc k ≡ k + 1 = omega arith in a))
