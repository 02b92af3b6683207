-- What the rows of a heap are, page by page and line by line.
use Rattle.std.proofs.Common.{◌≡◌, refl, sym, ap, ap₂, subst, ◌∙◌, ℕ, suc, ◌+◌, ◌<◌, ◌≤◌, ◌&&◌, nat_lt, true, List, [], ◌++◌, length, get_or, Option, Some, None, is_some, option_map, arith}
use Rattle.std.proofs.lemmas.List.Elements.{filter-append}
use Rattle.std.proofs.lemmas.List.Folds.{find-append}
use Rattle.std.proofs.lemmas.Bool.Decides.{nat_tests}
use Rattle.std.specs.Option.{option_or}
use Rattle.calculus.specs.declared.probe.Place.{Place}
use Rattle.calculus.specs.Rows.{Row}
use Rattle.disk_model.specs.Disk.{Image}
use Rattle.am_traits.specs.Placed.{Placed, rows_of, row_with, rows_from, is_place, is_from}
use Rattle.calculus.specs.declared.schema.RelFile.{RelFile}
use Rattle.page_cells.specs.Page.{Slot, slots}
use Rattle.page_chain.specs.Chains.{whole_chain, numbers_from}
use Rattle.page_chain.specs.Lists.{each, ◌>>=◌}
use Rattle.page_chain.specs.Lying.{place_of, lying_on, lying}
use Rattle.page_chain.specs.Pages.{Pages, pages_of, page_at}
use Rattle.page_chain.specs.Rows.{placed_on, read_with, reader}
use Rattle.heap_am.specs.Heap.{heap_rows, stands, has_rows}
use Rattle.heap_am.proofs.Counting.{EachGoes, counted, whole_of}
use Rattle.heap_am.proofs.Lying.{Cut, cut_at, each_lie, each_place, pages_lie, lines_lie, page_has, slot_with}
use Rattle.heap_am.proofs.Places.{From, LieTo, from_place, at_place, as_list, one_line, all_from, none_from, none_before, none_behind, next_line}

-- the pages of a heap go on as they must, and their rows are these
pub record PagesOfHeap (file : RelFile) (m : Image) (rows : Placed) : Type 0 where
  pub goes : EachGoes file.used (pages_of m file.file) 0 file.used
  pub read : each (read_with (reader file.domains)) (lying (pages_of m file.file) (numbers_from file.used 0)) ≡ Some rows

pub heap_parts : (file : RelFile) (m : Image) (rows : Placed) → 0 < file.used → heap_rows file m ≡ Some rows → PagesOfHeap file m rows
unfolding heap_rows placed_on
heap_parts file m rows some e = by_chain (whole_chain file.used (pages_of m file.file)) refl e
  where
    pages : Pages
    pages = pages_of m file.file

    by_chain : (o : Option (List ℕ)) → whole_chain file.used pages ≡ o → (o >>= (λ numbers. each (read_with (reader file.domains)) (lying pages numbers))) ≡ Some rows → PagesOfHeap file m rows
    by_chain None is e = cc
    by_chain (Some numbers) is e =
        let c = counted file.used pages numbers some is in
        record { goes = c.each; read = ap (λ n. each (read_with (reader file.domains)) (lying pages n)) (sym c.are) ∙ e }

pub heap_is : (file : RelFile) (m : Image) (rows : Placed) → 0 < file.used → EachGoes file.used (pages_of m file.file) 0 file.used
    → each (read_with (reader file.domains)) (lying (pages_of m file.file) (numbers_from file.used 0)) ≡ Some rows → heap_rows file m ≡ Some rows
unfolding heap_rows placed_on
heap_is file m rows some goes e = ap (λ o. o >>= (λ numbers. each (read_with (reader file.domains)) (lying (pages_of m file.file) numbers))) (whole_of file.used (pages_of m file.file) some goes) ∙ e

pub heap_cut : (file : RelFile) (m : Image) (rows : Placed) (k : ℕ) → k < file.used → heap_rows file m ≡ Some rows → Cut (reader file.domains) (pages_of m file.file) file.used k rows
heap_cut file m rows k lt e = cut_at (reader file.domains) (pages_of m file.file) file.used k rows lt (heap_parts file m rows (omega arith) e).read

pub heap_lies : (file : RelFile) (m : Image) (rows : Placed) → 0 < file.used → heap_rows file m ≡ Some rows → LieTo (place_of 0 0) (place_of file.used 0) rows
heap_lies file m rows some e =
    let p = heap_parts file m rows some e in
    let e : 0 + file.used ≡ file.used = omega arith in
    each_lie (reader file.domains) (place_of 0 0) (place_of file.used 0) (lying (pages_of m file.file) (numbers_from file.used 0)) rows p.read
    (subst (λ j. LieTo (place_of 0 0) (place_of j 0) (lying (pages_of m file.file) (numbers_from file.used 0))) e (pages_lie (pages_of m file.file) file.used 0))

on_page_lies : (k : ℕ) (p : List ℕ) → LieTo (place_of k 0) (place_of k (0 + length (slots p))) (lying_on k (Some p))
unfolding lying_on
on_page_lies k p = lines_lie k 0 (slots p)

-- ---- line by line

-- behind the last page there is no row
pub no_row : (file : RelFile) (m : Image) (rows : Placed) (at : Place) → 0 < file.used → heap_rows file m ≡ Some rows → file.used ≤ at.page → row_with rows at ≡ None
no_row file m rows at some e le = ap (option_map (λ p. p.1)) (none_behind at (place_of 0 0) (place_of file.used 0) rows (grind arith) (heap_lies file m rows some e))

pub none_left : (file : RelFile) (m : Image) (rows : Placed) (at : Place) → 0 < file.used → heap_rows file m ≡ Some rows → file.used ≤ at.page → rows_from rows at ≡ []
none_left file m rows at some e le = ap rows_of (none_from at (place_of 0 0) (place_of file.used 0) rows (grind arith) (heap_lies file m rows some e))

-- what is said of a slot: nothing of an empty one, and the row of the bytes in it
abbrev pub slot_row : (List ℕ → Option Row) → Place → Slot → Option (Place × Row)
slot_row read at None = None
slot_row read at (Some bytes) = option_map (λ row. (at, row)) (read bytes)

-- what stands at a place of a page is what its slot says
pub at_line : (file : RelFile) (m : Image) (rows : Placed) (k l : ℕ) (p : List ℕ) → k < file.used → heap_rows file m ≡ Some rows → m (page_at file.file k) ≡ Some p
    → at_place (place_of k l) rows ≡ slot_row (reader file.domains) (place_of k l) (get_or (slots p) l None)
at_line file m rows k l p lt e is =
    let c = heap_cut file m rows k lt e in
    let read = reader file.domains in
    let at = place_of k l in
    let here : at_place at (lying_on k (pages_of m file.file k)) ≡ slot_with at (get_or (slots p) l None) = ap (λ o. at_place at (lying_on k o)) is ∙ page_has k l p in
    let on : at_place at c.on ≡ slot_row read at (get_or (slots p) l None) =
    each_place read at (lying_on k (pages_of m file.file k)) c.on c.on_read ∙ ap (λ o. o >>= read_with read) here ∙ with_slot read at (get_or (slots p) l None) in
    let none : at_place at c.before ≡ None = none_behind at (place_of 0 0) (place_of k 0) c.before (grind arith) c.before_lie in
    let after : at_place at c.after ≡ None = none_before at (place_of (suc k) 0) (place_of file.used 0) c.after (grind arith) c.after_lie in
    ap (at_place at) c.are
    ∙ find-append (λ r. is_place r.0 at) c.before (c.on ++ c.after)
    ∙ ap (λ o. option_or o (at_place at (c.on ++ c.after))) none
    ∙ find-append (λ r. is_place r.0 at) c.on c.after
    ∙ ap₂ option_or on after
    ∙ or_none (slot_row read at (get_or (slots p) l None))
  where
    with_slot : (read : List ℕ → Option Row) (at : Place) (s : Slot) → (slot_with at s >>= read_with read) ≡ slot_row read at s
    with_slot read at None = refl
    with_slot read at (Some bytes) = refl

    or_none : (o : Option (Place × Row)) → option_or o None ≡ o
    or_none None = refl
    or_none (Some r) = refl

pub at_next : (file : RelFile) (m : Image) (rows : Placed) (at : Place) → 0 < file.used → heap_rows file m ≡ Some rows → from_place at rows ≡ as_list (at_place at rows) ++ from_place (next_line at) rows
at_next file m rows at some e = one_line at (place_of 0 0) (place_of file.used 0) rows (heap_lies file m rows some e)

-- behind the last line of a page the next page begins
pub next_page_from : (file : RelFile) (m : Image) (rows : Placed) (k l : ℕ) (p : List ℕ) → k < file.used → heap_rows file m ≡ Some rows → m (page_at file.file k) ≡ Some p
    → length (slots p) ≤ l → from_place (place_of k l) rows ≡ from_place (place_of (suc k) 0) rows
next_page_from file m rows k l p lt e is le =
    let c = heap_cut file m rows k lt e in
    let lie : LieTo (place_of k 0) (place_of k (0 + length (slots p))) c.on =
    each_lie (reader file.domains) (place_of k 0) (place_of k (0 + length (slots p))) (lying_on k (Some p)) c.on
    (ap (λ o. each (read_with (reader file.domains)) (lying_on k o)) (sym is) ∙ c.on_read) (on_page_lies k p) in
    only_after c (place_of k l) (grind arith)
    (none_from (place_of k l) (place_of k 0) (place_of k (0 + length (slots p))) c.on (grind arith) lie)
    (all_from (place_of k l) (place_of (suc k) 0) (place_of file.used 0) c.after (grind arith) c.after_lie)
    ∙ sym (only_after c (place_of (suc k) 0) (grind arith)
    (none_from (place_of (suc k) 0) (place_of k 0) (place_of k (0 + length (slots p))) c.on (grind arith) lie)
    (all_from (place_of (suc k) 0) (place_of (suc k) 0) (place_of file.used 0) c.after (grind arith) c.after_lie))
  where
    only_after : (c : Cut (reader file.domains) (pages_of m file.file) file.used k rows) (at : Place) → From (place_of k 0) at → from_place at c.on ≡ [] → from_place at c.after ≡ c.after → from_place at rows ≡ c.after
    only_after c at h none all =
        ap (from_place at) c.are
        ∙ filter-append (λ r. is_from at r.0) c.before (c.on ++ c.after)
        ∙ ap₂ (λ a b. a ++ b) (none_from at (place_of 0 0) (place_of k 0) c.before h c.before_lie) (filter-append (λ r. is_from at r.0) c.on c.after)
        ∙ ap₂ (λ a b. a ++ b) none all

-- ---- page by page

-- the page of a heap stands
pub page_stands : (file : RelFile) (m : Image) (rows : Placed) (k : ℕ) → k < file.used → heap_rows file m ≡ Some rows → stands (reader file.domains) file.used k (m (page_at file.file k)) ≡ true
unfolding stands
page_stands file m rows k lt e =
    let p = heap_parts file m rows (omega arith) e in
    let c = heap_cut file m rows k lt e in
    let below : nat_lt k file.used ≡ true = grind (arith, nat_tests) in
    let on : has_rows (reader file.domains) k (m (page_at file.file k)) ≡ true = ap is_some c.on_read in
    (λ i. below i && (p.goes k (omega arith) (omega arith) i && on i))
