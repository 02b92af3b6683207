-- The rows of a heap of which the pages were changed.
use Rattle.std.proofs.Common.{◌≡◌, refl, sym, ap, ap₂, subst, ◌∙◌, ℕ, suc, ◌+◌, ◌-◌, ◌<◌, ◌≤◌, ◌==◌, ◌||◌, not, Bool, true, false, IsTrue, List, [], ◌∷◌, ◌++◌, map, filter, length, Option, Some, None, option_map, arith}
use Rattle.std.specs.List.{All, list_all}
use Rattle.std.specs.Ordering.{eq_by_cmp}
use Rattle.std.specs.List.Sorted.{IsPermutation}
use Rattle.std.proofs.lemmas.Bool.Decides.{nat_tests}
use Rattle.std.proofs.lemmas.List.Elements.{All-cons}
use Rattle.std.proofs.lemmas.List.Sorted.{IsPermutation-refl, IsPermutation-sym}
use Rattle.calculus.specs.declared.probe.Place.{Place}
use Rattle.calculus.specs.declared.value.Domain.{Domain}
use Rattle.calculus.specs.Rows.{Row, has}
use Rattle.calculus.specs.Value.{row_cmp}
use Rattle.calculus.proofs.Sets.{same_exact}
use Rattle.disk_model.specs.Disk.{Image}
use Rattle.am_traits.specs.Placed.{Placed, rows_of, rows_differ, NowHolds, Added, Removed, Replaced}
use Rattle.calculus.specs.declared.schema.RelFile.{RelFile}
use Rattle.page_cells.specs.RowBytes.{is_row, row_bytes, widths}
use Rattle.page_chain.specs.Chains.{IsChain, numbers_from, starts}
use Rattle.page_chain.specs.Grown.{IsGrown, IsOneMore, IsBuilt, numbers_to}
use Rattle.page_chain.specs.Lists.{each}
use Rattle.page_chain.specs.Lying.{Lying, Came, bytes_of, lying, is_among, staying, all_differ, IsShort}
use Rattle.page_chain.specs.Pages.{pages_of}
use Rattle.page_chain.specs.Renewed.{AllLie, IsRenewed, TookOne, WentFrom}
use Rattle.page_chain.specs.Rows.{read_with, reader}
use Rattle.heap_am.specs.Heap.{heap_rows}
use Rattle.heap_am.proofs.Counting.{EachGoes, chain_of_goes, goes_of_chain, last_number, grown_numbers}
use Rattle.heap_am.proofs.Each.{each_first, each_cons, each_append, each_filtered, each_reordered, Reordered}
use Rattle.heap_am.proofs.Heaps.{heap_parts, heap_is}
use Rattle.heap_am.proofs.Lying.{read_keeps}
use Rattle.heap_am.proofs.RowLaws.{reader_row, reader_spelled, row_is_short}
use Rattle.heap_am.proofs.RowTests.{bytes, AreRows, among_all, among_rows, differ_rows, all_among, lain, ReadAs, read_as}

none_placed : Place × Row
none_placed = (record { page = 0; line = 0 }, [])

same_image : {a b : Image} (known : Option Image) → known ≡ Some a → known ≡ Some b → a ≡ b
same_image known e f = cc

-- the pages of the heap are a chain, up to its last
pub heap_chain : (file : RelFile) (m : Image) (rows : Placed) (last : ℕ) → last + 1 ≡ file.used → heap_rows file m ≡ Some rows → IsChain file.used (pages_of m file.file) (numbers_from (suc last) 0)
heap_chain file m rows last is e =
    let used : file.used ≡ suc last = omega arith in
    let p = heap_parts file m rows (omega arith) e in
    chain_of_goes file.used (pages_of m file.file) last 0 (omega arith) (subst (λ n. EachGoes file.used (pages_of m file.file) 0 n) used p.goes)

pub heap_chain_to : (file : RelFile) (m : Image) (rows : Placed) (last : ℕ) → last + 1 ≡ file.used → heap_rows file m ≡ Some rows → IsChain file.used (pages_of m file.file) (numbers_from last 0 ++ last ∷ [])
heap_chain_to file m rows last is e = subst (IsChain file.used (pages_of m file.file)) (sym (last_number last)) (heap_chain file m rows last is e)

pub heap_read : (file : RelFile) (m : Image) (rows : Placed) (last : ℕ) → last + 1 ≡ file.used → heap_rows file m ≡ Some rows → each (read_with (reader file.domains)) (lying (pages_of m file.file) (numbers_from (suc last) 0)) ≡ Some rows
heap_read file m rows last is e =
    let used : suc last ≡ file.used = omega arith in
    ap (λ n. each (read_with (reader file.domains)) (lying (pages_of m file.file) (numbers_from n 0))) used ∙ (heap_parts file m rows (omega arith) e).read

pub heap_read_to : (file : RelFile) (m : Image) (rows : Placed) (last : ℕ) → last + 1 ≡ file.used → heap_rows file m ≡ Some rows → each (read_with (reader file.domains)) (lying (pages_of m file.file) (numbers_from last 0 ++ last ∷ [])) ≡ Some rows
heap_read_to file m rows last is e = ap (λ n. each (read_with (reader file.domains)) (lying (pages_of m file.file) n)) (last_number last) ∙ heap_read file m rows last is e

-- a chain of all pages, and what is read of them, are those of a heap
pub heap_of_chain : (file : RelFile) (m : Image) (rows : Placed) (last : ℕ) → last + 1 ≡ file.used → IsChain file.used (pages_of m file.file) (numbers_from (suc last) 0)
    → each (read_with (reader file.domains)) (lying (pages_of m file.file) (numbers_from (suc last) 0)) ≡ Some rows → heap_rows file m ≡ Some rows
heap_of_chain file m rows last is chain e =
    let used : suc last ≡ file.used = omega arith in
    heap_is file m rows (omega arith) (subst (λ n. EachGoes file.used (pages_of m file.file) 0 n) used (goes_of_chain file.used (pages_of m file.file) last 0 (omega arith) chain))
    (ap (λ n. each (read_with (reader file.domains)) (lying (pages_of m file.file) (numbers_from n 0))) (sym used) ∙ e)

-- a row was put
pub one_added : (file now : RelFile) (m : Image) (rows : Placed) (last : ℕ) (place : Place) (row : Row) (known : Option Image)
    → now.file ≡ file.file → now.domains ≡ file.domains → last + 1 ≡ file.used → place.page + 1 ≡ now.used → last ≤ place.page → heap_rows file m ≡ Some rows → IsTrue (is_row row file.domains)
    → IsGrown file.file file.used (numbers_from last 0) last place.page (row_bytes row file.domains ∷ []) m known → IsOneMore file.file (numbers_from last 0) last place (row_bytes row file.domains) m known
    → NowHolds (heap_rows now) known (Added rows place row)
one_added file now m rows last place row known same ds is used le e fits grown more =
    record {
      image = more.image;
      rows = after.vs;
      still_known = more.still_known;
      are = heap_of_chain now more.image after.vs place.page used chain
          (ap₂ (λ d f. each (read_with (reader d)) (lying (pages_of more.image f) (numbers_from (suc place.page) 0))) ds same
          ∙ ap (λ n. each (read_with (reader file.domains)) (lying (pages_of more.image file.file) n)) (sym (grown_numbers last place.page le)) ∙ after.read);
      so = IsPermutation-sym ((place, row) ∷ rows) after.vs after.order;
    }
  where
    f : Place × List ℕ → Option (Place × Row)
    f = read_with (reader file.domains)

    before : Lying
    before = lying (pages_of m file.file) (numbers_from last 0 ++ last ∷ [])

    later : Lying
    later = lying (pages_of more.image file.file) (numbers_from last 0 ++ numbers_to last place.page)

    with_row : each f ((place, row_bytes row file.domains) ∷ before) ≡ Some ((place, row) ∷ rows)
    with_row = each_cons f (place, row_bytes row file.domains) before (place, row) rows (ap (option_map (λ row. (place, row))) (reader_row row file.domains fits)) (heap_read_to file m rows last is e)

    after : Reordered f later ((place, row) ∷ rows)
    after = each_reordered f none_placed ((place, row_bytes row file.domains) ∷ before) later ((place, row) ∷ rows) (IsPermutation-sym later ((place, row_bytes row file.domains) ∷ before) more.all) with_row

    chain : IsChain now.used (pages_of more.image now.file) (numbers_from (suc place.page) 0)
    chain =
        subst (λ n. IsChain now.used (pages_of more.image now.file) n) (grown_numbers last place.page le)
        (subst (λ g. IsChain now.used (pages_of more.image g) (numbers_from last 0 ++ numbers_to last place.page)) (sym same)
        (subst (λ i. IsChain now.used (pages_of i file.file) (numbers_from last 0 ++ numbers_to last place.page)) (same_image known grown.still_known more.still_known)
        (grown.chain now.used (omega arith) (omega arith))))

-- rows were taken, and others put
pub rows_came : (file now : RelFile) (m : Image) (rows : Placed) (last to : ℕ) (going coming : List Row) (image : Image)
    → now.file ≡ file.file → now.domains ≡ file.domains → last + 1 ≡ file.used → to + 1 ≡ now.used → last ≤ to → heap_rows file m ≡ Some rows → AreRows file.domains going → AreRows file.domains coming
    → ((more : ℕ) → file.used ≤ more → to < more → IsChain more (pages_of image file.file) (numbers_from last 0 ++ numbers_to last to))
    → Came (staying (map (bytes file.domains) going) (lying (pages_of m file.file) (numbers_from last 0 ++ last ∷ []))) (map (bytes file.domains) coming) (lying (pages_of image file.file) (numbers_from last 0 ++ numbers_to last to))
    → (known : Option Image) → known ≡ Some image → NowHolds (heap_rows now) known (Replaced rows going coming)
rows_came file now m rows last to going coming image same ds is used le e go co chains came known there =
    record {
      image = image;
      rows = after.vs;
      still_known = there;
      are = heap_of_chain now image after.vs to used chain
          (ap₂ (λ d f. each (read_with (reader d)) (lying (pages_of image f) (numbers_from (suc to) 0))) ds same
          ∙ ap (λ n. each (read_with (reader file.domains)) (lying (pages_of image file.file) n)) (sym (grown_numbers last to le)) ∙ after.read);
      so = record {
        new = new.placed;
        came = subst (IsPermutation coming) (sym new.are) (IsPermutation-refl coming);
        all = IsPermutation-sym (filter (λ p. not (has going p.1)) rows ++ new.placed) after.vs after.order;
      };
    }
  where
    f : Place × List ℕ → Option (Place × Row)
    f = read_with (reader file.domains)

    before : Lying
    before = lying (pages_of m file.file) (numbers_from last 0 ++ last ∷ [])

    later : Lying
    later = lying (pages_of image file.file) (numbers_from last 0 ++ numbers_to last to)

    agree : (x : Place × List ℕ) (y : Place × Row) → f x ≡ Some y → not (is_among (map (bytes file.domains) going) x.1) ≡ not (has going y.1)
    agree x y h =
        let k = read_keeps (reader file.domains) x y h in
        let s = reader_spelled file.domains x.1 y.1 k.row in
        ap not (ap (is_among (map (bytes file.domains) going)) (sym s.spells) ∙ among_rows file.domains y.1 going s.fits go)

    kept : each f (staying (map (bytes file.domains) going) before) ≡ Some (filter (λ p. not (has going p.1)) rows)
    kept = each_filtered f (λ r. not (is_among (map (bytes file.domains) going) r.1)) (λ p. not (has going p.1)) before rows (heap_read_to file m rows last is e) agree

    new : ReadAs file.domains came.new coming
    new = read_as file.domains came.new coming co came.bytes

    after : Reordered f later (filter (λ p. not (has going p.1)) rows ++ new.placed)
    after =
        each_reordered f none_placed (staying (map (bytes file.domains) going) before ++ came.new) later (filter (λ p. not (has going p.1)) rows ++ new.placed)
        (IsPermutation-sym later (staying (map (bytes file.domains) going) before ++ came.new) came.all)
        (each_append f (staying (map (bytes file.domains) going) before) came.new (filter (λ p. not (has going p.1)) rows) new.placed kept new.read)

    chain : IsChain now.used (pages_of image now.file) (numbers_from (suc to) 0)
    chain =
        subst (λ n. IsChain now.used (pages_of image now.file) n) (grown_numbers last to le)
        (subst (λ g. IsChain now.used (pages_of image g) (numbers_from last 0 ++ numbers_to last to)) (sym same) (chains now.used (omega arith) (omega arith)))

-- no row was to go
pub all_stay : (rows : Lying) → staying [] rows ≡ rows
all_stay [] = refl
all_stay (r ∷ rows) = ap (λ l. r ∷ l) (all_stay rows)

-- rows that are to go lie on the chain
pub all_lie : (file : RelFile) (m : Image) (rows : Placed) (last : ℕ) (going : List Row) → last + 1 ≡ file.used → heap_rows file m ≡ Some rows → AreRows file.domains going
    → rows_differ (rows_of rows) ≡ true → rows_differ going ≡ true → All (λ row. IsTrue (has (rows_of rows) row)) going
    → AllLie (pages_of m file.file) (numbers_from last 0 ++ last ∷ []) (map (bytes file.domains) going)
all_lie file m rows last going is e go d once there =
    let xs = lying (pages_of m file.file) (numbers_from last 0 ++ last ∷ []) in
    let l = lain file.domains xs rows (heap_read_to file m rows last is e) in
    record {
      rows_differ = ap all_differ l.same ∙ differ_rows file.domains (rows_of rows) l.all ∙ d;
      listed_once = differ_rows file.domains going go ∙ once;
      are_there = ap (λ b. list_all (is_among b) (map (bytes file.domains) going)) l.same ∙ all_among file.domains (rows_of rows) going l.all go there;
    }

-- rows that are to go are there where their bytes lie on the chain
pub are_there : (file : RelFile) (m : Image) (rows : Placed) (last : ℕ) (going : List Row) (as_bytes : List (List ℕ)) → last + 1 ≡ file.used → heap_rows file m ≡ Some rows → AreRows file.domains going → as_bytes ≡ map (bytes file.domains) going
    → rows_differ (rows_of rows) ≡ true → rows_differ going ≡ true
    → (all_differ (bytes_of (lying (pages_of m file.file) (numbers_from last 0 ++ last ∷ []))) ≡ true → all_differ as_bytes ≡ true
    → list_all (is_among (bytes_of (lying (pages_of m file.file) (numbers_from last 0 ++ last ∷ [])))) as_bytes ≡ true)
    → All (λ row. IsTrue (has (rows_of rows) row)) going
are_there file m rows last going as_bytes is e go old d once lie =
    let xs = lying (pages_of m file.file) (numbers_from last 0 ++ last ∷ []) in
    let l = lain file.domains xs rows (heap_read_to file m rows last is e) in
    let there = lie (ap all_differ l.same ∙ differ_rows file.domains (rows_of rows) l.all ∙ d) (ap all_differ old ∙ differ_rows file.domains going go ∙ once) in
    among_all file.domains (rows_of rows) going l.all go
    (ap (λ b. list_all (is_among b) (map (bytes file.domains) going)) (sym l.same) ∙ subst (λ b. list_all (is_among (bytes_of xs)) b ≡ true) old there)

-- a row was taken, or isn't there
pub one_removed : (file : RelFile) (m : Image) (rows : Placed) (last : ℕ) (place : Option Place) (row : Row) (known : Option Image) → last + 1 ≡ file.used → heap_rows file m ≡ Some rows → IsTrue (is_row row file.domains)
    → TookOne file.file file.used (numbers_from (suc last) 0) (row_bytes row file.domains) place m known → NowHolds (heap_rows file) known (Removed rows place row)
one_removed file m rows last place row known is e fits took = by_place place took.took
  where
    f : Place × List ℕ → Option (Place × Row)
    f = read_with (reader file.domains)

    before : Lying
    before = lying (pages_of m file.file) (numbers_from (suc last) 0)

    later : Lying
    later = lying (pages_of took.image file.file) (numbers_from (suc last) 0)

    holds : (place : Option Place) (after : Placed) → each f later ≡ Some after → Removed rows place row after → NowHolds (heap_rows file) known (Removed rows place row)
    holds place after read so = record { image = took.image; rows = after; still_known = took.still_known; are = heap_of_chain file took.image after last is took.chain read; so = so }

    by_place : (place : Option Place) → WentFrom place (row_bytes row file.domains) before later → NowHolds (heap_rows file) known (Removed rows place row)
    by_place None h =
        let l = lain file.domains before rows (heap_read file m rows last is e) in
        holds None rows (ap (each f) h.1 ∙ heap_read file m rows last is e)
        (sym (among_rows file.domains row (rows_of rows) fits l.all) ∙ ap (λ b. is_among b (row_bytes row file.domains)) (sym l.same) ∙ h.0, refl)
    by_place (Some at) h =
        let r = each_reordered f none_placed before ((at, row_bytes row file.domains) ∷ later) rows h (heap_read file m rows last is e) in
        let p = each_first f (at, row_bytes row file.domains) later r.vs r.read in
        let here : Some p.y ≡ Some (at, row) = sym p.first ∙ ap (option_map (λ row. (at, row))) (reader_row row file.domains fits) in
        let first : p.y ≡ (at, row) = cc in
        holds (Some at) p.ys p.rest (subst (IsPermutation rows) (p.are ∙ ap (λ y. y ∷ p.ys) first) r.order)

-- a row that is none of the domains is nowhere
pub no_such_row : (file : RelFile) (m : Image) (rows : Placed) (last : ℕ) (row : Row) → last + 1 ≡ file.used → heap_rows file m ≡ Some rows → is_row row file.domains ≡ false → has (rows_of rows) row ≡ false
no_such_row file m rows last row is e unfit =
    none_is (rows_of rows) (lain file.domains (lying (pages_of m file.file) (numbers_from (suc last) 0)) rows (heap_read file m rows last is e)).all
  where
    by_test : (r : Row) (b : Bool) → eq_by_cmp row_cmp row r ≡ b → IsTrue (is_row r file.domains) → b ≡ false
    by_test r false is fits = refl
    by_test r true is fits = let s = ap (λ r. is_row r file.domains) (same_exact row r is) in cc

    none_is : (all : List Row) → AreRows file.domains all → has all row ≡ false
    none_is [] are = refl
    none_is (r ∷ all) are = ap₂ (λ a b. a || b) (by_test r (eq_by_cmp row_cmp row r) refl (are 0 r (omega arith))) (none_is all (λ k d lt. are (suc k) d (omega arith)))

-- the file was made anew
pub rows_built : (file : RelFile) (rows : List Row) (known : Option Image) → 0 < file.used → AreRows file.domains rows → IsBuilt file.file file.used (map (bytes file.domains) rows) known → NowHolds (heap_rows file) known (λ placed. rows_of placed ≡ rows)
rows_built file rows known some all built =
    let r = read_as file.domains (lying (pages_of built.image file.file) (numbers_from file.used 0)) rows all built.bytes in
    let last : suc (file.used - 1) ≡ file.used = omega arith in
    record {
      image = built.image;
      rows = r.placed;
      still_known = built.still_known;
      are = heap_of_chain file built.image r.placed (file.used - 1) (omega arith) (subst (λ n. IsChain file.used (pages_of built.image file.file) (numbers_from n 0)) (sym last) built.chain)
          (ap (λ n. each (read_with (reader file.domains)) (lying (pages_of built.image file.file) (numbers_from n 0))) last ∙ r.read);
      so = r.are;
    }

pub starts_at_0 : (last : ℕ) → starts (numbers_from last 0 ++ last ∷ []) ≡ true
starts_at_0 last = ap starts (last_number last)

-- rows were put behind the others
pub rows_extended : (file now : RelFile) (m : Image) (rows : Placed) (to : ℕ) (coming : List Row) (as_bytes : List (List ℕ)) (known : Option Image)
    → now.file ≡ file.file → now.domains ≡ file.domains → 0 < file.used → to + 1 ≡ now.used → file.used - 1 ≤ to → heap_rows file m ≡ Some rows → AreRows file.domains coming → as_bytes ≡ map (bytes file.domains) coming
    → IsGrown file.file file.used (numbers_from (file.used - 1) 0) (file.used - 1) to as_bytes m known → NowHolds (heap_rows now) known (Replaced rows [] coming)
rows_extended file now m rows to coming as_bytes known same ds some used le e co are grown =
    rows_came file now m rows (file.used - 1) to [] coming grown.image same ds (omega arith) used le e (λ k d lt. absurd (omega arith)) co grown.chain
    (record { new = grown.came.new; bytes = grown.came.bytes ∙ are; all = subst (λ l. IsPermutation (lying (pages_of grown.image file.file) (numbers_from (file.used - 1) 0 ++ numbers_to (file.used - 1) to)) (l ++ grown.came.new)) (sym (all_stay (lying (pages_of m file.file) (numbers_from (file.used - 1) 0 ++ (file.used - 1) ∷ [])))) grown.came.all })
    known grown.still_known

-- rows were taken, and others put
pub rows_renewed : (file now : RelFile) (m : Image) (rows : Placed) (to : ℕ) (going coming : List Row) (old_bytes new_bytes : List (List ℕ)) (known : Option Image)
    → now.file ≡ file.file → now.domains ≡ file.domains → 0 < file.used → to + 1 ≡ now.used → file.used - 1 ≤ to → heap_rows file m ≡ Some rows
    → AreRows file.domains going → old_bytes ≡ map (bytes file.domains) going → AreRows file.domains coming → new_bytes ≡ map (bytes file.domains) coming
    → IsRenewed file.file file.used (numbers_from (file.used - 1) 0) (file.used - 1) to old_bytes new_bytes m known → NowHolds (heap_rows now) known (Replaced rows going coming)
rows_renewed file now m rows to going coming old_bytes new_bytes known same ds some used le e go old co new renewed =
    rows_came file now m rows (file.used - 1) to going coming renewed.image same ds (omega arith) used le e go co renewed.chain
    (subst (λ a. Came (staying a (lying (pages_of m file.file) (numbers_from (file.used - 1) 0 ++ (file.used - 1) ∷ []))) (map (bytes file.domains) coming) (lying (pages_of renewed.image file.file) (numbers_from (file.used - 1) 0 ++ numbers_to (file.used - 1) to))) old
    (subst (λ b. Came (staying old_bytes (lying (pages_of m file.file) (numbers_from (file.used - 1) 0 ++ (file.used - 1) ∷ []))) b (lying (pages_of renewed.image file.file) (numbers_from (file.used - 1) 0 ++ numbers_to (file.used - 1) to))) new renewed.came))
    known renewed.still_known

-- ---- the bytes of rows

pub all_short : (ds : List Domain) (rows : List Row) → 0 < widths ds → widths ds ≤ 1012 → AreRows ds rows → All (λ row. IsShort row) (map (bytes ds) rows)
all_short ds [] some most all = λ k d lt. absurd (omega arith)
all_short ds (r ∷ rows) some most all = All-cons (λ row. IsShort row) (bytes ds r) (map (bytes ds) rows) (row_is_short r ds (all 0 r (omega arith)) some most) (all_short ds rows some most (λ k d lt. all (suc k) d (omega arith)))

-- the bytes that were written are those of the rows
pub bytes_are : (items made : List (List ℕ)) (ds own : List Domain) (rows : List Row) → items ≡ made → ds ≡ own → made ≡ map (λ row. row_bytes row ds) rows → items ≡ map (λ row. row_bytes row own) rows
bytes_are items made ds own rows e f h = e ∙ h ∙ ap (λ d. map (λ row. row_bytes row d) rows) f

pub are_short : (items made : List (List ℕ)) (ds own : List Domain) (rows : List Row) → items ≡ made → ds ≡ own → made ≡ map (λ row. row_bytes row ds) rows → 0 < widths own → widths own ≤ 1012 → AreRows own rows → All (λ row. IsShort row) items
are_short items made ds own rows e f h some most all = subst (All (λ row. IsShort row)) (sym (bytes_are items made ds own rows e f h)) (all_short own rows some most all)

pub none_of_them : {T : Type 0} (xs : List T) (b : Bool) → b ≡ (length xs == 0) → b ≡ true → xs ≡ []
none_of_them [] b e f = refl
none_of_them (x ∷ xs) b e f = let t : (length (x ∷ xs) == 0) ≡ false = grind (arith, nat_tests) in cc

pub row_bytes_are : (items made : List ℕ) (ds own : List Domain) (row : Row) → items ≡ made → ds ≡ own → made ≡ row_bytes row ds → items ≡ row_bytes row own
row_bytes_are items made ds own row e f h = e ∙ h ∙ ap (row_bytes row) f
