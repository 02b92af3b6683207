-- The rows of a file, page by page.
use Rattle.std.proofs.Common.{◌≡◌, ◌⊎◌, inl, inr, refl, sym, ap, subst, ◌∙◌, ℕ, ◌+◌, ◌<◌, ◌≤◌, true, List, [], ◌∷◌, ◌++◌, map, Some, append_assoc, arith}
use Rattle.std.proofs.lemmas.List.{append-nil, map-append}
use Rattle.calculus.specs.Rows.{Row}
use Rattle.disk_model.specs.Disk.{Image}
use Rattle.am_traits.specs.Placed.{Placed, rows_of, rows_from}
use Rattle.calculus.specs.declared.schema.RelFile.{RelFile}
use Rattle.page_chain.specs.Lying.{place_of}
use Rattle.page_chain.specs.Pages.{page_at}
use Rattle.page_chain.specs.Rows.{reader}
use Rattle.heap_am.specs.Heap.{heap_rows, stands}
use Rattle.heap_am.specs.Met.{placed_from, on_page}
use Rattle.heap_am.proofs.Heaps.{heap_lies, none_left}
use Rattle.heap_am.proofs.Places.{all_from}
use Rattle.heap_am.proofs.Standing.{all_stand}
use Rattle.relation_rows.specs.Sets.{IsRead}

rows_on_page : (number : ℕ) (found : List (ℕ × Row)) → rows_of (on_page number found) ≡ map (λ f. f.1) found
rows_on_page number [] = refl
rows_on_page number (f ∷ found) = ap (λ rows. f.1 ∷ rows) (rows_on_page number found)

-- the rows of a page were put behind the others
pub page_read : (placed : Placed) (number : ℕ) (found : List (ℕ × Row)) (before now : List Row) → placed_from placed (place_of number 0) ≡ on_page number found ++ placed_from placed (place_of (number + 1) 0)
    → now ≡ before ++ map (λ f. f.1) found → before ++ rows_from placed (place_of number 0) ≡ now ++ rows_from placed (place_of (number + 1) 0)
page_read placed number found before now page more =
    ap (λ p. before ++ rows_of p) page
    ∙ ap (λ rows. before ++ rows) (map-append (λ p. p.1) (on_page number found) (placed_from placed (place_of (number + 1) 0)) ∙ ap (λ rows. rows ++ rows_from placed (place_of (number + 1) 0)) (rows_on_page number found))
    ∙ sym (append_assoc before (map (λ f. f.1) found) (rows_from placed (place_of (number + 1) 0)))
    ∙ ap (λ rows. rows ++ rows_from placed (place_of (number + 1) 0)) (sym more)

-- none was read
pub none_read : (file : RelFile) (m : Image) (placed : Placed) → 0 < file.used → heap_rows file m ≡ Some placed → rows_from placed (place_of 0 0) ≡ rows_of placed
none_read file m placed some e = ap rows_of (all_from (place_of 0 0) (place_of 0 0) (place_of file.used 0) placed (grind arith) (heap_lies file m placed some e))

-- all were read
pub all_read : (file : RelFile) (m : Image) (placed : Placed) (number : ℕ) (rows : List Row) → 0 < file.used → file.used ≤ number → heap_rows file m ≡ Some placed
    → rows_of placed ≡ rows ++ rows_from placed (place_of number 0) → rows ≡ rows_of placed
all_read file m placed number rows some over e all = sym (all ∙ ap (λ l. rows ++ l) (none_left file m placed (place_of number 0) some e over) ∙ append-nil rows)

-- each page of the file below this number is one of a heap
abbrev pub StandTo : RelFile → Image → ℕ → Type 0
StandTo file m number = (k : ℕ) → k < number → stands (reader file.domains) file.used k (m (page_at file.file k)) ≡ true

-- one more stands
pub one_stands : (file opened : RelFile) (m : Image) (number : ℕ) → opened ≡ file → StandTo file m number → stands (reader opened.domains) opened.used number (m (page_at opened.file number)) ≡ true → StandTo file m (number + 1)
one_stands file opened m number same before here k lt = by_order (split k number (omega arith))
  where
    split : (k number : ℕ) → k ≤ number → (k ≡ number) ⊎ (k < number)
    split k number le = grind arith

    by_order : (k ≡ number) ⊎ (k < number) → stands (reader file.domains) file.used k (m (page_at file.file k)) ≡ true
    by_order (inl e) = ap (λ k. stands (reader file.domains) file.used k (m (page_at file.file k))) e ∙ subst (λ (f : RelFile). stands (reader f.domains) f.used number (m (page_at f.file number)) ≡ true) same here
    by_order (inr lt) = before k lt

-- all pages were read, and each stands
pub is_read : (file : RelFile) (m : Image) (number : ℕ) (rows found : List Row) → 0 < file.used → file.used ≤ number → found ≡ rows
    → ((placed : Placed) → heap_rows file m ≡ Some placed → rows_of placed ≡ rows ++ rows_from placed (place_of number 0)) → StandTo file m number → IsRead file m found
is_read file m number rows found some over same known stand =
    let all = all_stand file m some (λ k lt. stand k (omega arith)) in
    record { placed = all.0; on_pages = all.1; rows = same ∙ all_read file m all.0 number rows some over all.1 (known all.0 all.1) }
