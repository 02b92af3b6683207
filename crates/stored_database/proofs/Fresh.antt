-- Fresh pages stand for an empty database.
use Rattle.std.proofs.Common.{◌≡◌, refl, sym, ap, ◌∙◌, ℕ, suc, ◌==◌, ◌&&◌, true, List, [], ◌∷◌, ◌++◌, take, drop, Option, Some, None, option_map}
use Rattle.std.specs.Prelude.{bytes_eq, zero}
use Rattle.std.specs.declared.cmp.Ordering.{Ordering}
use Rattle.std.proofs.lemmas.List.{take-append-drop}
use Rattle.std.proofs.lemmas.Slice.Eq.{bytes_eq-Decides}
use Rattle.calculus.specs.Name.{is_name}
use Rattle.disk_model.specs.Disk.{Image}
use Rattle.page_cells.specs.Page.{next_page}
use Rattle.page_chain.specs.Chains.{chain, chain_from}
use Rattle.page_chain.specs.Lists.{◌>>=◌, when, check, each, once}
use Rattle.page_chain.specs.Lying.{Lying, lying, lying_on, bytes_of}
use Rattle.page_chain.specs.Pages.{Pages, pages_of, is_page, may_follow, next_of}
use Rattle.stored_database.specs.Catalogue.{Catalogue, listed, catalogue_in, most_pages}
use Rattle.stored_database.specs.Columns.{column_of, column_cmp}
use Rattle.stored_database.specs.Entries.{entry_of, entry_cmp}
use Rattle.stored_database.specs.IsOne.{is_database}
use Rattle.stored_database.specs.Laws.{FreshPagesStand}
use Rattle.stored_database.specs.Names.{name_of, name_bytes}
use Rattle.stored_database.specs.Parts.{part_of, part_cmp}
use Rattle.stored_database.specs.Spelled.{columns_stand, parts_stand, relations_of, indexes_of, views_of, rules_of, permits_of, spelled}
use Rattle.stored_database.specs.Denoting.{header_bytes, header_of, birth, database_of, denoted, IsEmptyPage, IsFresh, empty_database}
use Rattle.stored_database.proofs.Reading.{take_front, name_again, length_name, together}

-- ---- the header

pub header_again : (p dba : List ℕ) → is_name dba ≡ true → take 22 p ≡ header_bytes dba → header_of p ≡ Some dba
unfolding header_of header_bytes
header_again p dba named begins =
    let rest = drop 22 p in
    let whole : p ≡ header_bytes dba ++ rest = sym (take-append-drop 22 p) ∙ ap (λ l. l ++ rest) begins in
    let name : take 12 (drop 10 p) ≡ name_bytes dba = ap (λ p. take 12 (drop 10 p)) whole ∙ take_front 12 (name_bytes dba) rest (length_name dba named) in
    ap (λ n. name_of n >>= (λ dba. when (bytes_eq (take 22 p) (header_bytes dba)) dba)) name
    ∙ ap (λ o. o >>= (λ dba. when (bytes_eq (take 22 p) (header_bytes dba)) dba)) (name_again dba named)
    ∙ ap (λ b. when b dba) ((bytes_eq-Decides (take 22 p) (header_bytes dba)).1 begins)

-- ---- empty files

ends : (bound : ℕ) (p : List ℕ) → is_page p ≡ true → next_page p ≡ 0 → next_of bound 0 (Some p) ≡ Some 0
unfolding next_of
ends bound p is last = λ i. when (is i && may_follow bound 0 (last i)) (last i)

one_page : (most bound : ℕ) (pages : Pages) → next_of bound 0 (pages 0) ≡ Some 0 → chain_from (suc most) bound pages 0 ≡ Some (0 ∷ [])
one_page most bound pages h = ap (λ (o : Option ℕ). elim o [
  | None ↦ None
  | Some zero ↦ Some (0 ∷ [])
  | Some (suc next) ↦ option_map (λ rest. 0 ∷ rest) (chain_from most bound pages (suc next))
]) h

empty_chain : (pages : Pages) → next_of most_pages 0 (pages 0) ≡ Some 0 → chain most_pages pages ≡ Some (0 ∷ [])
unfolding chain
empty_chain pages h = one_page 4294967295 most_pages pages h

nothing_lies : (pages : Pages) → lying_on 0 (pages 0) ≡ [] → lying pages (0 ∷ []) ≡ []
unfolding lying
nothing_lies pages h = ap (λ (l : Lying). l ++ []) h

nothing_listed : {A : Type 0} (read : List ℕ → Option A) (cmp : A → A → Ordering) (pages : Pages) → IsEmptyPage (pages 0) → listed read cmp pages ≡ Some []
unfolding listed
nothing_listed read cmp pages e =
    let ended : next_of most_pages 0 (pages 0) ≡ Some 0 = ap (next_of most_pages 0) e.there ∙ ends most_pages e.bytes e.of_rows e.last in
    ap (λ o. o >>= (λ numbers. each read (bytes_of (lying pages numbers)) >>= once cmp)) (empty_chain pages ended)
    ∙ ap (λ l. each read (bytes_of l) >>= once cmp) (nothing_lies pages e.no_rows)

-- ---- the database

empty_catalogue : Catalogue
empty_catalogue = record { entries = []; columns = []; parts = [] }

empty_read : (m : Image) (dba : List ℕ) → IsFresh m dba → catalogue_in (pages_of m) ≡ Some empty_catalogue
unfolding catalogue_in empty_catalogue
empty_read m dba f = λ i.
    nothing_listed entry_of entry_cmp (pages_of m 5) f.entries i >>= (λ entries.
    nothing_listed column_of column_cmp (pages_of m 6) f.columns i >>= (λ columns.
    nothing_listed part_of part_cmp (pages_of m 7) f.parts i >>= (λ parts. Some (record { entries = entries; columns = columns; parts = parts }))))

empty_spelled : (dba : List ℕ) (files : ℕ → Pages) → spelled dba files empty_catalogue ≡ Some (empty_database dba)
unfolding spelled columns_stand parts_stand relations_of indexes_of views_of rules_of permits_of empty_catalogue
empty_spelled dba files = refl

empty_is_one : (dba : List ℕ) → is_name dba ≡ true → is_database (empty_database dba) ≡ true
unfolding is_database
empty_is_one dba named = together (is_name dba && true) true (together (is_name dba) true named refl) refl

pub fresh_pages_stand : FreshPagesStand
unfolding denoted database_of
fresh_pages_stand m dba named f =
    let read = empty_read m dba f in
    ap (λ o. (o >>= (λ page. header_of page >>= (λ dba. check (birth m == 1) >>= (λ born. catalogue_in (pages_of m) >>= (λ cat. spelled dba (pages_of m) cat))))) >>= (λ db. when (is_database db) db)) f.there
    ∙ (λ i. (header_again f.head dba named f.header i >>= (λ dba. check (f.born i == 1) >>= (λ born. read i >>= (λ cat. spelled dba (pages_of m) cat)))) >>= (λ db. when (is_database db) db))
    ∙ (λ i. empty_spelled dba (pages_of m) i >>= (λ db. when (is_database db) db))
    ∙ ap (λ t. when t (empty_database dba)) (empty_is_one dba named)
