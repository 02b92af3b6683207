-- What is read of files 5, 6 and 7 is a catalogue.
use Rattle.std.proofs.Common.{◌≡◌, sym, subst, ℕ, true, List, Option, Some}
use Rattle.std.proofs.lemmas.Option.{same_Some}
use Rattle.std.specs.Cmp.{IsTotalOrder}
use Rattle.std.specs.List.{AllByRecursion}
use Rattle.std.specs.List.Sorted.{IsStrictlySortedBy}
use Rattle.std.specs.declared.cmp.Ordering.{Ordering}
use Rattle.page_chain.specs.Chains.{chain}
use Rattle.page_chain.specs.Lists.{each, once}
use Rattle.page_chain.specs.Lying.{lying, bytes_of}
use Rattle.page_chain.specs.Pages.{Pages}
use Rattle.stored_database.specs.Catalogue.{IsCatalogue, listed, catalogue_in, most_pages}
use Rattle.stored_database.specs.Columns.{column_of, column_cmp, is_column}
use Rattle.stored_database.specs.Entries.{entry_of, entry_cmp, is_entry}
use Rattle.stored_database.specs.Laws.{CataloguesAreRead}
use Rattle.stored_database.specs.Parts.{part_of, part_cmp, is_part}
use Rattle.stored_database.proofs.ColumnBytes.{columns_are_their_bytes}
use Rattle.stored_database.proofs.EntryBytes.{entries_are_their_bytes}
use Rattle.stored_database.proofs.Members.{all_of, read_of}
use Rattle.stored_database.proofs.Orders.{entry_total, column_total, part_total}
use Rattle.stored_database.proofs.PartBytes.{parts_are_their_bytes}
use Rattle.stored_database.proofs.Reading.{bind_some}
use Rattle.stored_database.proofs.Sets.{IsOnce, is_once, sorted_in_order}

-- what is listed ascends, and each item was read
listed_set : {A : Type 0} (read : List ℕ → Option A) {cmp : A → A → Ordering} (order : IsTotalOrder cmp) (P : A → Type 0) → ((bytes : List ℕ) (a : A) → read bytes ≡ Some a → P a)
    → (pages : Pages) (xs : List A) → listed read cmp pages ≡ Some xs → IsStrictlySortedBy cmp xs × AllByRecursion P xs
unfolding listed
listed_set {A} read {cmp} order P holds pages xs h =
    let a = bind_some (chain most_pages pages) _ xs h in
    let b = bind_some (each read (bytes_of (lying pages a.0))) (once cmp) xs a.2 in
    let o : IsOnce order b.0 xs = is_once order b.0 xs b.2 in (
      subst (IsStrictlySortedBy cmp) (sym o.set) (sorted_in_order order b.0),
      all_of P xs (λ x at. (let r = read_of read (bytes_of (lying pages a.0)) b.0 x b.1 (o.from x at) in holds r.0 x r.2)),
    )

pub catalogues_are_read : CataloguesAreRead
unfolding catalogue_in
catalogues_are_read files cat h =
    let a = bind_some (listed entry_of entry_cmp (files 5)) _ cat h in
    let b = bind_some (listed column_of column_cmp (files 6)) _ cat a.2 in
    let c = bind_some (listed part_of part_cmp (files 7)) _ cat b.2 in
    let e = listed_set entry_of entry_total (λ e. is_entry e ≡ true) (λ bytes e h. ((entries_are_their_bytes bytes e).0 h).0) (files 5) a.0 a.1 in
    let l = listed_set column_of column_total (λ c. is_column c ≡ true) (λ bytes c h. ((columns_are_their_bytes bytes c).0 h).0) (files 6) b.0 b.1 in
    let p = listed_set part_of part_total (λ p. is_part p ≡ true) (λ bytes p h. ((parts_are_their_bytes bytes p).0 h).0) (files 7) c.0 c.1 in
    subst IsCatalogue (same_Some _ cat c.2) (record { entries_ascend = e.0; columns_ascend = l.0; parts_ascend = p.0; are_entries = e.1; are_columns = l.1; are_parts = p.1 })
