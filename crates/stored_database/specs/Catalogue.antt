-- What files 5, 6 and 7 hold.
use Rattle.std.specs.Prelude.{◌≡◌, Bool, true, ℕ, ◌^◌, List, map, Option, Some}
use Rattle.std.specs.List.{AllByRecursion}
use Rattle.std.specs.List.Sorted.{IsStrictlySortedBy, IsPermutation}
use Rattle.std.specs.declared.cmp.Ordering.{Ordering}
use Rattle.page_chain.specs.Chains.{chain}
use Rattle.page_chain.specs.Lists.{◌>>=◌, each, once}
use Rattle.page_chain.specs.Lying.{lying, bytes_of}
use Rattle.page_chain.specs.Pages.{Pages}
use Rattle.stored_database.specs.Entries.{Entry, entry_of, entry_cmp, is_entry}
use Rattle.stored_database.specs.Columns.{Column, column_of, column_cmp, is_column}
use Rattle.stored_database.specs.Parts.{Part, part_of, part_cmp, is_part}

-- the rows of files 5, 6 and 7, each as a set in its order
pub record Catalogue : Type 0 where
  pub entries : List Entry
  pub columns : List Column
  pub parts : List Part

-- the page numbers are below this
abbrev pub most_pages : ℕ
most_pages = 2 ^ 32

-- the set of what is read on the chain of a file, nothing of it twice
unfoldable pub listed : {A : Type 0} → (List ℕ → Option A) → (A → A → Ordering) → Pages → Option (List A)
listed read cmp pages = do
  numbers ← chain most_pages pages
  items ← each read (bytes_of (lying pages numbers))
  once cmp items

-- the catalogue of files
unfoldable pub catalogue_in : (ℕ → Pages) → Option Catalogue
catalogue_in files = do
  entries ← listed entry_of entry_cmp (files 5)
  columns ← listed column_of column_cmp (files 6)
  parts ← listed part_of part_cmp (files 7)
  Some (record { entries = entries; columns = columns; parts = parts })

-- A catalogue as it is read: each set ascends, and each item is one that has bytes.
pub record IsCatalogue (cat : Catalogue) : Type 0 where
  pub entries_ascend : IsStrictlySortedBy entry_cmp cat.entries
  pub columns_ascend : IsStrictlySortedBy column_cmp cat.columns
  pub parts_ascend : IsStrictlySortedBy part_cmp cat.parts
  pub are_entries : AllByRecursion (λ e. is_entry e ≡ true) cat.entries
  pub are_columns : AllByRecursion (λ c. is_column c ≡ true) cat.columns
  pub are_parts : AllByRecursion (λ p. is_part p ≡ true) cat.parts

-- The rows on the chain of a file are the bytes of these items, each once and in any order.
pub record HasRows {A : Type 0} (spell : A → List ℕ) (pages : Pages) (items : List A) : Type 0 where
  pub numbers : List ℕ
  pub chain : chain most_pages pages ≡ Some numbers
  pub rows : IsPermutation (bytes_of (lying pages numbers)) (map spell items)

-- A file lists these items: they ascend, each has bytes, and these are its rows.
pub record Lists {A : Type 0} (cmp : A → A → Ordering) (test : A → Bool) (spell : A → List ℕ) (pages : Pages) (items : List A) : Type 0 where
  pub ascends : IsStrictlySortedBy cmp items
  pub stand : AllByRecursion (λ x. test x ≡ true) items
  pub has : HasRows spell pages items
