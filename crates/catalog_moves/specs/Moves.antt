-- The bytes of the rows of the catalogues that go and come with a change.
use Rattle.std.specs.Prelude.{◌≡◌, ℕ, true, nat_lt, List, ◌++◌, All, map}
use Rattle.std.specs.List.{AllByRecursion}
use Rattle.std.specs.List.Sorted.{IsPermutation}
use Rattle.page_chain.specs.Lying.{IsShort}
use Rattle.stored_database.specs.Catalogue.{Catalogue}
use Rattle.stored_database.specs.Columns.{column_bytes}
use Rattle.calculus.specs.declared.schema.RelInfo.{RelInfo}
use Rattle.stored_database.specs.Entries.{Entry, entry_bytes}
use Rattle.stored_database.specs.Parts.{Part, part_bytes}
use Rattle.catalog_moves.specs.declared.rows.Moves.{Moves}
use Rattle.catalog_moves.specs.declared.rows.SomeRows.{SomeRows}

-- The rows that go and come have the bytes of these items, in whatever order.
pub record AreMoves (going coming : Catalogue) (m : Moves) : Type 0 where
  pub entries_go : IsPermutation m.entries.going (map entry_bytes going.entries)
  pub entries_come : IsPermutation m.entries.coming (map entry_bytes coming.entries)
  pub columns_go : IsPermutation m.columns.going (map column_bytes going.columns)
  pub columns_come : IsPermutation m.columns.coming (map column_bytes coming.columns)
  pub parts_go : IsPermutation m.parts.going (map part_bytes going.parts)
  pub parts_come : IsPermutation m.parts.coming (map part_bytes coming.parts)

-- Each row that comes has room on a page.
pub record AreShort (m : Moves) : Type 0 where
  pub entries : All (λ row. IsShort row) m.entries.coming
  pub columns : All (λ row. IsShort row) m.columns.coming
  pub parts : All (λ row. IsShort row) m.parts.coming

-- the places of the parts that come are numbers of two bytes
abbrev pub HavePlaces : Catalogue → Type 0
HavePlaces coming = AllByRecursion (λ p. nat_lt p.place 65536 ≡ true) coming.parts

-- ---- how they are made

-- the entry of what is known, where it has these files and numbers of pages
abbrev pub entry_with : ℕ → ℕ → ℕ → ℕ → RelInfo → Entry
entry_with file base primary used i = record { file = file; key = i.key; spec = i.spec; base = base; primary = primary; directory = 0; used = used; keys = i.keys }

-- Rows came behind others: these, each with room on a page.
pub record Came (old new came : List (List ℕ)) : Type 0 where
  pub rows : new ≡ old ++ came
  pub short : AllByRecursion (λ row. IsShort row) came

-- Rows came behind others: those of these parts of trees, each with room on a page and a place.
pub record CameParts (old new : List (List ℕ)) (parts : List Part) : Type 0 where
  pub came : Came old new (map part_bytes parts)
  pub placed : AllByRecursion (λ p. nat_lt p.place 65536 ≡ true) parts

-- Rows of a catalogue are those of these items, each with room on a page.
pub record AreRows (cat : Catalogue) (rows : SomeRows) : Type 0 where
  pub entries : rows.entries.items ≡ map entry_bytes cat.entries
  pub columns : rows.columns.items ≡ map column_bytes cat.columns
  pub parts : rows.parts.items ≡ map part_bytes cat.parts
  pub short_entries : AllByRecursion (λ row. IsShort row) rows.entries.items
  pub short_columns : AllByRecursion (λ row. IsShort row) rows.columns.items
  pub short_parts : AllByRecursion (λ row. IsShort row) rows.parts.items
  pub placed : HavePlaces cat

-- Each of these rows has room on a page.
pub record FitOnPages (rows : SomeRows) : Type 0 where
  pub entries : AllByRecursion (λ row. IsShort row) rows.entries.items
  pub columns : AllByRecursion (λ row. IsShort row) rows.columns.items
  pub parts : AllByRecursion (λ row. IsShort row) rows.parts.items
