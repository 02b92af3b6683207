-- A catalogue after rows of it went and others came.
use Rattle.std.specs.Prelude.{◌≡◌, Bool, true, not, List, ◌++◌, filter, Some}
use Rattle.std.specs.List.{AllByRecursion, Contains, list_any}
use Rattle.std.specs.List.Sorted.{IsPermutation}
use Rattle.std.specs.Ordering.{is_eq, eq_by_cmp}
use Rattle.std.specs.declared.cmp.Ordering.{Ordering}
use Rattle.calculus.specs.Lists.{differ_by}
use Rattle.page_chain.specs.Lists.{in_order, once}
use Rattle.stored_database.specs.Catalogue.{Catalogue}
use Rattle.stored_database.specs.Columns.{column_cmp}
use Rattle.stored_database.specs.Entries.{entry_cmp}
use Rattle.stored_database.specs.Parts.{part_cmp}

-- the item is equal to none of those that go
abbrev pub stays : {A : Type 0} → (A → A → Ordering) → List A → A → Bool
stays cmp going x = not (list_any (λ y. is_eq (cmp y x)) going)

-- the set of the items that stay and of those that come
abbrev pub after_change : {A : Type 0} → (A → A → Ordering) → List A → List A → List A → List A
after_change cmp going coming set = in_order cmp (filter (stays cmp going) set ++ coming)

-- Rows that go from a set and rows that come to it: those that go are in the set, each listed once; and wherever the rows of the set lie, in whatever order, those that stay with those that come, again in whatever order, are no two equal, and they are the set afterwards.
pub record IsChange {A : Type 0} (cmp : A → A → Ordering) (going coming set : List A) : Type 0 where
  pub are_there : AllByRecursion (Contains set) going
  pub listed_once : differ_by (eq_by_cmp cmp) going ≡ true
  pub in_any_order : (lying now : List A) → once cmp lying ≡ Some set → IsPermutation now (filter (stays cmp going) lying ++ coming) → once cmp now ≡ Some (after_change cmp going coming set)

-- So it is in each of the three sets of a catalogue.
pub record AreChanges (going coming cat : Catalogue) : Type 0 where
  pub entries : IsChange entry_cmp going.entries coming.entries cat.entries
  pub columns : IsChange column_cmp going.columns coming.columns cat.columns
  pub parts : IsChange part_cmp going.parts coming.parts cat.parts

-- the catalogue after these rows went and those came, set by set
unfoldable pub changed : Catalogue → Catalogue → Catalogue → Catalogue
changed going coming cat = record {
  entries = after_change entry_cmp going.entries coming.entries cat.entries;
  columns = after_change column_cmp going.columns coming.columns cat.columns;
  parts = after_change part_cmp going.parts coming.parts cat.parts;
}
