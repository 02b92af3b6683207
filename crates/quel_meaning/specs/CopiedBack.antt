-- What a copy from a file reads of what a copy into it wrote.
use Rattle.std.specs.List.{list_all}
use Rattle.std.specs.Prelude.{ℕ, ◌<◌, nat_lt, IsTrue, List, filter_map, map, slice_get}
use Rattle.calculus.specs.declared.value.Value.{Value}
use Rattle.calculus.specs.declared.value.Kind.{Kind}
use Rattle.calculus.specs.declared.schema.Attr.{Attr}
use Rattle.calculus.specs.declared.request.CopyCol.{CopyCol}
use Rattle.calculus.specs.Rows.{Row}
use Rattle.calculus.specs.Lists.{has_number}
use Rattle.quel_meaning.specs.Copying.{record_row}

-- the kinds of attributes
abbrev pub kinds_of : List Attr → List Kind
kinds_of attrs = map (λ a. a.kind) attrs

-- the places of the columns
abbrev pub places : List CopyCol → List ℕ
places columns = map (λ c. c.attr) columns

-- the columns list every place of so many, and no other
pub record ListsAll (size : ℕ) (columns : List CopyCol) : Type 0 where
  pub all : (place : ℕ) → place < size → IsTrue (has_number (places columns) place)
  pub no_other : IsTrue (list_all (λ c. nat_lt c.attr size) columns)

-- the values that a row has at the places of the columns
abbrev pub column_values : List CopyCol → Row → List Value
column_values columns row = filter_map (λ c. slice_get row c.attr) columns

-- the row with its values at the places of the columns, and 0 or the empty text everywhere else
abbrev pub copied_row : List Attr → List CopyCol → Row → Row
copied_row attrs columns row = record_row (kinds_of attrs) columns (column_values columns row)
