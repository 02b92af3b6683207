-- The tables that are printed of queries.
use Rattle.std.specs.Prelude.{ℕ, pos, Bool, if◌then◌else◌, List, [], ◌∷◌, map, slice_index_or}
use Rattle.std.specs.List.{list_any}
use Rattle.std.specs.Ordering.{ordering_then}
use Rattle.std.specs.declared.cmp.Ordering.{Ordering}
use Rattle.calculus.specs.declared.value.Value.{Value}
use Rattle.calculus.specs.declared.value.Value.TheVariants.{Int}
use Rattle.calculus.specs.declared.query.Target.{Target}
use Rattle.calculus.specs.declared.request.Asked.{Asked}
use Rattle.calculus.specs.declared.request.SortKey.{SortKey}
use Rattle.calculus.specs.declared.reply.Column.{Column}
use Rattle.calculus.specs.declared.reply.Table.{Table}
use Rattle.calculus.specs.Value.{value_cmp, row_cmp}
use Rattle.calculus.specs.Rows.{Row}
use Rattle.calculus.specs.Lists.{insert_by}
use Rattle.calculus.specs.Who.{Who}
use Rattle.calculus.specs.Database.{Db}
use Rattle.calculus.specs.QueryParts.{targets_of}
use Rattle.calculus.specs.Answer.{answer, lacks}

-- the value of a row in a column; in one that it hasn't, 0
abbrev pub cell : Row → ℕ → Value
cell row column = slice_index_or row column (Int (pos 0))

-- the order of two rows by the values of a column
abbrev pub column_order : ℕ → Row → Row → Ordering
column_order column a b = value_cmp (cell a column) (cell b column)

-- the order of two rows by a column, greater values first where it is down
abbrev pub key_order : SortKey → Row → Row → Ordering
key_order key a b = if key.down then column_order key.column b a else column_order key.column a b

-- the order of two rows by these columns, the first weightiest; rows that agree in all of them by the order of rows
unfoldable pub rows_order : List SortKey → Row → Row → Ordering
rows_order [] a b = row_cmp a b
rows_order (key ∷ keys) a b = ordering_then (key_order key a b) (rows_order keys a b)

-- the rows in the order of these columns
unfoldable pub sorted : List SortKey → List Row → List Row
sorted keys [] = []
sorted keys (row ∷ rows) = insert_by (rows_order keys) row (sorted keys rows)

-- the column of a target
abbrev pub column_of : Target → Column
column_of t = record { name = t.name; kind = t.kind }

-- the table of a query that is asked: a column for each target, and the rows of its answer in the order that is asked for
unfoldable pub table_of : Db → Who → Asked → Table
table_of db who asked = record { columns = map column_of (targets_of asked.query); rows = sorted asked.sort (answer db who asked.query) }

-- some of these queries lacks a value
unfoldable pub some_query_lacks : Db → Who → List Asked → Bool
some_query_lacks db who asked = list_any (λ a. lacks db who a.query) asked
