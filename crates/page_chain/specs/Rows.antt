-- The rows of a relation on the pages of its file.
use Rattle.std.specs.Prelude.{ℕ, nat_lt, Bool, true, false, List, Option, None, option_map}
use Rattle.std.specs.List.{list_all}
use Rattle.calculus.specs.declared.probe.Place.{Place}
use Rattle.calculus.specs.declared.value.Domain.{Domain}
use Rattle.calculus.specs.Rows.{Row}
use Rattle.calculus.specs.Value.{row_cmp}
use Rattle.am_traits.specs.Placed.{Placed, rows_of}
use Rattle.page_cells.specs.RowBytes.{row_in}
use Rattle.page_chain.specs.Chains.{whole_chain}
use Rattle.page_chain.specs.Lists.{◌>>=◌, each, once}
use Rattle.page_chain.specs.Lying.{lying}
use Rattle.page_chain.specs.Pages.{Pages}

-- a row that lies on a page, as it is read
abbrev pub read_with : (List ℕ → Option Row) → Place × List ℕ → Option (Place × Row)
read_with read r = option_map (λ row. (r.0, row)) (read r.1)

-- the rows on the pages below `used`, all of them on one chain, each with its place
unfoldable pub placed_on : (List ℕ → Option Row) → ℕ → Pages → Option Placed
placed_on read used pages = do
  numbers ← whole_chain used pages
  each (read_with read) (lying pages numbers)

-- the set of these rows, where none comes twice
unfoldable pub set_on : (List ℕ → Option Row) → ℕ → Pages → Option (List Row)
set_on read used pages = do
  placed ← placed_on read used pages
  once row_cmp (rows_of placed)

-- the number is a byte
abbrev pub is_byte : ℕ → Bool
is_byte n = nat_lt n 256

-- how the bytes of a row of these domains are read
unfoldable pub reader : List Domain → List ℕ → Option Row
reader domains bytes = elim (list_all is_byte bytes) [ true ↦ row_in bytes domains | false ↦ None ]
