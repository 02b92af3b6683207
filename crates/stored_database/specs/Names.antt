-- Names and numbers as bytes of the catalogues.
use Rattle.std.specs.Prelude.{ℕ, ◌^◌, nat_lt, Bool, List, Option}
use Rattle.byteorder.specs.Endian.{little_bytes}
use Rattle.calculus.specs.Name.{is_name}
use Rattle.calculus.specs.Text.{trimmed}
use Rattle.page_cells.specs.RowBytes.{filled}
use Rattle.page_chain.specs.Lists.{when}

-- a name, filled with blanks to twelve bytes
unfoldable pub name_bytes : List ℕ → List ℕ
name_bytes name = filled name 12

-- the name that these bytes are without the blanks at their end
unfoldable pub name_of : List ℕ → Option (List ℕ)
name_of bytes = when (is_name (trimmed bytes)) (trimmed bytes)

-- a number that four bytes hold
abbrev pub is_number32 : ℕ → Bool
is_number32 n = nat_lt n (2 ^ 32)

-- its four bytes, the lowest first
abbrev pub bytes32 : ℕ → List ℕ
bytes32 n = little_bytes 4 n
