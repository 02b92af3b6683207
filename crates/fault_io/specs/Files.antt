-- Files by their names, as a shelf holds them.
use Rattle.std.specs.Prelude.{ℕ, List, Option}
use Rattle.std.specs.Str.{bytes_eq}
use Rattle.std.specs.Cmp.Lexicographic.{slice_cmp}
use Rattle.std.specs.Ordering.{nat_cmp}
use Rattle.std.specs.Map.{lookup}
use Rattle.std.specs.BTreeMap.{insert_entry}

-- a file: its name, and its bytes
abbrev pub File : Type 0
File = List ℕ × List ℕ

-- files, ascending by their names, no name twice
abbrev pub Files : Type 0
Files = List File

-- the bytes of the file of this name; none where there is no such file
unfoldable pub fetched : Files → List ℕ → Option (List ℕ)
fetched files name = lookup (bytes_eq name) files

-- the files with these bytes under this name, whatever stood there
unfoldable pub stored : Files → List ℕ → List ℕ → Files
stored files name bytes = insert_entry (slice_cmp nat_cmp) files name bytes
