-- The places of a table, where what stands under a key gets another file, or another number of pages.
use Rattle.std.specs.Prelude.{◌≡◌, ℕ, ◌==◌, ◌&&◌, ◌⊎◌, not, true, false, List, map, if◌then◌else◌}
use Rattle.calculus.specs.declared.query.RelKey.{RelKey}
use Rattle.calculus.specs.Keys.{same_key}
use Rattle.stored_database.specs.Printed.{Files, is_file}
use Rattle.catalog_moves.specs.declared.files.FilePlace.{FilePlace}
use Rattle.catalog_moves.specs.Files.{files_at}

-- the number is that of the file that stands under the key already, or one that a file may have and nothing has
abbrev pub MayTakeFile : RelKey → ℕ → Files → Type 0
MayTakeFile key file f = (file ≡ f.file key) ⊎ ((is_file file ≡ true) × ((k : RelKey) → (f.file k == file) ≡ false))

-- a place, where what stands under the key had the old file and gets this one: its own place says it and so many pages, that of an index on it says it as the file below, and any other is the same
abbrev pub renumbered_place : RelKey → ℕ → ℕ → ℕ → FilePlace → FilePlace
renumbered_place key old file used p =
    if same_key p.key key then record p { file = file; used = used } else (if not (old == 0) && p.base == old then record p { base = file } else p)

-- the places, where what stands under the key gets this file and so many pages
abbrev pub renumbered : RelKey → ℕ → ℕ → List FilePlace → List FilePlace
renumbered key file used places = map (renumbered_place key ((files_at places).file key) file used) places
