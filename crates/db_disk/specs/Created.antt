-- What a new database is on a disk, and what a crash leaves while it is made.
use Rattle.std.specs.Prelude.{◌≡◌, ◌≢◌, ◌⊎◌, ℕ, codes, List, [], ◌∷◌, ◌++◌, Option, Some, take}
use Rattle.disk_model.specs.Disk.{Image, IsImage, LeavesOnly}
use Rattle.disk_model.specs.declared.disk.Addr.{Addr}
use Rattle.batch_file.specs.Layout.{addr, first_byte, gate}
use Rattle.page_cells.specs.Page.{IsPage, slots, next_page}
use Rattle.page_cells.specs.RowBytes.{filled}
use Rattle.stored_database.specs.Denoting.{stored, empty_database}

-- what each header begins with: `INGRES7` and a blank, and the form 1 in two bytes
abbrev pub mark : List ℕ
mark = codes "INGRES7 " ++ 1 ∷ 0 ∷ []

-- the first bytes of the header of this administrator's database: then comes the name, filled with blanks
abbrev pub header_bytes : List ℕ → List ℕ
header_bytes dba = mark ++ filled dba 12

-- the page of the birth byte
abbrev pub birth_page : Addr
birth_page = addr 0 1

-- the birth byte
abbrev pub birth : Image → ℕ
birth m = first_byte (m birth_page)

-- There is a page of rows, with none on it, and no page follows.
pub record IsFresh (page : Option (List ℕ)) : Type 0 where
  pub bytes : List ℕ
  pub there : page ≡ Some bytes
  pub is_page : IsPage bytes
  pub no_slots : slots bytes ≡ []
  pub no_next : next_page bytes ≡ 0

-- There is a header of this administrator's database.
pub record IsHeader (dba : List ℕ) (page : Option (List ℕ)) : Type 0 where
  pub bytes : List ℕ
  pub there : page ≡ Some bytes
  pub begins : take 22 bytes ≡ header_bytes dba

-- The gate is shut, the header is there, and no row is in the catalogues.
pub record IsReady (dba : List ℕ) (m : Image) : Type 0 where
  pub shut : gate m ≢ 1
  pub header : IsHeader dba (m (addr 0 0))
  pub entries : IsFresh (m (addr 5 0))
  pub columns : IsFresh (m (addr 6 0))
  pub parts : IsFresh (m (addr 7 0))

-- A database that is born, with nothing in it.
pub record IsNewDatabase (dba : List ℕ) (m : Image) : Type 0 where
  pub ready : IsReady dba m
  pub born : birth m ≡ 1

-- no database is born, or it is one with nothing in it
abbrev pub UnbornOrNew : List ℕ → Image → Type 0
UnbornOrNew dba m = (birth m ≢ 1) ⊎ IsNewDatabase dba m

-- no database is born, or the disk holds the one with nothing in it
abbrev pub UnbornOrHolds : List ℕ → Image → Type 0
UnbornOrHolds dba m = (birth m ≢ 1) ⊎ (stored m ≡ Some (empty_database dba))

-- since a moment a crash leaves an image of then, or one of no database or of the new one
abbrev pub IsMaking : {S : Type 0} → (S → Image) → (S → Addr → Type 0) → (S → ℕ) → (S → ℕ → Image → Type 0) → List ℕ → S → S → Type 0
IsMaking seen touched clock left_since dba start now = LeavesOnly clock left_since start now (λ m. IsImage (seen start) (touched start) m ⊎ UnbornOrNew dba m)

-- The page of the birth byte is settled, and none is born.
pub record IsUnborn (seen : Image) (touched : Addr → Type 0) : Type 0 where
  pub calm : touched birth_page → ⊥
  pub unborn : birth seen ≢ 1
