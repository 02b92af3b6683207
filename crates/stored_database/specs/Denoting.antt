-- The database that the pages of a disk stand for.
use Rattle.std.specs.Prelude.{◌≡◌, ℕ, ◌==◌, true, bytes_eq, List, [], ◌++◌, codes, take, drop, Option, Some}
use Rattle.byteorder.specs.Endian.{little_bytes}
use Rattle.calculus.specs.Database.{Db}
use Rattle.disk_model.specs.Disk.{Image}
use Rattle.batch_file.specs.Layout.{addr, first_byte}
use Rattle.batch_file.specs.Redone.{redone}
use Rattle.page_chain.specs.Lists.{◌>>=◌, when, check}
use Rattle.page_cells.specs.Page.{next_page}
use Rattle.page_chain.specs.Lying.{lying_on}
use Rattle.page_chain.specs.Pages.{pages_of, is_page}
use Rattle.stored_database.specs.Catalogue.{catalogue_in}
use Rattle.stored_database.specs.IsOne.{is_database}
use Rattle.stored_database.specs.Names.{name_of, name_bytes}
use Rattle.stored_database.specs.Spelled.{spelled}

-- the first bytes of page 0 of file 0: `INGRES7` and a blank, the form in two bytes, which is 1, and the administrator's name in twelve
unfoldable pub header_bytes : List ℕ → List ℕ
header_bytes dba = codes "INGRES7 " ++ (little_bytes 2 1 ++ name_bytes dba)

-- the administrator whose header begins the page
unfoldable pub header_of : List ℕ → Option (List ℕ)
header_of p = do
  dba ← name_of (take 12 (drop 10 p))
  when (bytes_eq (take 22 p) (header_bytes dba)) dba

-- the birth byte: byte 0 of page 1 of file 0
abbrev pub birth : Image → ℕ
birth m = first_byte (m (addr 0 1))

-- the database that the pages of an image spell, where they spell one
unfoldable pub database_of : Image → Option Db
database_of m = do
  page ← m (addr 0 0)
  dba ← header_of page
  born ← check (birth m == 1)
  cat ← catalogue_in (pages_of m)
  spelled dba (pages_of m) cat

-- the database that the pages of an image denote: the one that they spell, where it is one
unfoldable pub denoted : Image → Option Db
denoted m = do
  db ← database_of m
  when (is_database db) db

-- the pages denote this database
abbrev pub Denotes : Image → Db → Type 0
Denotes pages db = denoted pages ≡ Some db

-- the database that a disk holds: its pages stand for it once a batch that was begun is applied to them
unfoldable pub stored : Image → Option Db
stored m = do
  pages ← redone m
  denoted pages

-- ---- an empty database

-- The page is one of rows, no row lies on it, and none follows.
pub record IsEmptyPage (page : Option (List ℕ)) : Type 0 where
  pub bytes : List ℕ
  pub there : page ≡ Some bytes
  pub of_rows : is_page bytes ≡ true
  pub last : next_page bytes ≡ 0
  pub no_rows : lying_on 0 page ≡ []

-- The pages of an empty database: the administrator's header, the birth byte, and an empty page in each file of the catalogue.
pub record IsFresh (m : Image) (dba : List ℕ) : Type 0 where
  pub head : List ℕ
  pub there : m (addr 0 0) ≡ Some head
  pub header : take 22 head ≡ header_bytes dba
  pub born : birth m ≡ 1
  pub entries : IsEmptyPage (m (addr 5 0))
  pub columns : IsEmptyPage (m (addr 6 0))
  pub parts : IsEmptyPage (m (addr 7 0))

-- the database of an administrator in which nothing is
abbrev pub empty_database : List ℕ → Db
empty_database dba = record { dba = dba; relations = []; indexes = []; views = []; rules = []; permits = [] }
