-- What a disk holds, and what is known of it.
use Rattle.std.specs.Prelude.{◌≡◌, ◌⊎◌, ℕ, ◌==◌, ◌&&◌, Bool, false, List, Option, Some, None, IsTrue, is_some, if◌then◌else◌}
use Rattle.calculus.specs.Database.{Db}
use Rattle.disk_model.specs.Disk.{Image, IsImage}
use Rattle.disk_model.specs.declared.disk.Addr.{Addr}
use Rattle.disk_model.specs.declared.disk.Disk.{Ghosts}
use Rattle.batch_file.specs.Layout.{addr}
use Rattle.batch_file.specs.OnDisk.{IsClosed}
use Rattle.batch_store.specs.Store.{disk_of, is_due, waiting}
use Rattle.batch_store.specs.declared.store.BatchStore.{BatchStore}
use Rattle.page_chain.specs.Lists.{◌>>=◌, when}
use Rattle.catalog_read.specs.Parts.{index_owners_agree}
use Rattle.stored_database.specs.Denoting.{birth, header_of, stored}

-- the database that a disk holds, where each of its indexes has the owner of its relation
unfoldable pub held : Image → Option Db
held m = do
  db ← stored m
  when (index_owners_agree db) db

-- what a disk holds, where its content is known
abbrev pub database_by : Bool → Image → Option Db
database_by is_known m = if is_known then held m else None

-- an image holds what some image of the disk held then
abbrev pub SameHeld : Image → (Addr → Type 0) → Image → Type 0
SameHeld seen touched m = (m0 : Image) × IsImage seen touched m0 × (held m ≡ held m0)

-- an image holds what some image of the disk held then, or this database
abbrev pub HeldOr : Image → (Addr → Type 0) → Db → Image → Type 0
HeldOr seen touched db m = SameHeld seen touched m ⊎ (held m ≡ Some db)

-- an image holds the one database or the other
abbrev pub IsEither : Db → Db → Image → Type 0
IsEither before after m = (held m ≡ Some before) ⊎ (held m ≡ Some after)

-- the administrator whose header is page 0 of file 0
unfoldable pub administrator : Image → Option (List ℕ)
administrator m = do
  page ← m (addr 0 0)
  header_of page

-- there is a header, and a database is born
abbrev pub has_head : Image → Bool
has_head m = is_some (administrator m) && (birth m == 1)

-- the page of file 0 that shows that none is there: that of the header where one is born, else that of the birth byte
abbrev pub headless_page : Image → ℕ
headless_page m = if birth m == 1 then 0 else 1

module _ {D : Type 0} {g : Ghosts D} where
  -- the database on the disk below a store, where it is known
  abbrev pub database_in : BatchStore D g → Option Db
  database_in s = database_by g.is_known (g.seen (disk_of s))

  -- Nothing waits and nothing is touched, and no restore is due.
  pub record IsReady (s : BatchStore D g) : Type 0 where
    pub calm : is_due s ≡ false
    pub empty : waiting s ≡ 0
    pub closed : IsTrue g.is_known → IsClosed (g.seen (disk_of s)) (g.touched (disk_of s))
