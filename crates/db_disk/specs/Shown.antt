-- What a database on a disk shows.
use Rattle.std.specs.Prelude.{◌≡◌, ℕ, Bool, IsTrue, List, [], Option, Some, None}
use Rattle.base_trait.specs.Crashes.{OnlyAsked}
use Rattle.calculus.specs.declared.probe.Place.{Place}
use Rattle.calculus.specs.declared.query.RelKey.{RelKey}
use Rattle.calculus.specs.Database.{Db}
use Rattle.calculus.specs.Rows.{Row}
use Rattle.disk_model.specs.declared.disk.Addr.{Addr}
use Rattle.disk_model.specs.declared.disk.Disk.{Ghosts}
use Rattle.batch_store.specs.Store.{disk_of, last_of}
use Rattle.plain_base.specs.Places.{rows_from}
use Rattle.db_disk.specs.Held.{database_in}
use Rattle.db_disk.specs.Known.{schema_known}
use Rattle.db_disk.specs.Left.{clock_by, left_by}
use Rattle.db_disk.specs.declared.base.DbDisk.{DbDisk}

-- the rows that a scan still gives from a place on, where a database is known
abbrev pub rows_left : Option Db → RelKey → Place → List Row
rows_left (Some db) = rows_from db
rows_left None = λ key at. []

-- what a base knows of its schema: the database where that is known, else what was read of the schema
abbrev pub known_by : Option Db → Option Db → Option Db
known_by (Some db) schema = Some db
known_by None schema = schema

module _ {D : Type 0} {g : Ghosts D} where
  -- the disk below
  abbrev pub disk_in : DbDisk D g → D
  disk_in d = disk_of d.store

  -- the database that the disk holds, where its content is known
  abbrev pub db_of : DbDisk D g → Option Db
  db_of d = database_in d.store

  -- the rows that a scan still gives
  abbrev pub left_of : DbDisk D g → RelKey → Place → List Row
  left_of d = rows_left (db_of d)

  -- the schema that is known in memory, where one is, whatever is known of the disk's content
  abbrev pub schema_in : DbDisk D g → Option Db
  schema_in d = schema_known d.catalog

  -- the database that the disk holds, where its content is known, else the schema that is known in memory
  abbrev pub known_in : DbDisk D g → Option Db
  known_in d = known_by (db_of d) (schema_in d)

  -- the disk was restored, and no change has failed since
  abbrev pub is_restored : DbDisk D g → Bool
  is_restored d = d.is_open

  -- the address of the page that is kept of the disk, where one is
  abbrev pub page_kept : DbDisk D g → Option Addr
  page_kept d = last_of d.store

  -- the clock of the disk, where its content is known
  abbrev pub clock_in : DbDisk D g → ℕ
  clock_in d = clock_by g.is_known g.clock (disk_in d)

  -- what a crash since a moment may have left
  abbrev pub left_in : DbDisk D g → ℕ → Option Db → Type 0
  left_in d = left_by g.is_known g.seen g.touched g.clock g.left_since (disk_in d)

  -- It came of that one by questions: the database is as it was, and a crash leaves nothing else.
  pub record AskedOf (before now : DbDisk D g) : Type 0 where
    pub kept : db_of now ≡ db_of before
    pub only : OnlyAsked (clock_in before) (clock_in now) (is_restored before) (is_restored now) (left_in before) (left_in now)

  -- where the disk was restored it stays so, and its clock stands
  abbrev pub StaysRestored : DbDisk D g → DbDisk D g → Type 0
  StaysRestored before now = IsTrue (is_restored before) → (IsTrue g.is_known → g.clock (disk_in now) ≡ g.clock (disk_in before)) × IsTrue (is_restored now)
