-- What a catalogue in memory is to know of a disk.
use Rattle.std.specs.Prelude.{◌≡◌, Option, Some, option_map}
use Rattle.calculus.specs.Database.{Db}
use Rattle.calculus.specs.Schema.{schema_of}
use Rattle.disk_model.specs.Disk.{Image}
use Rattle.batch_file.specs.Redone.{kept}
use Rattle.plain_base.specs.Shown.{database_of}
use Rattle.catalog_moves.specs.declared.files.FileTable.{FileTable}
use Rattle.catalog_moves.specs.declared.key_set.KeySet.{KeySet}
use Rattle.catalog_pages.specs.declared.writing.Ends.{Ends}
use Rattle.catalog.specs.Knows.{Knows}
use Rattle.catalog.specs.Lies.{LiesOn}
use Rattle.catalog.specs.declared.catalog.Catalog.{Catalog}
use Rattle.db_disk.specs.Held.{administrator, held}

-- What a catalogue knows lies on the pages, and is of the administrator whose header is there.
pub record LiesFor (c : Catalog) (m : Image) : Type 0 where
  pub lies : LiesOn c m
  pub named : administrator m ≡ Some (database_of c.plain).dba

-- What a catalogue that is there knows lies on the disk, and where the disk holds a database, it knows that.
pub record IsKnown (m : Image) (catalog : Option Catalog) : Type 0 where
  pub each : (c : Catalog) (db : Db) → catalog ≡ Some c → held m ≡ Some db → ∥ Knows c (kept m) db ∥₁
  pub lies : (c : Catalog) → catalog ≡ Some c → ∥ LiesFor c (kept m) ∥₁

-- what a catalogue knows: a database in memory, whose rows were read, the files, and the last pages
abbrev pub known_part : Catalog → Db × KeySet × FileTable × Ends
known_part c = (database_of c.plain, c.loaded, c.files, c.ends)

-- the same is known
abbrev pub SameKnown : Option Catalog → Option Catalog → Type 0
SameKnown before now = option_map known_part now ≡ option_map known_part before

-- the schema that is known
abbrev pub schema_known : Option Catalog → Option Db
schema_known catalog = option_map (λ c. schema_of (database_of c.plain)) catalog
