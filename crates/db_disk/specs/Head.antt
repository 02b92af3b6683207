-- What says that pages hold a database.
use Rattle.std.specs.Prelude.{◌≡◌, ◌==◌, true, false, Some, None}
use Rattle.disk_model.specs.Disk.{Image}
use Rattle.stored_database.specs.Denoting.{birth}
use Rattle.db_disk.specs.Held.{administrator}
use Rattle.db_disk.specs.declared.head.Head.{Head}
use Rattle.db_disk.specs.declared.head.Head.TheVariants.{Of, NoHeader, Unborn}

-- a database is born and this is its administrator, or one is born and there is no header, or none is born
abbrev pub IsHead : Image → Head → Type 0
IsHead m (Of dba) = ((birth m == 1) ≡ true) × (administrator m ≡ Some dba)
IsHead m NoHeader = ((birth m == 1) ≡ true) × (administrator m ≡ None)
IsHead m Unborn = (birth m == 1) ≡ false
