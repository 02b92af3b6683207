-- What a room tells, and what failing work leaves of it.
use Rattle.std.specs.Prelude.{◌≡◌, ◌⊎◌, ◌++◌, ◌+◌, ◌≤◌, ℕ, Bool, List, Some, length}
use Rattle.std.specs.declared.option.Option.{Option}
use Rattle.std.specs.Io.KnownBytes.{Appends}
use Rattle.calculus.specs.Database.{Db}
use Rattle.fault_io.specs.Files.{Files, stored}
use Rattle.fault_io.specs.Shelves.{MayHaveStored}
use Rattle.network_meaning.specs.Calls.{Knows, Known}
use Rattle.network_meaning.specs.Failing.{Begins, work_bytes}
use Rattle.network_meaning.specs.Language.{Language}
use Rattle.network_meaning.specs.LocalSteps.{Act, Mode, Works, Want.work, Room as NetworkRoom}
use Rattle.network_meaning.specs.Network.{LocalState, want}
use Rattle.net_core.specs.declared.room.Room.{Room}
use Rattle.quel_network.specs.Sorts.{quel_sorts}

-- the outside as a room has it: the database, the files, what is left of the script and what was written, where they are known; how often calls of each failed, how often the sink took nothing, how many bytes the source gave and whether it has answered that it has ended; and the clock and the count of reads of the disk below the database
pub record Outside : Type 0 where
  pub database : Option Db
  pub base_faults : ℕ
  pub clock : ℕ
  pub reads : ℕ
  pub files : Option Files
  pub shelf_faults : ℕ
  pub script : Option (List ℕ)
  pub given : ℕ
  pub source_faults : ℕ
  pub source_ended : Bool
  pub output : Option (List ℕ)
  pub sink_faults : ℕ
  pub sink_stalls : ℕ

-- the outside of a room, by what its parts tell
abbrev pub outside : {B H S K : Type 0} → (B → Option Db) → (B → ℕ) → (B → ℕ) → (B → ℕ) → (H → Option Files) → (H → ℕ) → (S → Option (List ℕ)) → (S → ℕ) → (S → ℕ) → (S → Bool) → (K → Option (List ℕ)) → (K → ℕ) → (K → ℕ) → Room B H S K → Outside
outside database base_faults clock reads files shelf_faults left given source_faults source_ended written sink_faults stalls room = record {
  database = database room.base;
  base_faults = base_faults room.base;
  clock = clock room.base;
  reads = reads room.base;
  files = files room.shelf;
  shelf_faults = shelf_faults room.shelf;
  script = left room.source;
  given = given room.source;
  source_faults = source_faults room.source;
  source_ended = source_ended room.source;
  output = written room.sink;
  sink_faults = sink_faults room.sink;
  sink_stalls = stalls room.sink;
}

-- what is known of the room, as the network has it
abbrev pub known : Outside → Known quel_sorts
known o = record { db = o.database; shelf = o.files; script = o.script; out = o.output }

-- the database is the one before a piece of work, or the one that this work leaves
abbrev pub IsBeforeOrAfter : Language quel_sorts → Mode quel_sorts → NetworkRoom quel_sorts → Db → Type 0
IsBeforeOrAfter L mode room db = (db ≡ room.db) ⊎ ((act : Act quel_sorts) × (room' : NetworkRoom quel_sorts) × Works L mode room act room' × (db ≡ room'.db))

-- this work stores these bytes as the file of this name
abbrev pub StoresFile : Language quel_sorts → Mode quel_sorts → NetworkRoom quel_sorts → List ℕ → List ℕ → Type 0
StoresFile L mode room name bytes = (act : Act quel_sorts) × (room' : NetworkRoom quel_sorts) × Works L mode room act room' × (room'.shelf ≡ stored room.shelf name bytes)

-- the files are again known: as they were, or the work stores a file, and this one alone may have been stored
abbrev pub LeavesFiles : Language quel_sorts → Mode quel_sorts → NetworkRoom quel_sorts → Option Files → Type 0
LeavesFiles L mode room files = (files ≡ Some room.shelf) ⊎ ((name : List ℕ) × (bytes : List ℕ) × StoresFile L mode room name bytes × MayHaveStored name bytes room.shelf files)

-- what work leaves of a room that came to no end, where this was written before: a front of what this work writes was written, no file differs but the one that the work stores, and a database that is known is the one before or the one that the work leaves
pub record LeavesPart (L : Language quel_sorts) (mode : Mode quel_sorts) (room : NetworkRoom quel_sorts) (written : Option (List ℕ)) (after : Outside) : Type 0 where
  pub front : List ℕ
  pub begins : Begins front (work_bytes L mode room)
  pub wrote : Appends written after.output front
  pub files : LeavesFiles L mode room after.files
  pub database : (db : Db) → after.database ≡ Some db → IsBeforeOrAfter L mode room db

-- in some room with these files the work stores these bytes as the file of this name
abbrev pub MayStore : Language quel_sorts → Mode quel_sorts → Files → List ℕ → List ℕ → Type 0
MayStore L mode files name bytes = (room : NetworkRoom quel_sorts) × (room.shelf ≡ files) × StoresFile L mode room name bytes

-- the files are again known: as they were, or such work on them may store a file, and this one alone may have been stored
abbrev pub SparesFiles : Language quel_sorts → Mode quel_sorts → Files → Option Files → Type 0
SparesFiles L mode files after = (after ≡ Some files) ⊎ ((name : List ℕ) × (bytes : List ℕ) × MayStore L mode files name bytes × MayHaveStored name bytes files after)

-- work that failed: in a room that is known it has left a part of what it does; and of files that are known, whatever else is, no file differs but one that such work stores
pub record FailedWork (L : Language quel_sorts) (mode : Mode quel_sorts) (before after : Outside) : Type 0 where
  pub part : (room : NetworkRoom quel_sorts) → Knows (known before) room → LeavesPart L mode room before.output after
  pub files : (files : Files) → before.files ≡ Some files → SparesFiles L mode files after.files

-- a stage that failed has worked and left a part of what it does, or all outside it is as it was
abbrev pub FailedStep : Language quel_sorts → LocalState quel_sorts → Outside → Outside → Type 0
FailedStep L s before after = ((want s ≡ work) × FailedWork L s.mode before after) ⊎ (after ≡ before)

-- a database that is known is again known
abbrev pub KeepsDatabase : Outside → Outside → Type 0
KeepsDatabase before after = (db : Db) → before.database ≡ Some db → (later : Db) × (after.database ≡ Some later)

-- a script that is known is again known, and what was read of it is the bytes that it has lost
abbrev pub KeepsScript : ℕ → ℕ → Outside → Outside → Type 0
KeepsScript heard heard' before after = (script : List ℕ) → before.script ≡ Some script → (bytes : List ℕ) × (rest : List ℕ) × (after.script ≡ Some rest) × (script ≡ bytes ++ rest) × (heard' ≡ heard + length bytes)

-- no count of faults falls
pub record Later (before after : Outside) : Type 0 where
  pub base : before.base_faults ≤ after.base_faults
  pub shelf : before.shelf_faults ≤ after.shelf_faults
  pub source : before.source_faults ≤ after.source_faults
  pub sink : before.sink_faults ≤ after.sink_faults
  pub stalls : before.sink_stalls ≤ after.sink_stalls
