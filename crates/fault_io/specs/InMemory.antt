-- Sources, sinks, shelves, links and spawners in memory, as contracts see them.
use Rattle.std.specs.Prelude.{◌≡◌, ℕ, ℤ, ◌-◌, Bool, true, false, List, [], ◌∷◌, min}
use Rattle.std.specs.declared.option.Option.{Option}
use Rattle.std.specs.declared.option.Option.TheVariants.{Some, None}
use Rattle.std.specs.Global.{Vec}
use Rattle.fault_io.specs.Causes.{one_more}
use Rattle.fault_io.specs.Files.{File, Files, stored}

-- A source: the bytes that are left, how many it has given, the number of the next call, the numbers of the calls that are to fail, how often a call has failed, and whether it has answered that it has ended.
pub record SourceInMemory : Type 0 where
  pub bytes : List ℕ
  pub given : ℕ
  pub next_call : ℕ
  pub failing : List ℕ
  pub faults : ℕ
  pub ended : Bool

-- The number of the next call of a source: a call of one that has ended isn't counted.
abbrev pub called_next : Bool → ℕ → ℕ
called_next true next = next
called_next false next = one_more next

-- A sink: the bytes that it took, how many more it takes (none: there is no bound), the number of the next call, the numbers of the calls that are to fail, and how often a call has failed.
pub record SinkInMemory : Type 0 where
  pub bytes : List ℕ
  pub room : Option ℕ
  pub next_call : ℕ
  pub failing : List ℕ
  pub faults : ℕ

-- How many of n bytes fit into the room.
abbrev pub fitting_count : Option ℕ → ℕ → ℕ
fitting_count None n = n
fitting_count (Some room) n = min n room

-- The room that is left after n bytes more.
abbrev pub room_after : Option ℕ → ℕ → Option ℕ
room_after None n = None
room_after (Some room) n = Some (room - n)

-- A shelf: its files, the number of the next call, the numbers of the calls that are to fail, and how often a call has failed.
pub record ShelfInMemory : Type 0 where
  pub files : Files
  pub next_call : ℕ
  pub failing : List ℕ
  pub faults : ℕ

-- A link: the bytes that are left to read, those that were written, the child's status, the number of the next call, the numbers of the calls that are to fail, and how often a call has failed.
pub record LinkInMemory : Type 0 where
  pub bytes : List ℕ
  pub written : List ℕ
  pub status : ℤ
  pub next_call : ℕ
  pub failing : List ℕ
  pub faults : ℕ

-- No call of it has failed.
abbrev pub HasNoFault : LinkInMemory → Type 0
HasNoFault link = link.faults ≡ 0

-- A spawner: the links that are left, how many children were started, the number of the next call, the numbers of the calls that are to fail, and how often a call has failed.
pub record SpawnerInMemory : Type 0 where
  pub links : List LinkInMemory
  pub started : ℕ
  pub next_call : ℕ
  pub failing : List ℕ
  pub faults : ℕ

-- The files with these, one after the other: of two with one name the later stands.
unfoldable pub all_stored : Files → List File → Files
all_stored files [] = files
all_stored files (f ∷ more) = all_stored (stored files f.0 f.1) more

-- A file, where names and bytes are vectors.
abbrev pub seen_file : Vec ℕ × Vec ℕ → File
seen_file f = (f.0.items, f.1.items)
