-- Which faults may come where the first stage works, and what each says of the counts outside.
use Rattle.std.specs.Prelude.{◌≡◌, ◌⊎◌, ◌≤◌, ℕ, Result, Ok, Err, ⊤}
use Rattle.fault_io.specs.Causes.{Rose}
use Rattle.net_core.specs.declared.fault.WorkFault.{WorkFault}
use Rattle.net_core.specs.declared.fault.WorkFault.TheVariants as faults

-- ---- which faults may come

-- of the source, or want of memory
abbrev pub IsOfLine : WorkFault → Type 0
IsOfLine faults.Source = ⊤
IsOfLine faults.TooLong = ⊤
IsOfLine faults.OutOfMemory = ⊤
IsOfLine _ = ⊥

-- of the source or the shelf, or want of memory
abbrev pub IsOfReading : WorkFault → Type 0
IsOfReading faults.Source = ⊤
IsOfReading faults.TooLong = ⊤
IsOfReading faults.Shelf = ⊤
IsOfReading faults.OutOfMemory = ⊤
IsOfReading _ = ⊥

-- of the sink, or want of memory
abbrev pub IsOfPrinting : WorkFault → Type 0
IsOfPrinting faults.Sink = ⊤
IsOfPrinting faults.OutOfMemory = ⊤
IsOfPrinting _ = ⊥

-- of the shelf, or want of memory
abbrev pub IsOfStoring : WorkFault → Type 0
IsOfStoring faults.Shelf = ⊤
IsOfStoring faults.OutOfMemory = ⊤
IsOfStoring _ = ⊥

-- of the source, the shelf or the sink, or want of memory: none of the database, and nothing is unlawful
abbrev pub IsOfMonitor : WorkFault → Type 0
IsOfMonitor faults.Source = ⊤
IsOfMonitor faults.TooLong = ⊤
IsOfMonitor faults.Shelf = ⊤
IsOfMonitor faults.Sink = ⊤
IsOfMonitor faults.OutOfMemory = ⊤
IsOfMonitor _ = ⊥

-- none of the source: it may come when the line was read
abbrev pub IsLater : WorkFault → Type 0
IsLater faults.Source = ⊥
IsLater faults.TooLong = ⊥
IsLater _ = ⊤

-- ---- the counts

-- the count of the shelf rose with its own fault, and stayed with any other
abbrev pub ShelfSays : ℕ → ℕ → WorkFault → Type 0
ShelfSays before now faults.Shelf = Rose before now
ShelfSays before now _ = now ≡ before

-- it stayed with an answer
abbrev pub ShelfAnswers : {T : Type 0} → ℕ → ℕ → Result T WorkFault → Type 0
ShelfAnswers before now (Ok x) = now ≡ before
ShelfAnswers before now (Err fault) = ShelfSays before now fault

-- what an answer or a fault says of the count of the shelf, which never falls
pub record CountsShelf {T : Type 0} (before now : ℕ) (result : Result T WorkFault) : Type 0 where
  pub later : before ≤ now
  pub says : ShelfAnswers before now result

-- a count of the sink rose with its own fault, and both stayed with any other
abbrev pub SinkSays : ℕ → ℕ → ℕ → ℕ → WorkFault → Type 0
SinkSays before now stalls stalls' faults.Sink = Rose before now ⊎ Rose stalls stalls'
SinkSays before now stalls stalls' _ = (now ≡ before) × (stalls' ≡ stalls)

-- both stayed with an answer
abbrev pub SinkAnswers : {T : Type 0} → ℕ → ℕ → ℕ → ℕ → Result T WorkFault → Type 0
SinkAnswers before now stalls stalls' (Ok x) = (now ≡ before) × (stalls' ≡ stalls)
SinkAnswers before now stalls stalls' (Err fault) = SinkSays before now stalls stalls' fault

-- what an answer or a fault says of the counts of the sink, which never fall
pub record CountsSink {T : Type 0} (before now stalls stalls' : ℕ) (result : Result T WorkFault) : Type 0 where
  pub later : before ≤ now
  pub stalls_later : stalls ≤ stalls'
  pub says : SinkAnswers before now stalls stalls' result
