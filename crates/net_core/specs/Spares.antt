-- What a step leaves alone: counts that its fault doesn't name, what was written and stored before reading failed, and the source and the sink where it isn't the first stage's.
use Rattle.std.specs.Prelude.{◌≡◌, ℕ, Bool, List, Option, Result, Ok, Err, ⊤}
use Rattle.net_core.specs.declared.fault.WorkFault.{WorkFault}
use Rattle.net_core.specs.declared.fault.WorkFault.TheVariants as faults
use Rattle.net_core.specs.Known.{Outside}

-- how often the base, the shelf, the source and the sink have failed, and how often the sink took nothing
pub record Counts : Type 0 where
  pub base : ℕ
  pub shelf : ℕ
  pub source : ℕ
  pub sink : ℕ
  pub stalls : ℕ

abbrev pub counts : Outside → Counts
counts o = record { base = o.base_faults; shelf = o.shelf_faults; source = o.source_faults; sink = o.sink_faults; stalls = o.sink_stalls }

-- no count rose but that which the fault names: that of the source, those of the sink, that of the shelf, or that of the base where the disk failed. Any other fault names none
abbrev pub CountsOnlyBy : Outside → Outside → WorkFault → Type 0
CountsOnlyBy before after faults.Source = counts after ≡ record { base = before.base_faults; shelf = before.shelf_faults; source = after.source_faults; sink = before.sink_faults; stalls = before.sink_stalls }
CountsOnlyBy before after faults.Sink = counts after ≡ record { base = before.base_faults; shelf = before.shelf_faults; source = before.source_faults; sink = after.sink_faults; stalls = after.sink_stalls }
CountsOnlyBy before after faults.Shelf = counts after ≡ record { base = before.base_faults; shelf = after.shelf_faults; source = before.source_faults; sink = before.sink_faults; stalls = before.sink_stalls }
CountsOnlyBy before after faults.Disk = counts after ≡ record { base = after.base_faults; shelf = before.shelf_faults; source = before.source_faults; sink = before.sink_faults; stalls = before.sink_stalls }
CountsOnlyBy before after _ = counts after ≡ counts before

-- with an answer no count rose, and with a fault only that which it names
abbrev pub CountsOnly : {T : Type 0} → Outside → Outside → Result T WorkFault → Type 0
CountsOnly before after (Ok x) = counts after ≡ counts before
CountsOnly before after (Err fault) = CountsOnlyBy before after fault

-- nothing was written, stored or changed
pub record IsUnwritten (before after : Outside) : Type 0 where
  pub output : after.output ≡ before.output
  pub files : after.files ≡ before.files
  pub database : after.database ≡ before.database

-- where the source failed or the script is too long, nothing was written, stored or changed; and only the disk or a damaged page may leave another database
abbrev pub SparesBy : Outside → Outside → WorkFault → Type 0
SparesBy before after faults.Source = IsUnwritten before after
SparesBy before after faults.TooLong = IsUnwritten before after
SparesBy before after faults.Disk = ⊤
SparesBy before after (faults.Damaged file page) = ⊤
SparesBy before after _ = after.database ≡ before.database

-- what a fault spares
abbrev pub Spares : {T : Type 0} → Outside → Outside → Result T WorkFault → Type 0
Spares before after (Ok x) = ⊤
Spares before after (Err fault) = SparesBy before after fault

-- the source and the sink: the script, how much was given, whether it has ended, what was written, and their counts
pub record Ends : Type 0 where
  pub script : Option (List ℕ)
  pub given : ℕ
  pub source_faults : ℕ
  pub source_ended : Bool
  pub output : Option (List ℕ)
  pub sink_faults : ℕ
  pub sink_stalls : ℕ

abbrev pub ends : Outside → Ends
ends o = record { script = o.script; given = o.given; source_faults = o.source_faults; source_ended = o.source_ended; output = o.output; sink_faults = o.sink_faults; sink_stalls = o.sink_stalls }

-- the fault is none of the source, the sink or the script's length
abbrev pub IsNoFaultOfEnds : WorkFault → Type 0
IsNoFaultOfEnds faults.Source = ⊥
IsNoFaultOfEnds faults.Sink = ⊥
IsNoFaultOfEnds faults.TooLong = ⊥
IsNoFaultOfEnds _ = ⊤

-- an answer, or such a fault
abbrev pub IsInside : {T : Type 0} → Result T WorkFault → Type 0
IsInside (Ok x) = ⊤
IsInside (Err fault) = IsNoFaultOfEnds fault

-- the source and the sink are as they were, nothing was read, and no fault of theirs is answered
pub record LeavesEnds {T : Type 0} (heard heard' : ℕ) (before after : Outside) (result : Result T WorkFault) : Type 0 where
  pub same : ends after ≡ ends before
  pub unread : heard' ≡ heard
  pub inside : IsInside result
