-- The streams on both sides of a stage: what was read of them, and what was written to them.
use Rattle.std.specs.Prelude.{◌≡◌, ◌⊎◌, ℕ, ◌<◌, ◌≤◌, List, [], ◌++◌, length}
use Rattle.std.specs.declared.option.Option.{Option}
use Rattle.std.specs.Io.KnownBytes.{Appends, Consumes}
use Rattle.fault_io.specs.Causes.{Rose}
use Rattle.fault_io.specs.Known.{GrewBy, IsFront}
use Rattle.frame_codec.specs.Reading.{read}

-- ---- what is known

-- where bytes are written to: those that were, where they are known; how often writing failed, and how often it took nothing
pub record Outlet : Type 0 where
  pub written : Option (List ℕ)
  pub faults : ℕ
  pub stalls : ℕ

-- one side: the bytes that are left to read, where they are known; how often reading failed; and where bytes are written to
pub record Side : Type 0 where
  pub left : Option (List ℕ)
  pub faults : ℕ
  pub out : Outlet

-- both sides
pub record Sides : Type 0 where
  pub left : Side
  pub right : Side

-- an outlet, by what an object tells
abbrev pub outlet : {O : Type 0} → (O → Option (List ℕ)) → (O → ℕ) → (O → ℕ) → O → Outlet
outlet written faults stalls o = record { written = written o; faults = faults o; stalls = stalls o }

-- both sides of a stage, by what a source and a sink on the left and a link on the right tell
abbrev pub sides : {I O L : Type 0} → (I → Option (List ℕ)) → (I → ℕ) → (O → Option (List ℕ)) → (O → ℕ) → (O → ℕ) → (L → Option (List ℕ)) → (L → Option (List ℕ)) → (L → ℕ) → (L → ℕ) → I → O → L → Sides
sides left_in in_faults left_out out_faults out_stalls right_in right_out right_faults right_stalls i o l = record {
  left = record { left = left_in i; faults = in_faults i; out = outlet left_out out_faults out_stalls o };
  right = record { left = right_in l; faults = right_faults l; out = outlet right_out right_faults right_stalls l };
}

-- ---- counts

-- no count of an outlet fell
pub record OutletLater (before after : Outlet) : Type 0 where
  pub faults : before.faults ≤ after.faults
  pub stalls : before.stalls ≤ after.stalls

-- no count of a side fell
pub record SideLater (before after : Side) : Type 0 where
  pub faults : before.faults ≤ after.faults
  pub out : OutletLater before.out after.out

-- no count of an outlet rose
pub record SameCounts (before after : Outlet) : Type 0 where
  pub faults : after.faults ≡ before.faults
  pub stalls : after.stalls ≡ before.stalls

-- writing failed, or took nothing
abbrev pub Faltered : Outlet → Outlet → Type 0
Faltered before after = Rose before.faults after.faults ⊎ Rose before.stalls after.stalls

-- ---- what was read and written

-- what is left, where it is known, was these bytes, and then what is left now
abbrev pub HasRead : Option (List ℕ) → List ℕ → Option (List ℕ) → Type 0
HasRead before bytes after = Consumes before after bytes

-- a front of these bytes was written, and all of them unless writing failed or took nothing
pub record Wrote (before after : Outlet) (bytes : List ℕ) : Type 0 where
  pub front : GrewBy before.written after.written (λ more. IsFront more bytes)
  pub all : Appends before.written after.written bytes ⊎ Faltered before after

-- the bytes of one piece, at most
abbrev pub most_piece : ℕ
most_piece = 4096

-- no piece was read in vain: none was, or of the bytes before the last one fewer frames are whole than were asked for
abbrev pub IsNeeded : ℕ → List ℕ → Type 0
IsNeeded asked bytes = (bytes ≡ []) ⊎ ((before : List ℕ) × (piece : List ℕ) × (bytes ≡ before ++ piece) × (length piece ≤ most_piece) × (length (read 0 before).frames < asked))
