-- A source that keeps a piece of another.
use Rattle.std.specs.Prelude.{◌≡◌, ◌⊎◌, ◌+◌, ◌<◌, ◌≤◌, Bool, ℕ, List, [], length, min}

-- a piece of a source, how many bytes were given on, whether it has ended, and the source behind the piece
pub record Kept (S : Type 0) : Type 0 where
  pub piece : List ℕ
  pub given : ℕ
  pub ended : Bool
  pub source : S

-- the bytes of a script, at most
abbrev pub most_bytes : ℕ
most_bytes = 16777216

-- the piece has fewer than 4,096 bytes; and where there is one, with it no more was read than a script may have, and no call of the source has failed
abbrev pub IsSmall : ℕ → List ℕ → ℕ → Type 0
IsSmall given piece faults = (length piece ≤ 4095) × ((piece ≡ []) ⊎ ((given + length piece ≤ most_bytes) × (faults ≡ 0)))

-- a new piece: a byte, or fewer bytes than might be read, of a source that hasn't failed
abbrev pub IsNewPiece : List ℕ → ℕ → ℕ → Type 0
IsNewPiece new most faults = (length new ≤ 1) ⊎ ((length new ≤ 4096) × (length new < most) × (faults ≡ 0))

-- the piece is as it was, or a new one
abbrev pub IsRefilled : List ℕ → List ℕ → ℕ → ℕ → Type 0
IsRefilled old new most faults = (new ≡ old) ⊎ IsNewPiece new most faults

-- so many bytes were given on of the piece, or of a new one: all of it, or as many as were wanted; this is left of it
abbrev pub IsGivenOn : List ℕ → ℕ → ℕ → ℕ → ℕ → List ℕ → Type 0
IsGivenOn old most faults wanted n new = (mid : List ℕ) × IsRefilled old mid most faults × (n ≡ min (length mid) wanted) × (length mid ≡ n + length new)
