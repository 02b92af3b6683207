-- What a stream of bytes is read as: the whole frames at its front, and what is left behind them.
use Rattle.std.specs.Prelude.{◌≡◌, ◌⊎◌, ℕ, zero, suc, ◌+◌, ◌*◌, nat_le, List, [], ◌∷◌, ◌++◌, Option, Some, None, Result, Ok, Err, length, take, drop, if◌then◌else◌}
use Rattle.frame_codec.specs.declared.fault.FrameFault.{FrameFault}
use Rattle.frame_codec.specs.declared.fault.FrameFault.TheVariants.{BadKind as bad_kind_at, TooLong as too_long_at, OutOfMemory as no_memory}
use Rattle.frame_codec.specs.declared.frame.Frame.{Frame}
use Rattle.frame_codec.specs.declared.fronts.Front.{Front}
use Rattle.frame_codec.specs.declared.fronts.Front.TheVariants.{Whole, Part, BadKind, TooLong}
use Rattle.frame_codec.specs.Frames.{has_length, is_kind}
use Rattle.frame_codec.specs.Messages.{frame}

-- ---- the front of bytes

-- what a header begins, with this kind, this length, and so many bytes behind it
abbrev pub front_of_length : ℕ → ℕ → ℕ → Front
front_of_length kind n behind = if has_length kind n then (if nat_le n behind then Whole kind n else Part) else TooLong

-- what stands at the front of bytes: a whole frame of a kind and a length; a part of one, also where nothing stands there;
-- a byte that is no kind; a length that its kind doesn't have
unfoldable pub front_of : List ℕ → Front
front_of [] = Part
front_of (kind ∷ []) = if is_kind kind then Part else BadKind
front_of (kind ∷ high ∷ []) = if is_kind kind then Part else BadKind
front_of (kind ∷ high ∷ low ∷ payload) = if is_kind kind then front_of_length kind (256 * high + low) (length payload) else BadKind

-- ---- readings

-- what bytes are read as: the whole frames, the bytes that are left behind them, the place in the stream at which those
-- begin, and the fault that stands there, if one does; behind a fault nothing is left
pub record Reading : Type 0 where
  pub frames : List Frame
  pub left : List ℕ
  pub place : ℕ
  pub fault : Option FrameFault

-- no frame is whole yet
abbrev pub left_at : ℕ → List ℕ → Reading
left_at place bytes = record { frames = []; left = bytes; place = place; fault = None }

-- a fault, before any frame
abbrev pub broken_at : ℕ → FrameFault → Reading
broken_at place fault = record { frames = []; left = []; place = place; fault = Some fault }

-- the reading with these frames before its own
abbrev pub behind_frames : List Frame → Reading → Reading
behind_frames frames reading = record reading { frames = frames ++ reading.frames }

-- what bytes at a place are read as, by what stands at their front, where whatever follows a whole frame is read so
abbrev pub read_by : (ℕ → List ℕ → Reading) → ℕ → List ℕ → Front → Reading
read_by rest place bytes (Whole kind n) = behind_frames (frame kind (take n (drop 3 bytes)) ∷ []) (rest (place + (3 + n)) (drop (3 + n) bytes))
read_by rest place bytes Part = left_at place bytes
read_by rest place bytes BadKind = broken_at place (bad_kind_at place)
read_by rest place bytes TooLong = broken_at place (too_long_at (place + 1))

-- what bytes at a place are read as, up to so many frames
abbrev pub read_upto : ℕ → ℕ → List ℕ → Reading
read_upto zero place bytes = left_at place bytes
read_upto (suc n) place bytes = read_by (read_upto n) place bytes (front_of bytes)

-- what bytes at a place are read as; they have fewer frames than bytes
unfoldable pub read : ℕ → List ℕ → Reading
read place bytes = read_upto (length bytes) place bytes

-- what is read where a piece follows: its frames behind those that there were; nothing more behind a fault
abbrev pub read_on : Reading → List ℕ → Reading
read_on reading piece = elim reading.fault [ None ↦ behind_frames reading.frames (read reading.place (reading.left ++ piece)) | Some fault ↦ reading ]

-- ---- answers

-- what a feed answers where the reading has this fault, or none
abbrev pub answer_of : Option FrameFault → Result (Unit {0}) FrameFault
answer_of None = Ok tt
answer_of (Some fault) = Err fault

-- a feed found no memory and changed nothing, or it read on, and answered by the fault
abbrev pub IsFed : Reading → List ℕ → Result (Unit {0}) FrameFault → Reading → Type 0
IsFed old piece result new = ((result ≡ Err no_memory) × (new ≡ old)) ⊎ ((result ≡ answer_of new.fault) × (new ≡ read_on old piece))
