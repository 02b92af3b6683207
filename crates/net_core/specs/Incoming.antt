-- What comes from one side: what a reader of it holds, and why it has no frame.
use Rattle.std.specs.Prelude.{◌≡◌, ℕ, ◌+◌, ◌-◌, ◌^◌, ◌≤◌, List, [], ◌∷◌, ◌++◌, length, Some, None, Contains, Result, Ok, Err, ⊤}
use Rattle.std.specs.declared.option.Option.{Option}
use Rattle.std.specs.Io.KnownBytes.{IsAtEnd}
use Rattle.frame_codec.specs.declared.fault.FrameFault.{FrameFault}
use Rattle.frame_codec.specs.declared.fault.FrameFault.TheVariants.{BadKind, TooLong}
use Rattle.frame_codec.specs.declared.frame.Frame.{Frame}
use Rattle.frame_codec.specs.Frames.{frames_bytes}
use Rattle.frame_codec.specs.Reading.{Reading, behind_frames, read}
use Rattle.net_core.specs.Causes.{MayNotTake}
use Rattle.network_meaning.specs.Network.{LocalState}
use Rattle.quel_network.specs.Quel.{quel}
use Rattle.quel_network.specs.Sorts.{User, quel_sorts}
use Rattle.net_core.specs.declared.loop_fault.LoopFault.{LoopFault}
use Rattle.net_core.specs.declared.loop_fault.LoopFault.TheVariants as fault
use Rattle.net_core.specs.declared.incoming.Incoming.{Incoming}
use Rattle.net_core.specs.LoopFaults.{fault_frame, told_statuses}
use Rattle.net_core.specs.Sides.{HasRead, IsNeeded, most_piece}

-- ---- what a reader holds

-- at this byte stands what is no frame
abbrev pub StandsAt : Option FrameFault → ℕ → Type 0
StandsAt (Some (BadKind place)) at = at ≡ place
StandsAt (Some (TooLong place)) at = at ≡ place
StandsAt _ at = ⊥

-- the reader's fault and its place
abbrev pub IsFaultAt : Option FrameFault → Option ℕ → Type 0
IsFaultAt f None = f ≡ None
IsFaultAt f (Some at) = StandsAt f at

-- of these bytes these frames were taken, and the reader holds the rest; it has counted the bytes, and those of the frames
pub record Holds (taken : List Frame) (bytes : List ℕ) (s : Incoming) : Type 0 where
  pub is : behind_frames taken s.reader ≡ read 0 bytes
  pub read : s.read ≡ length bytes
  pub place : s.place ≡ length (frames_bytes taken)
  pub fault : IsFaultAt s.reader.fault s.fault

-- the reader holds the rest of some bytes, behind some frames
abbrev pub IsHeld : Incoming → Type 0
IsHeld s = (taken : List Frame) × (bytes : List ℕ) × Holds taken bytes s

-- ---- why there is no frame

-- what came from one side: the frames that were taken, all bytes that were read, how they are read behind those frames, and what is left of the stream where it is known
pub record Inlet : Type 0 where
  pub taken : List Frame
  pub bytes : List ℕ
  pub unread : Reading
  pub left : Option (List ℕ)

-- no frame is unread, and nothing is left of the stream
abbrev pub IsOver : Inlet → Type 0
IsOver i = (i.unread.frames ≡ []) × IsAtEnd i.left

-- no frame is unread, and at this byte stands what is none
abbrev pub IsBroken : Inlet → ℕ → Type 0
IsBroken i at = (i.unread.frames ≡ []) × StandsAt i.unread.fault at

-- the first unread frame is one that the stage may not take, and this is its first byte
abbrev pub IsRefused : (User → Type 0) → LocalState quel_sorts → Inlet → ℕ → Type 0
IsRefused serves state i at = (frame : Frame) × (later : List Frame) × (i.unread.frames ≡ frame ∷ later) × (at ≡ length (frames_bytes i.taken)) × ((user : User) → serves user → MayNotTake (quel user) state frame)

-- the first unread frame is a Fault frame that tells this status
abbrev pub IsTold : Inlet → ℕ → Type 0
IsTold i status = (later : List Frame) × (i.unread.frames ≡ fault_frame status ∷ later) × Contains told_statuses status

-- the first unread frame is none that tells a status
abbrev pub IsUntold : Inlet → Type 0
IsUntold i = (status : ℕ) → IsTold i status → ⊥

-- from so many bytes on no more are read
abbrev pub most_read : ℕ
most_read = 2 ^ 64 - 65536

-- no more bytes are read
abbrev pub IsTooMuch : Inlet → Type 0
IsTooMuch i = most_read ≤ length i.bytes

-- the reader reads no further, by this fault: what stands there is no frame, or too much was read
abbrev pub IsHalted : Incoming → LoopFault → Type 0
IsHalted s (fault.BadFrame at) = s.fault ≡ Some at
IsHalted s fault.Spent = most_read ≤ s.read
IsHalted s _ = ⊥

-- no frame came, by this fault, where a failed read answers that one
abbrev pub NoFrame : Inlet → LoopFault → LoopFault → Type 0
NoFrame i failed fault.LeftRead = failed ≡ fault.LeftRead
NoFrame i failed fault.Right = failed ≡ fault.Right
NoFrame i failed fault.EndedEarly = IsOver i
NoFrame i failed fault.Spent = IsTooMuch i
NoFrame i failed (fault.BadFrame at) = IsBroken i at
NoFrame i failed fault.OutOfMemory = ⊤
NoFrame i failed _ = ⊥

-- what is behind these frames is unread, and no frame came
pub record Lacks (i : Inlet) (failed fault : LoopFault) : Type 0 where
  pub is : behind_frames i.taken i.unread ≡ read 0 i.bytes
  pub why : NoFrame i failed fault

-- the inlet where this is unread
abbrev pub inlet : List Frame → List ℕ → Option (List ℕ) → Reading → Inlet
inlet taken bytes left unread = record { taken = taken; bytes = bytes; unread = unread; left = left }

-- ---- a piece, and a frame

-- the reader holds the piece too, or no frame came
abbrev pub GotPiece : List Frame → List ℕ → Option (List ℕ) → LoopFault → Incoming → Result (Unit {0}) LoopFault → Type 0
GotPiece taken all left failed s' (Ok x) = Holds taken all s'
GotPiece taken all left failed s' (Err f) = (unread : Reading) × Lacks (inlet taken all left unread) failed f

-- a piece was read behind these bytes, or why not
pub record PieceDone (taken : List Frame) (bytes : List ℕ) (known known' : Option (List ℕ)) (failed : LoopFault) (s' : Incoming) (result : Result (Unit {0}) LoopFault) : Type 0 where
  pub piece : List ℕ
  pub heard : HasRead known piece known'
  pub short : length piece ≤ most_piece
  pub got : GotPiece taken (bytes ++ piece) known' failed s' result

-- the frame is the next one, or none came
abbrev pub GotFrame : List Frame → List ℕ → Option (List ℕ) → LoopFault → Incoming → Result Frame LoopFault → Type 0
GotFrame taken all left failed s' (Ok frame) = Holds (taken ++ frame ∷ []) all s'
GotFrame taken all left failed s' (Err f) = (unread : Reading) × Lacks (inlet taken all left unread) failed f

-- one frame more was asked for: what was read for it behind these bytes, and what came
pub record Asked (taken : List Frame) (bytes : List ℕ) (known known' : Option (List ℕ)) (failed : LoopFault) (s' : Incoming) (result : Result Frame LoopFault) : Type 0 where
  pub more : List ℕ
  pub heard : HasRead known more known'
  pub needed : IsNeeded (length taken) bytes → IsNeeded (length taken + 1) (bytes ++ more)
  pub got : GotFrame taken (bytes ++ more) known' failed s' result
