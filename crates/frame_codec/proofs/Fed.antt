-- What a feed answers.
use Rattle.std.proofs.Common.{◌≡◌, inl, inr, refl, sym, ap, subst, ◌∙◌, ℕ, ◌+◌, ◌≤◌, length, arith, Some, None, Ok, Err, List, [], ◌++◌, OnOk, OnErr, IfErr, IsErrOf}
use Rattle.std.specs.declared.option.Option.{Option}
use Rattle.std.specs.declared.result.Result.{Result}
use Rattle.frame_codec.specs.declared.fault.FrameFault.{FrameFault}
use Rattle.frame_codec.specs.declared.fault.FrameFault.TheVariants.{BadKind as bad_kind_at, TooLong as too_long_at, OutOfMemory as no_memory}
use Rattle.frame_codec.specs.declared.frame.Frame.{Frame}
use Rattle.frame_codec.specs.declared.fronts.Front.TheVariants.{Part, BadKind, TooLong}
use Rattle.frame_codec.specs.Reading.{IsFed, Reading, answer_of, behind_frames, front_of, read, read_on}
use Rattle.frame_codec.proofs.Pieces.{on_within, read_wants_none}
use Rattle.frame_codec.proofs.Stops.{same_parts, stopped_part, stopped_bad, stopped_long}

whole_parts : (frames : List Frame) (left : List ℕ) (place : ℕ) (fault : Option FrameFault) (piece : List ℕ) → fault ≡ None
    → read_on (record { frames = frames; left = left; place = place; fault = fault }) piece ≡ behind_frames frames (read place (left ++ piece))
whole_parts frames left place None piece e = refl
whole_parts frames left place (Some fault) piece e = cc

-- no fault stood there before
pub read_on_whole : (old : Reading) (piece : List ℕ) → old.fault ≡ None → read_on old piece ≡ behind_frames old.frames (read old.place (old.left ++ piece))
read_on_whole old piece e = whole_parts old.frames old.left old.place old.fault piece e

-- no frame is whole with the piece
pub fed_part : (old new : Reading) (piece : List ℕ) (result : Result (Unit {0}) FrameFault) → old.fault ≡ None → front_of (old.left ++ piece) ≡ Part
    → OnOk result (new ≡ record old { left = old.left ++ piece }) → OnErr result (new ≡ old) → IfErr result (λ fault. fault ≡ no_memory) → IsFed old piece result new
fed_part old new piece (Ok u) whole part kept same memory =
    inr (
      sym (ap answer_of (ap (λ (r : Reading). r.fault) kept ∙ whole)),
      kept
          ∙ same_parts old.frames (old.left ++ piece) (old.left ++ piece) old.place old.place old.fault None refl refl whole
          ∙ sym (stopped_part old.frames old.place (old.left ++ piece) part)
          ∙ sym (read_on_whole old piece whole),
    )
fed_part old new piece (Err fault) whole part kept same memory = inl (ap Err memory, same)

-- a byte that is no kind stands at the front
pub fed_bad : (old new : Reading) (piece : List ℕ) (result : Result (Unit {0}) FrameFault) → old.fault ≡ None → front_of (old.left ++ piece) ≡ BadKind
    → result ≡ Err (bad_kind_at old.place) → new ≡ record old { left = []; fault = Some (bad_kind_at old.place) } → IsFed old piece result new
fed_bad old new piece result whole bad answer broken =
    inr (
      answer ∙ sym (ap answer_of (ap (λ (r : Reading). r.fault) broken)),
      broken ∙ sym (stopped_bad old.frames old.place (old.left ++ piece) bad) ∙ sym (read_on_whole old piece whole),
    )

-- a length that no frame has stands at the front
pub fed_long : (old new : Reading) (piece : List ℕ) (result : Result (Unit {0}) FrameFault) → old.fault ≡ None → front_of (old.left ++ piece) ≡ TooLong
    → result ≡ Err (too_long_at (old.place + 1)) → new ≡ record old { left = []; fault = Some (too_long_at (old.place + 1)) } → IsFed old piece result new
fed_long old new piece result whole long answer broken =
    inr (
      answer ∙ sym (ap answer_of (ap (λ (r : Reading). r.fault) broken)),
      broken ∙ sym (stopped_long old.frames old.place (old.left ++ piece) long) ∙ sym (read_on_whole old piece whole),
    )

answered_memory : (fault : Option FrameFault) → answer_of fault ≡ Err no_memory → fault ≡ Some no_memory
answered_memory None e = cc
answered_memory (Some fault) e = cc

-- want of memory changes nothing
pub fed_memory : (old new : Reading) (piece : List ℕ) (result : Result (Unit {0}) FrameFault) → old.fault ≡ None → IsFed old piece result new → IsErrOf result no_memory → new ≡ old
fed_memory old new piece result whole fed e = elim fed [
  | inl want ↦ want.1
  | inr read ↦
      absurd (
      read_wants_none old.place (old.left ++ piece) (
      sym (ap (λ (r : Reading). r.fault) (read.1 ∙ read_on_whole old piece whole)) ∙ answered_memory new.fault (sym read.0 ∙ e)
      )
      )
]

-- places never lie behind the bytes that were fed
pub fed_counted : (old new : Reading) (piece : List ℕ) (result : Result (Unit {0}) FrameFault) → IsFed old piece result new
    → new.place + length new.left ≤ old.place + length old.left + length piece
fed_counted old new piece result fed = elim fed [
  | inl want ↦ subst (λ (r : Reading). r.place + length r.left ≤ old.place + length old.left + length piece) (sym want.1) (omega arith)
  | inr read ↦ subst (λ (r : Reading). r.place + length r.left ≤ old.place + length old.left + length piece) (sym read.1) (on_within old piece)
]
