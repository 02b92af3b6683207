-- What was read for one frame, piece by piece.
use Rattle.std.proofs.Common.{◌≡◌, sym, subst, ℕ, ◌+◌, ◌≤◌, List, [], ◌∷◌, ◌++◌, append-nil, append_assoc, Result, Ok, Err, length, arith, OnOk, IfErr}
use Rattle.std.specs.declared.option.Option.{Option}
use Rattle.std.proofs.KnownBytes.{Consumes-nil, Consumes-trans}
use Rattle.frame_codec.specs.declared.frame.Frame.{Frame}
use Rattle.frame_codec.specs.Reading.{read_on}
use Rattle.net_core.specs.declared.loop_fault.LoopFault.{LoopFault}
use Rattle.net_core.specs.declared.loop_fault.LoopFault.TheVariants as fault
use Rattle.net_core.specs.declared.incoming.Incoming.{Incoming}
use Rattle.net_core.specs.Incoming.{Asked, GotPiece, Holds, NoFrame, PieceDone, inlet}
use Rattle.net_core.specs.Sides.{HasRead, IsNeeded, most_piece}
use Rattle.net_core.proofs.Readers.{needed_later, needed_piece, read_more}

-- ---- one piece

-- a piece was read, and the reader holds it or wants memory
pub read_piece : (taken : List Frame) (bytes piece : List ℕ) (known known' : Option (List ℕ)) (failed : LoopFault) (s s' : Incoming) (result : Result (Unit {0}) LoopFault) → Holds taken bytes s → HasRead known piece known' → length piece ≤ most_piece
    → OnOk result (Holds taken (bytes ++ piece) s') → IfErr result (λ f. f ≡ fault.OutOfMemory) → PieceDone taken bytes known known' failed s' result
read_piece taken bytes piece known known' failed s s' (Ok x) h heard short ok err = record { piece = piece; heard = heard; short = short; got = ok }
read_piece taken bytes piece known known' failed s s' (Err f) h heard short ok err = record {
  piece = piece;
  heard = heard;
  short = short;
  got = (read_on s.reader piece, record { is = read_more taken bytes s piece h; why = subst (λ (x : LoopFault). NoFrame (inlet taken (bytes ++ piece) known' (read_on s.reader piece)) failed x) (sym err) tt });
}

-- ---- pieces, one after the other, for one frame

-- what was read so far for one frame more
pub record SoFar (taken : List Frame) (bytes : List ℕ) (known known' : Option (List ℕ)) (s : Incoming) : Type 0 where
  pub more : List ℕ
  pub heard : HasRead known more known'
  pub holds : Holds taken (bytes ++ more) s
  pub needed : IsNeeded (length taken) bytes → IsNeeded (length taken + 1) (bytes ++ more)

pub begins : (taken : List Frame) (bytes : List ℕ) (known : Option (List ℕ)) (s : Incoming) → Holds taken bytes s → SoFar taken bytes known known s
begins taken bytes known s h = record {
  more = [];
  heard = Consumes-nil known;
  holds = subst (λ (all : List ℕ). Holds taken all s) (sym (append-nil bytes)) h;
  needed = λ was. subst (IsNeeded (length taken + 1)) (sym (append-nil bytes)) (needed_later (length taken) (length taken + 1) bytes (omega arith) was);
}

-- the piece behind what was read before
needed_on : (taken : List Frame) (bytes more piece : List ℕ) (s : Incoming) → Holds taken (bytes ++ more) s → s.reader.frames ≡ [] → length piece ≤ most_piece → IsNeeded (length taken + 1) (bytes ++ (more ++ piece))
needed_on taken bytes more piece s h none short = subst (IsNeeded (length taken + 1)) (append_assoc bytes more piece) (needed_piece taken (bytes ++ more) s piece h none short)

pub goes_on : (taken : List Frame) (bytes : List ℕ) (known known' known'' : Option (List ℕ)) (failed : LoopFault) (s s' : Incoming) (x : Unit {0}) → SoFar taken bytes known known' s → s.reader.frames ≡ []
    → ((taken : List Frame) (bytes : List ℕ) → Holds taken bytes s → PieceDone taken bytes known' known'' failed s' (Ok x)) → SoFar taken bytes known known'' s'
goes_on taken bytes known known' known'' failed s s' x was none done =
    let p = done taken (bytes ++ was.more) was.holds in
    record {
      more = was.more ++ p.piece;
      heard = Consumes-trans known known' known'' was.more p.piece was.heard p.heard;
      holds = subst (λ (all : List ℕ). Holds taken all s') (append_assoc bytes was.more p.piece) p.got;
      needed = λ _. needed_on taken bytes was.more p.piece s was.holds none p.short;
    }

pub got_frame : (taken : List Frame) (bytes : List ℕ) (known known' : Option (List ℕ)) (failed : LoopFault) (s s' : Incoming) (frame : Frame) → SoFar taken bytes known known' s
    → ((taken : List Frame) (bytes : List ℕ) → Holds taken bytes s → Holds (taken ++ frame ∷ []) bytes s') → Asked taken bytes known known' failed s' (Ok frame)
got_frame taken bytes known known' failed s s' frame was next = record { more = was.more; heard = was.heard; needed = was.needed; got = next taken (bytes ++ was.more) was.holds }

pub got_none : (taken : List Frame) (bytes : List ℕ) (known known' known'' : Option (List ℕ)) (failed f : LoopFault) (s s' : Incoming) → SoFar taken bytes known known' s → s.reader.frames ≡ []
    → ((taken : List Frame) (bytes : List ℕ) → Holds taken bytes s → PieceDone taken bytes known' known'' failed s' (Err f)) → Asked taken bytes known known'' failed s' (Err f)
got_none taken bytes known known' known'' failed f s s' was none done =
    let p = done taken (bytes ++ was.more) was.holds in
    record {
      more = was.more ++ p.piece;
      heard = Consumes-trans known known' known'' was.more p.piece was.heard p.heard;
      needed = λ _. needed_on taken bytes was.more p.piece s was.holds none p.short;
      got = subst (λ (all : List ℕ). GotPiece taken all known'' failed s' (Err f)) (append_assoc bytes was.more p.piece) p.got;
    }
