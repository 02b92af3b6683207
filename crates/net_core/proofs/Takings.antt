-- What taking the next frame comes to.
use Rattle.std.proofs.Common.{◌≡◌, refl, sym, ap, ◌∙◌, ℕ, List, [], ◌∷◌, ◌++◌, Result, Ok, Err, inl, inr}
use Rattle.std.specs.Prelude.{Contains}
use Rattle.std.specs.declared.option.Option.{Option}
use Rattle.frame_codec.specs.declared.frame.Frame.{Frame}
use Rattle.frame_codec.specs.Reading.{behind_frames, read}
use Rattle.frame_codec.proofs.Unrolled.{behind_both}
use Rattle.net_core.specs.declared.steps.Moved.{Moved}
use Rattle.net_core.specs.declared.steps.Moved.TheVariants.{Stepped, Blocked}
use Rattle.network_meaning.specs.Network.{LocalState}
use Rattle.quel_network.specs.Sorts.{User, quel_sorts}
use Rattle.net_core.specs.declared.loop_fault.LoopFault.{LoopFault}
use Rattle.net_core.specs.declared.loop_fault.LoopFault.TheVariants as fault
use Rattle.net_core.specs.declared.incoming.Incoming.{Incoming}
use Rattle.net_core.specs.LoopFaults.{IsPlain, fault_frame, told_statuses}
use Rattle.net_core.specs.Incoming.{Asked, Holds, Inlet, IsUntold, NoFrame, inlet}
use Rattle.net_core.specs.Taking.{TakeDone, TakeFailed, TookFrame}

none_told : (i : Inlet) → i.unread.frames ≡ [] → IsUntold i
none_told i e status (later, is, c) = cc

first_told : (i : Inlet) (frame : Frame) (rest : List Frame) → i.unread.frames ≡ frame ∷ rest → IsPlain frame → IsUntold i
first_told i frame rest e plain status (later, is, c) = plain status c (let same : frame ∷ rest ≡ fault_frame status ∷ later = sym e ∙ is in cc)

fails : (serves : User → Type 0) (s : LocalState quel_sorts) (i : Inlet) (failed f : LoopFault) → NoFrame i failed f → TakeFailed serves s i failed f
fails serves s i failed (fault.BadFrame at) n = (inl n, λ e. none_told i n.0)
fails serves s i failed fault.LeftRead n = n
fails serves s i failed fault.Right n = n
fails serves s i failed fault.EndedEarly n = n
fails serves s i failed fault.Spent n = n
fails serves s i failed fault.OutOfMemory n = tt
fails serves s i failed (fault.Told status) n = absurd n
fails serves s i failed fault.LeftWrite n = absurd n
fails serves s i failed (fault.Work f) n = absurd n

-- no frame came
pub no_frame : (serves : User → Type 0) (s s' : LocalState quel_sorts) (taken : List Frame) (bytes : List ℕ) (known known' : Option (List ℕ)) (failed f : LoopFault) (i' : Incoming) →
    Asked taken bytes known known' failed i' (Err f) → TakeDone serves s s' taken bytes known known' failed i' (Err f)
no_frame serves s s' taken bytes known known' failed f i' a = record {
  more = a.more;
  heard = a.heard;
  needed = a.needed;
  took = (a.got.0, a.got.1.is, fails serves s (inlet taken (bytes ++ a.more) known' a.got.0) failed f a.got.1.why);
}

-- the frame that came is unread again
unread : (taken : List Frame) (all : List ℕ) (frame : Frame) (i' : Incoming) → Holds (taken ++ frame ∷ []) all i' → behind_frames taken (behind_frames (frame ∷ []) i'.reader) ≡ read 0 all
unread taken all frame i' h = sym (behind_both taken (frame ∷ []) i'.reader) ∙ h.is

-- a frame came, and the stage took it or not
pub with_frame : (serves : User → Type 0) (s s' : LocalState quel_sorts) (taken : List Frame) (bytes : List ℕ) (known known' : Option (List ℕ)) (failed : LoopFault) (i i' : Incoming) (frame : Frame) (result : Result Moved LoopFault) →
    Holds taken bytes i → Asked taken bytes known known' failed i' (Ok frame) → TookFrame serves s frame s' i.place result → (failed ≡ fault.Right → IsPlain frame) → TakeDone serves s s' taken bytes known known' failed i' result
with_frame serves s s' taken bytes known known' failed i i' frame (Ok Stepped) h a t plain = record { more = a.more; heard = a.heard; needed = a.needed; took = (frame, a.got, t, plain) }
with_frame serves s s' taken bytes known known' failed i i' frame (Ok Blocked) h a t plain = absurd t
with_frame serves s s' taken bytes known known' failed i i' frame (Err (fault.BadFrame at)) h a t plain = record {
  more = a.more;
  heard = a.heard;
  needed = a.needed;
  took = (behind_frames (frame ∷ []) i'.reader, unread taken _ frame i' a.got, (inr (frame, i'.reader.frames, refl, t.0 ∙ h.place, t.1), λ e. first_told (inlet taken (bytes ++ a.more) known' (behind_frames (frame ∷ []) i'.reader)) frame i'.reader.frames refl (plain e)));
}
with_frame serves s s' taken bytes known known' failed i i' frame (Err fault.OutOfMemory) h a t plain = record {
  more = a.more;
  heard = a.heard;
  needed = a.needed;
  took = (behind_frames (frame ∷ []) i'.reader, unread taken _ frame i' a.got, tt);
}
with_frame serves s s' taken bytes known known' failed i i' frame (Err fault.LeftRead) h a t plain = absurd t
with_frame serves s s' taken bytes known known' failed i i' frame (Err fault.LeftWrite) h a t plain = absurd t
with_frame serves s s' taken bytes known known' failed i i' frame (Err fault.Right) h a t plain = absurd t
with_frame serves s s' taken bytes known known' failed i i' frame (Err fault.EndedEarly) h a t plain = absurd t
with_frame serves s s' taken bytes known known' failed i i' frame (Err fault.Spent) h a t plain = absurd t
with_frame serves s s' taken bytes known known' failed i i' frame (Err (fault.Told status)) h a t plain = absurd t
with_frame serves s s' taken bytes known known' failed i i' frame (Err (fault.Work f)) h a t plain = absurd t

-- a Fault frame came
pub told_frame : (serves : User → Type 0) (s s' : LocalState quel_sorts) (taken : List Frame) (bytes : List ℕ) (known known' : Option (List ℕ)) (i' : Incoming) (frame : Frame) (status : ℕ) →
    Asked taken bytes known known' fault.Right i' (Ok frame) → frame ≡ fault_frame status → Contains told_statuses status → TakeDone serves s s' taken bytes known known' fault.Right i' (Err (fault.Told status))
told_frame serves s s' taken bytes known known' i' frame status a e n = record {
  more = a.more;
  heard = a.heard;
  needed = a.needed;
  took = (behind_frames (frame ∷ []) i'.reader, unread taken _ frame i' a.got, (refl, (i'.reader.frames, ap (λ (f : Frame). f ∷ i'.reader.frames) e, n)));
}
