-- One side of a run that goes on, behind one step more.
use Rattle.std.proofs.Common.{◌≡◌, refl, sym, ap, subst, ◌∙◌, ℕ, ◌+◌, ◌≤◌, List, [], ◌∷◌, ◌++◌, append-nil, append_assoc, length, length-append, arith, inl, inr}
use Rattle.std.specs.declared.option.Option.{Option}
use Rattle.std.specs.List.{flat_map}
use Rattle.std.specs.Io.KnownBytes.{Appends}
use Rattle.std.proofs.KnownBytes.{Appends-trans, Consumes-trans}
use Rattle.std.proofs.lemmas.List.Concat.{flat_map-append}
use Rattle.fault_io.specs.Causes.{Rose}
use Rattle.fault_io.specs.Known.{GrewBy, IsFront}
use Rattle.frame_codec.specs.declared.frame.Frame.{Frame}
use Rattle.frame_codec.specs.Frames.{frame_bytes, frames_bytes}
use Rattle.frame_codec.specs.Reading.{Reading, behind_frames, read}
use Rattle.network_meaning.specs.Network.{LocalState}
use Rattle.quel_network.specs.Sorts.{quel_sorts}
use Rattle.net_core.specs.declared.incoming.Incoming.{Incoming}
use Rattle.net_core.specs.Incoming.{Holds}
use Rattle.net_core.specs.Moves.{Move, Places, passed, places_from}
use Rattle.net_core.specs.Sides.{Faltered, HasRead, IsNeeded, Outlet, OutletLater, SameCounts, Side, SideLater, Wrote}
use Rattle.net_core.specs.LoopSteps.{SideGoes}
use Rattle.net_core.specs.Taking.{GavePart}
use Rattle.net_core.specs.WholeLoop.{SideRead}
use Rattle.net_core.proofs.Readers.{frame_length, needed_later}

-- ---- lists of steps

-- what one step more adds
pub flat_one : {B : Type 0} (f : Move → List B) (ms : List Move) (m : Move) → flat_map f (ms ++ m ∷ []) ≡ flat_map f ms ++ f m
flat_one f ms m = flat_map-append f ms (m ∷ []) ∙ ap (λ x. flat_map f ms ++ x) (append-nil (f m))

-- one step more that adds nothing
pub flat_same : {B : Type 0} (f : Move → List B) (ms : List Move) (m : Move) → f m ≡ [] → flat_map f (ms ++ m ∷ []) ≡ flat_map f ms
flat_same f ms m e = flat_one f ms m ∙ ap (λ x. flat_map f ms ++ x) e ∙ append-nil (flat_map f ms)

pub places_more : (p : Places) (ms : List Move) (m : Move) → places_from p (ms ++ m ∷ []) ≡ passed (places_from p ms) m
places_more p [] m = refl
places_more p (x ∷ ms) m = places_more (passed p x) ms m

pub frames_more : (given : List Frame) (frame : Frame) → frames_bytes (given ++ frame ∷ []) ≡ frames_bytes given ++ frame_bytes frame
frames_more given frame = flat_map-append frame_bytes given (frame ∷ []) ∙ ap (λ x. frames_bytes given ++ x) (append-nil (frame_bytes frame))

-- ---- counts

pub rose_from : (b n a : ℕ) → n ≡ b → Rose n a → Rose b a
rose_from b n a e r = subst (λ x. Rose x a) e r

pub rose_earlier : (a b c : ℕ) → a ≤ b → Rose b c → Rose a c
rose_earlier a b c le r = omega arith

pub faltered_from : (b n a : Outlet) → SameCounts b n → Faltered n a → Faltered b a
faltered_from b n a s (inl r) = inl (rose_from b.faults n.faults a.faults s.faults r)
faltered_from b n a s (inr r) = inr (rose_from b.stalls n.stalls a.stalls s.stalls r)

pub same_more : (b n a : Outlet) → SameCounts b n → SameCounts n a → SameCounts b a
same_more b n a s t = record { faults = t.faults ∙ s.faults; stalls = t.stalls ∙ s.stalls }

pub outlet_later : (b n a : Outlet) → SameCounts b n → OutletLater n a → OutletLater b a
outlet_later b n a s l = record {
  faults = let e = s.faults in let r = l.faults in omega (arith, e, r);
  stalls = let e = s.stalls in let r = l.stalls in omega (arith, e, r);
}

pub same_later : (b n : Outlet) → SameCounts b n → OutletLater b n
same_later b n s = record { faults = let e = s.faults in omega (arith, e); stalls = let e = s.stalls in omega (arith, e) }

pub stays_later : (b n : Side) (taken given : List Frame) (bytes : List ℕ) (i : Incoming) → SideGoes b n taken given bytes i → SideLater b n
stays_later b n taken given bytes i g = record { faults = let e = g.faults in omega (arith, e); out = same_later b.out n.out g.counts }

-- the reading end was called
pub read_later : (b n : Side) (taken given : List Frame) (bytes : List ℕ) (i : Incoming) (known' : Option (List ℕ)) (faults' : ℕ) (out' : Outlet) → SideGoes b n taken given bytes i → n.faults ≤ faults' → OutletLater n.out out' →
    SideLater b (record { left = known'; faults = faults'; out = out' })
read_later b n taken given bytes i known' faults' out' g le l = record { faults = let e = g.faults in omega (arith, e, le); out = outlet_later b.out n.out out' g.counts l }

-- ---- what was read

-- the same side, where the frames are spelled otherwise
pub side_as : (b n : Side) (taken taken' given given' : List Frame) (bytes : List ℕ) (i : Incoming) → taken' ≡ taken → given' ≡ given → SideGoes b n taken given bytes i → SideGoes b n taken' given' bytes i
side_as b n taken taken' given given' bytes i e k g = subst (λ (x : List Frame). SideGoes b n x given' bytes i) (sym e) (subst (λ (x : List Frame). SideGoes b n taken x bytes i) (sym k) g)

-- nothing more was written
pub wrote_as : (b n : Side) (taken given : List Frame) (bytes : List ℕ) (i : Incoming) (out' : Outlet) → SideGoes b n taken given bytes i → out'.written ≡ n.out.written → Appends b.out.written out'.written (frames_bytes given)
wrote_as b n taken given bytes i out' g e = subst (λ (w : Option (List ℕ)). Appends b.out.written w (frames_bytes given)) (sym e) g.wrote

-- a frame was taken
pub side_took : (b n : Side) (taken given : List Frame) (bytes more : List ℕ) (i i' : Incoming) (frame : Frame) (known' : Option (List ℕ)) (faults' : ℕ) (out' : Outlet) → SideGoes b n taken given bytes i →
    HasRead n.left more known' → (IsNeeded (length taken) bytes → IsNeeded (length taken + 1) (bytes ++ more)) → Holds (taken ++ frame ∷ []) (bytes ++ more) i' → faults' ≡ n.faults → out'.written ≡ n.out.written → SameCounts n.out out' →
    SideGoes b (record { left = known'; faults = faults'; out = out' }) (taken ++ frame ∷ []) given (bytes ++ more) i'
side_took b n taken given bytes more i i' frame known' faults' out' g heard needed holds same written counts =
    let sum = length-append taken (frame ∷ []) in
    record {
      holds = holds;
      heard = Consumes-trans b.left n.left known' bytes more g.heard heard;
      needed = needed_later (length taken + 1) (length (taken ++ frame ∷ [])) (bytes ++ more) (omega (arith, sum)) (needed g.needed);
      wrote = wrote_as b n taken given bytes i out' g written;
      faults = same ∙ g.faults;
      counts = same_more b.out n.out out' g.counts counts;
    }

-- nothing more was read
pub side_read : (b n : Side) (taken given : List Frame) (bytes : List ℕ) (i : Incoming) (asked faults' : ℕ) (out' : Outlet) → SideGoes b n taken given bytes i → length taken ≤ asked → SideRead b (record { left = n.left; faults = faults'; out = out' }) taken asked bytes i.reader
side_read b n taken given bytes i asked faults' out' g le = record { heard = g.heard; frames = g.holds.is; needed = needed_later (length taken) asked bytes le g.needed }

-- no frame was taken, and more was read
pub side_lacks : (b n : Side) (taken given : List Frame) (bytes more : List ℕ) (i : Incoming) (unread : Reading) (known' : Option (List ℕ)) (faults' : ℕ) (out' : Outlet) → SideGoes b n taken given bytes i →
    HasRead n.left more known' → (IsNeeded (length taken) bytes → IsNeeded (length taken + 1) (bytes ++ more)) → behind_frames taken unread ≡ read 0 (bytes ++ more) →
    SideRead b (record { left = known'; faults = faults'; out = out' }) taken (length taken + 1) (bytes ++ more) unread
side_lacks b n taken given bytes more i unread known' faults' out' g heard needed is = record { heard = Consumes-trans b.left n.left known' bytes more g.heard heard; frames = is; needed = needed g.needed }

-- ---- what was written

-- a frame was given
pub side_gave : (b n : Side) (taken given : List Frame) (bytes : List ℕ) (i : Incoming) (frame : Frame) (faults' : ℕ) (out' : Outlet) → SideGoes b n taken given bytes i →
    Appends n.out.written out'.written (frame_bytes frame) → SameCounts n.out out' → faults' ≡ n.faults → SideGoes b (record { left = n.left; faults = faults'; out = out' }) taken (given ++ frame ∷ []) bytes i
side_gave b n taken given bytes i frame faults' out' g wrote same e = record {
  holds = g.holds;
  heard = g.heard;
  needed = g.needed;
  wrote = subst (Appends b.out.written out'.written) (sym (frames_more given frame)) (Appends-trans b.out.written n.out.written out'.written (frames_bytes given) (frame_bytes frame) g.wrote wrote);
  faults = e ∙ g.faults;
  counts = same_more b.out n.out out' g.counts same;
}

pub wrote_all : (b a : Outlet) (bytes : List ℕ) → Appends b.written a.written bytes → Wrote b a bytes
wrote_all b a bytes w = record { front = (bytes, w, ([], sym (append-nil bytes))); all = inl w }

-- a front of bytes was written behind others
pub front_behind : (b n a : Option (List ℕ)) (all bytes both : List ℕ) → Appends b n all → both ≡ all ++ bytes → GrewBy n a (λ more. IsFront more bytes) → GrewBy b a (λ more. IsFront more both)
front_behind b n a all bytes both w e (front, part, (rest, is)) = (all ++ front, Appends-trans b n a all front w part, (rest, e ∙ ap (λ x. all ++ x) is ∙ sym (append_assoc all front rest)))

-- a front of a frame was written behind the others
pub wrote_part : (b n : Side) (taken given : List Frame) (bytes : List ℕ) (i : Incoming) (out' : Outlet) (s s' : LocalState quel_sorts) → SideGoes b n taken given bytes i → (p : GavePart s s' n.out out') →
    Wrote b.out out' (frames_bytes (given ++ p.frame ∷ []))
wrote_part b n taken given bytes i out' s s' g p = record {
  front = front_behind b.out.written n.out.written out'.written (frames_bytes given) (frame_bytes p.frame) (frames_bytes (given ++ p.frame ∷ [])) g.wrote (frames_more given p.frame) p.front;
  all = inr (faltered_from b.out n.out out' g.counts p.faltered);
}

pub place_next : (taken : List Frame) (bytes all : List ℕ) (i i' : Incoming) (frame : Frame) → Holds taken bytes i → Holds (taken ++ frame ∷ []) all i' → i'.place ≡ i.place + length (frame_bytes frame)
place_next taken bytes all i i' frame h k =
    let sum = frame_length taken frame in
    let was = h.place in
    let now = k.place in
    omega (arith, sum, was, now)
