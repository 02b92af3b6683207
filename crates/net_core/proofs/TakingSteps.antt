-- One step of a run that goes on: it goes on, or has ended.
use Rattle.std.proofs.Common.{◌≡◌, refl, sym, ap, subst, ◌∙◌, ℕ, ◌+◌, ◌≤◌, List, [], ◌∷◌, ◌++◌, append-nil, length, arith, inl, inr, OnOk, Result, Ok, Err}
use Rattle.std.specs.declared.option.Option.{Option}
use Rattle.std.specs.Io.KnownBytes.{Appends}
use Rattle.std.proofs.lemmas.List.Elements.{All-push}
use Rattle.std.proofs.lemmas.Result.{on_ok_weaker}
use Rattle.std.specs.Prelude.{All}
use Rattle.fault_io.specs.Causes.{Rose}
use Rattle.frame_codec.specs.declared.frame.Frame.{Frame}
use Rattle.frame_codec.specs.Frames.{frames_bytes}
use Rattle.frame_codec.specs.Reading.{Reading, behind_frames, read}
use Rattle.net_core.specs.declared.steps.Moved.{Moved}
use Rattle.net_core.specs.declared.steps.Moved.TheVariants.{Stepped, Blocked}
use Rattle.net_core.specs.declared.fault.WorkFault.{WorkFault}
use Rattle.net_core.specs.declared.fault.WorkFault.TheVariants as faults
use Rattle.net_core.specs.Spares.{SparesBy}
use Rattle.net_core.specs.Known.{Outside}
use Rattle.network_meaning.specs.Calls.{Taken}
use Rattle.network_meaning.specs.LocalSteps.{Want, Want.take_left, Want.take_right}
use Rattle.network_meaning.specs.Network.{LocalState, want}
use Rattle.quel_network.specs.Quel.{quel}
use Rattle.quel_network.specs.Sorts.{User, quel_sorts}
use Rattle.net_core.specs.declared.loop_fault.LoopFault.{LoopFault}
use Rattle.net_core.specs.declared.loop_fault.LoopFault.TheVariants as fault
use Rattle.net_core.specs.declared.incoming.Incoming.{Incoming}
use Rattle.net_core.specs.LoopFaults.{IsPlain}
use Rattle.net_core.specs.Incoming.{Holds, inlet}
use Rattle.net_core.specs.Moves.{At, Move, Places, first_places, from_left, from_right, given_left, given_right, passed, taken_left, taken_right, to_left, to_right, took_left, took_right}
use Rattle.net_core.specs.Sides.{Faltered, HasRead, IsNeeded, Outlet, OutletLater, SameCounts, Side, SideLater, Sides}
use Rattle.net_core.specs.LoopSteps.{Goes, Hand, Past, Ran, StepDone, at_hand}
use Rattle.net_core.specs.Taking.{TakeDone, TakeFailed}
use Rattle.net_core.specs.WholeLoop.{LeavesRoom, Ending, HowEnded, SideRead, unmet}
use Rattle.net_core.proofs.Going.{flat_one, flat_same, place_next, places_more, read_later, rose_from, side_as, side_lacks, side_read, side_took, stays_later, wrote_all, wrote_as}

-- ---- how a step that was to take has ended

-- how things stand where this is unread
abbrev pub ending : List Move → At → List ℕ → Reading → Option (List ℕ) → List ℕ → Reading → Option (List ℕ) → Ending
ending moves end lb lu lt rb ru rt = record { moves = moves; end = end; left = inlet (taken_left moves) lb lt lu; right = inlet (taken_right moves) rb rt ru }

how_left : (serves : User → Type 0) (heard : ℕ) (s' : LocalState quel_sorts) (old new : Outside) (before after : Sides) (e : Ending) (f : LoopFault) → want e.end.state ≡ take_left → TakeFailed serves e.end.state e.left fault.LeftRead f →
    (f ≡ fault.LeftRead → Rose before.left.faults after.left.faults) → HowEnded serves heard s' old new before after e (Err f)
how_left serves heard s' old new before after e (fault.BadFrame at) w t rose = (inl (inl (w, t.0)), λ v. absurd (let h : take_left ≡ take_right = sym w ∙ v in cc))
how_left serves heard s' old new before after e fault.LeftRead w t rose = (w, rose refl)
how_left serves heard s' old new before after e fault.Right w t rose = absurd (let h : fault.LeftRead ≡ fault.Right = t in cc)
how_left serves heard s' old new before after e fault.EndedEarly w t rose = inl (w, t)
how_left serves heard s' old new before after e fault.Spent w t rose = inr (inl t)
how_left serves heard s' old new before after e fault.OutOfMemory w t rose = tt
how_left serves heard s' old new before after e (fault.Told status) w t rose = absurd (let h : fault.LeftRead ≡ fault.Right = t.0 in cc)
how_left serves heard s' old new before after e fault.LeftWrite w t rose = absurd t
how_left serves heard s' old new before after e (fault.Work f) w t rose = absurd t

how_right : (serves : User → Type 0) (heard : ℕ) (s' : LocalState quel_sorts) (old new : Outside) (before after : Sides) (e : Ending) (f : LoopFault) → want e.end.state ≡ take_right → TakeFailed serves e.end.state e.right fault.Right f →
    (f ≡ fault.Right → Faltered before.right.out after.right.out) → HowEnded serves heard s' old new before after e (Err f)
how_right serves heard s' old new before after e (fault.BadFrame at) w t rose = (inl (inr (w, t.0)), λ v. t.1 refl)
how_right serves heard s' old new before after e fault.LeftRead w t rose = absurd (let h : fault.Right ≡ fault.LeftRead = t in cc)
how_right serves heard s' old new before after e fault.Right w t rose = rose refl
how_right serves heard s' old new before after e fault.EndedEarly w t rose = inr (w, t)
how_right serves heard s' old new before after e fault.Spent w t rose = inr (inr t)
how_right serves heard s' old new before after e fault.OutOfMemory w t rose = tt
how_right serves heard s' old new before after e (fault.Told status) w t rose = (w, t.1)
how_right serves heard s' old new before after e fault.LeftWrite w t rose = absurd t
how_right serves heard s' old new before after e (fault.Work f) w t rose = absurd t

-- ---- a step that wasn't made

unmet_left : (w : Want) (f : LoopFault) → w ≡ take_left → unmet take_left w (Err f) ≡ 1
unmet_left w f e = rw e refl

unmet_right : (w : Want) (f : LoopFault) → w ≡ take_right → unmet take_right w (Err f) ≡ 1
unmet_right w f e = rw e refl

-- what is as it was is spared
spares_same : (o : Outside) (f : WorkFault) → SparesBy o o f
spares_same o faults.Source = record { output = refl; files = refl; database = refl }
spares_same o faults.TooLong = record { output = refl; files = refl; database = refl }
spares_same o faults.Disk = tt
spares_same o (faults.Damaged file page) = tt
spares_same o faults.Sink = refl
spares_same o faults.Shelf = refl
spares_same o faults.Unlawful = refl
spares_same o faults.OutOfMemory = refl

-- nothing was done in the room
pub room_still : (end : At) (o : Outside) (f : LoopFault) → o ≡ end.outside → LeavesRoom end o (Err f)
room_still end o (fault.Work f) e = subst (λ (x : Outside). SparesBy x o f) e (spares_same o f)
room_still end o (fault.BadFrame at) e = inr e
room_still end o fault.LeftRead e = e
room_still end o fault.LeftWrite e = e
room_still end o fault.Right e = e
room_still end o fault.EndedEarly e = e
room_still end o fault.Spent e = e
room_still end o (fault.Told status) e = e
room_still end o fault.OutOfMemory e = e

-- what was done before is all
pub still : (serves : User → Type 0) (past : Past) (p : Hand) (s' : LocalState quel_sorts) (o' : Outside) (after : Sides) (f : LoopFault) (lb : List ℕ) (lu : Reading) (rb : List ℕ) (ru : Reading) →
    SideRead past.before.left after.left (taken_left past.moves) (length (taken_left past.moves) + unmet take_left (want p.state) (Err f)) lb lu →
    SideRead past.before.right after.right (taken_right past.moves) (length (taken_right past.moves) + unmet take_right (want p.state) (Err f)) rb ru →
    All IsPlain (taken_right past.moves) →
    Appends past.before.left.out.written after.left.out.written (frames_bytes (given_left past.moves)) →
    Appends past.before.right.out.written after.right.out.written (frames_bytes (given_right past.moves)) →
    SideLater past.before.left after.left → SideLater past.before.right after.right → LeavesRoom (at_hand p) o' (Err f) →
    HowEnded serves p.heard s' p.outside o' past.before after (ending past.moves (at_hand p) lb lu after.left.left rb ru after.right.left) (Err f) →
    Ran serves (at_hand p) p.heard s' p.outside o' past.before after past.moves (Err f)
still serves past p s' o' after f lb lu rb ru left right plain lw rwrote ll rl kept how = record {
  moves = past.moves;
  later = [];
  is = sym (append-nil past.moves);
  end = at_hand p;
  left_read = lb;
  left_unread = lu;
  right_read = rb;
  right_unread = ru;
  runs = λ user x. refl;
  left = left;
  right = right;
  plain = plain;
  left_wrote = wrote_all past.before.left.out after.left.out (frames_bytes (given_left past.moves)) lw;
  left_all = λ _. lw;
  right_wrote = wrote_all past.before.right.out after.right.out (frames_bytes (given_right past.moves)) rwrote;
  left_later = ll;
  right_later = rl;
  all = tt;
  room = kept;
  ended = how;
}

-- ---- to take from the left

-- the places, by their numbers
abbrev pub places_at : ℕ → ℕ → ℕ → Places
places_at l r x = record { left = l; right = r; last = x }

-- the hand behind a step at the left
abbrev pub at_left : Hand → LocalState quel_sorts → Option (List ℕ) → ℕ → Incoming → ℕ → Hand
at_left p s' known' faults' i' heard' = record {
  state = s';
  outside = p.outside;
  schema = p.schema;
  sides = record { left = record { left = known'; faults = faults'; out = p.sides.left.out }; right = p.sides.right };
  talk = record { left = i'; right = p.talk.right; last = p.talk.left.place };
  heard = heard';
}

same_counts : (o : Outlet) → SameCounts o o
same_counts o = record { faults = refl; stalls = refl }

counts_of : (o o' : Outlet) → o'.faults ≡ o.faults → o'.stalls ≡ o.stalls → SameCounts o o'
counts_of o o' e k = record { faults = e; stalls = k }

later_counts : (o : Outlet) → OutletLater o o
later_counts o = record { faults = omega arith; stalls = omega arith }

took_from_left : (serves : User → Type 0) (past : Past) (p : Hand) (s' : LocalState quel_sorts) (known' : Option (List ℕ)) (faults' : ℕ) (i' : Incoming) (heard' : ℕ) (frame : Frame) (more : List ℕ) → want p.state ≡ take_left → Goes past p →
    HasRead p.sides.left.left more known' → (IsNeeded (length (taken_left past.moves)) past.left → IsNeeded (length (taken_left past.moves) + 1) (past.left ++ more)) → Holds (taken_left past.moves ++ frame ∷ []) (past.left ++ more) i' →
    ((user : User) → serves user → Taken (quel user) p.state frame s') → faults' ≡ p.sides.left.faults → StepDone serves past p (at_left p s' known' faults' i' heard') (Ok Stepped)
took_from_left serves past p s' known' faults' i' heard' frame more w g heard needed holds taken same =
    let m = took_left frame in (
      m,
      past.left ++ more,
      past.right,
      (λ user x. (w, taken user x, (refl, refl))),
      record {
        left = side_as past.before.left _ (taken_left past.moves ++ frame ∷ []) (taken_left (past.moves ++ m ∷ [])) (given_left past.moves) (given_left (past.moves ++ m ∷ [])) (past.left ++ more) i' (flat_one from_left past.moves m) (flat_same to_left past.moves m refl)
            (side_took past.before.left p.sides.left (taken_left past.moves) (given_left past.moves) past.left more p.talk.left i' frame known' faults' p.sides.left.out g.left heard needed holds same refl (same_counts p.sides.left.out));
        right = side_as past.before.right p.sides.right (taken_right past.moves) (taken_right (past.moves ++ m ∷ [])) (given_right past.moves) (given_right (past.moves ++ m ∷ [])) past.right p.talk.right (flat_same from_right past.moves m refl) (flat_same to_right past.moves m refl) g.right;
        plain = subst (λ (fs : List Frame). All IsPlain fs) (sym (flat_same from_right past.moves m refl)) g.plain;
        places = ap (λ (x : ℕ). places_at x p.talk.right.place p.talk.left.place) (place_next (taken_left past.moves) past.left (past.left ++ more) p.talk.left i' frame g.left.holds holds) ∙ ap (λ (q : Places). passed q m) g.places ∙ sym (places_more first_places past.moves m);
      },
    )

left_lacks : (serves : User → Type 0) (past : Past) (p : Hand) (s' : LocalState quel_sorts) (known' : Option (List ℕ)) (faults' : ℕ) (f : LoopFault) (more : List ℕ) → want p.state ≡ take_left → Goes past p →
    HasRead p.sides.left.left more known' → (IsNeeded (length (taken_left past.moves)) past.left → IsNeeded (length (taken_left past.moves) + 1) (past.left ++ more)) → p.sides.left.faults ≤ faults' →
    (f ≡ fault.LeftRead → Rose p.sides.left.faults faults') →
    (unread : Reading) × (behind_frames (taken_left past.moves) unread ≡ read 0 (past.left ++ more)) × TakeFailed serves p.state (inlet (taken_left past.moves) (past.left ++ more) known' unread) fault.LeftRead f →
    Ran serves (at_hand p) p.heard s' p.outside p.outside past.before (record { left = record { left = known'; faults = faults'; out = p.sides.left.out }; right = p.sides.right }) past.moves (Err f)
left_lacks serves past p s' known' faults' f more w g heard needed le rose (unread, is, why) =
    let n = length (taken_left past.moves) in
    let after : Side = record { left = known'; faults = faults'; out = p.sides.left.out } in
    still serves past p s' p.outside (record { left = after; right = p.sides.right }) f (past.left ++ more) unread past.right p.talk.right.reader
    (subst (λ (x : ℕ). SideRead past.before.left after (taken_left past.moves) (n + x) (past.left ++ more) unread) (sym (unmet_left (want p.state) f w))
    (side_lacks past.before.left p.sides.left (taken_left past.moves) (given_left past.moves) past.left more p.talk.left unread known' faults' p.sides.left.out g.left heard needed is))
    (side_read past.before.right p.sides.right (taken_right past.moves) (given_right past.moves) past.right p.talk.right _ p.sides.right.faults p.sides.right.out g.right (omega arith))
    g.plain
    g.left.wrote
    g.right.wrote
    (read_later past.before.left p.sides.left (taken_left past.moves) (given_left past.moves) past.left p.talk.left known' faults' p.sides.left.out g.left le (later_counts p.sides.left.out))
    (stays_later past.before.right p.sides.right (taken_right past.moves) (given_right past.moves) past.right p.talk.right g.right)
    (room_still (at_hand p) p.outside f refl)
    (how_left serves p.heard s' p.outside p.outside past.before (record { left = after; right = p.sides.right }) (ending past.moves (at_hand p) (past.left ++ more) unread known' past.right p.talk.right.reader p.sides.right.left) f w why
    (λ e. rose_from past.before.left.faults p.sides.left.faults faults' g.left.faults (rose e)))

pub take_left_done : (serves : User → Type 0) (past : Past) (p : Hand) (s' : LocalState quel_sorts) (known' : Option (List ℕ)) (faults' : ℕ) (i' : Incoming) (heard' : ℕ) (result : Result Moved LoopFault) → want p.state ≡ take_left → Goes past p →
    TakeDone serves p.state s' (taken_left past.moves) past.left p.sides.left.left known' fault.LeftRead i' result → p.sides.left.faults ≤ faults' → (result ≡ Err fault.LeftRead → Rose p.sides.left.faults faults') → OnOk result (faults' ≡ p.sides.left.faults) →
    StepDone serves past p (at_left p s' known' faults' i' heard') result
take_left_done serves past p s' known' faults' i' heard' (Ok Stepped) w g d le rose same = took_from_left serves past p s' known' faults' i' heard' d.took.0 d.more w g d.heard d.needed d.took.1 d.took.2 same
take_left_done serves past p s' known' faults' i' heard' (Ok Blocked) w g d le rose same = absurd d.took
take_left_done serves past p s' known' faults' i' heard' (Err f) w g d le rose same = left_lacks serves past p s' known' faults' f d.more w g d.heard d.needed le (λ e. rose (ap Err e)) d.took

-- ---- to take from the right

-- the hand behind a step at the right
abbrev pub at_right : Hand → LocalState quel_sorts → Side → Incoming → ℕ → Hand
at_right p s' right' i' heard' = record {
  state = s';
  outside = p.outside;
  schema = p.schema;
  sides = record { left = p.sides.left; right = right' };
  talk = record { left = p.talk.left; right = i'; last = p.talk.right.place };
  heard = heard';
}

took_from_right : (serves : User → Type 0) (past : Past) (p : Hand) (s' : LocalState quel_sorts) (right' : Side) (i' : Incoming) (heard' : ℕ) (frame : Frame) (more : List ℕ) → want p.state ≡ take_right → Goes past p →
    HasRead p.sides.right.left more right'.left → (IsNeeded (length (taken_right past.moves)) past.right → IsNeeded (length (taken_right past.moves) + 1) (past.right ++ more)) → Holds (taken_right past.moves ++ frame ∷ []) (past.right ++ more) i' →
    ((user : User) → serves user → Taken (quel user) p.state frame s') → IsPlain frame → right'.faults ≡ p.sides.right.faults → right'.out.written ≡ p.sides.right.out.written → SameCounts p.sides.right.out right'.out →
    StepDone serves past p (at_right p s' right' i' heard') (Ok Stepped)
took_from_right serves past p s' right' i' heard' frame more w g heard needed holds taken plain same written counts =
    let m = took_right frame in (
      m,
      past.left,
      past.right ++ more,
      (λ user x. (w, taken user x, (refl, refl))),
      record {
        left = side_as past.before.left p.sides.left (taken_left past.moves) (taken_left (past.moves ++ m ∷ [])) (given_left past.moves) (given_left (past.moves ++ m ∷ [])) past.left p.talk.left (flat_same from_left past.moves m refl) (flat_same to_left past.moves m refl) g.left;
        right = side_as past.before.right right' (taken_right past.moves ++ frame ∷ []) (taken_right (past.moves ++ m ∷ [])) (given_right past.moves) (given_right (past.moves ++ m ∷ [])) (past.right ++ more) i' (flat_one from_right past.moves m) (flat_same to_right past.moves m refl)
            (side_took past.before.right p.sides.right (taken_right past.moves) (given_right past.moves) past.right more p.talk.right i' frame right'.left right'.faults right'.out g.right heard needed holds same written counts);
        plain = subst (λ (fs : List Frame). All IsPlain fs) (sym (flat_one from_right past.moves m)) (All-push IsPlain (taken_right past.moves) frame g.plain plain);
        places = ap (λ (x : ℕ). places_at p.talk.left.place x p.talk.right.place) (place_next (taken_right past.moves) past.right (past.right ++ more) p.talk.right i' frame g.right.holds holds) ∙ ap (λ (q : Places). passed q m) g.places ∙ sym (places_more first_places past.moves m);
      },
    )

right_lacks : (serves : User → Type 0) (past : Past) (p : Hand) (s' : LocalState quel_sorts) (right' : Side) (f : LoopFault) (more : List ℕ) → want p.state ≡ take_right → Goes past p →
    HasRead p.sides.right.left more right'.left → (IsNeeded (length (taken_right past.moves)) past.right → IsNeeded (length (taken_right past.moves) + 1) (past.right ++ more)) → p.sides.right.faults ≤ right'.faults → OutletLater p.sides.right.out right'.out →
    right'.out.written ≡ p.sides.right.out.written → (f ≡ fault.Right → Rose p.sides.right.out.faults right'.out.faults) →
    (unread : Reading) × (behind_frames (taken_right past.moves) unread ≡ read 0 (past.right ++ more)) × TakeFailed serves p.state (inlet (taken_right past.moves) (past.right ++ more) right'.left unread) fault.Right f →
    Ran serves (at_hand p) p.heard s' p.outside p.outside past.before (record { left = p.sides.left; right = right' }) past.moves (Err f)
right_lacks serves past p s' right' f more w g heard needed le later written rose (unread, is, why) =
    let n = length (taken_right past.moves) in
    still serves past p s' p.outside (record { left = p.sides.left; right = right' }) f past.left p.talk.left.reader (past.right ++ more) unread
    (side_read past.before.left p.sides.left (taken_left past.moves) (given_left past.moves) past.left p.talk.left _ p.sides.left.faults p.sides.left.out g.left (omega arith))
    (subst (λ (x : ℕ). SideRead past.before.right right' (taken_right past.moves) (n + x) (past.right ++ more) unread) (sym (unmet_right (want p.state) f w))
    (side_lacks past.before.right p.sides.right (taken_right past.moves) (given_right past.moves) past.right more p.talk.right unread right'.left right'.faults right'.out g.right heard needed is))
    g.plain
    g.left.wrote
    (wrote_as past.before.right p.sides.right (taken_right past.moves) (given_right past.moves) past.right p.talk.right right'.out g.right written)
    (stays_later past.before.left p.sides.left (taken_left past.moves) (given_left past.moves) past.left p.talk.left g.left)
    (read_later past.before.right p.sides.right (taken_right past.moves) (given_right past.moves) past.right p.talk.right right'.left right'.faults right'.out g.right le later)
    (room_still (at_hand p) p.outside f refl)
    (how_right serves p.heard s' p.outside p.outside past.before (record { left = p.sides.left; right = right' }) (ending past.moves (at_hand p) past.left p.talk.left.reader p.sides.left.left (past.right ++ more) unread right'.left) f w why
    (λ e. inl (rose_from past.before.right.out.faults p.sides.right.out.faults right'.out.faults g.right.counts.faults (rose e))))

pub take_right_done : (serves : User → Type 0) (past : Past) (p : Hand) (s' : LocalState quel_sorts) (right' : Side) (i' : Incoming) (heard' : ℕ) (result : Result Moved LoopFault) → want p.state ≡ take_right → Goes past p →
    TakeDone serves p.state s' (taken_right past.moves) past.right p.sides.right.left right'.left fault.Right i' result → p.sides.right.faults ≤ right'.faults → OutletLater p.sides.right.out right'.out → right'.out.written ≡ p.sides.right.out.written →
    (result ≡ Err fault.Right → Rose p.sides.right.out.faults right'.out.faults) → OnOk result (right'.faults ≡ p.sides.right.faults) → OnOk result (SameCounts p.sides.right.out right'.out) →
    StepDone serves past p (at_right p s' right' i' heard') result
take_right_done serves past p s' right' i' heard' (Ok Stepped) w g d le later written rose same counts = took_from_right serves past p s' right' i' heard' d.took.0 d.more w g d.heard d.needed d.took.1 d.took.2 (d.took.3 refl) same written counts
take_right_done serves past p s' right' i' heard' (Ok Blocked) w g d le later written rose same counts = absurd d.took
take_right_done serves past p s' right' i' heard' (Err f) w g d le later written rose same counts = right_lacks serves past p s' right' f d.more w g d.heard d.needed le later written (λ e. rose (ap Err e)) d.took

-- the same, where a link is at the right, whose faults of both kinds are counted together
pub take_link_done : (serves : User → Type 0) (past : Past) (p : Hand) (s' : LocalState quel_sorts) (known' written' : Option (List ℕ)) (faults' stalls' : ℕ) (i' : Incoming) (heard' : ℕ) (result : Result Moved LoopFault) → want p.state ≡ take_right → Goes past p →
    TakeDone serves p.state s' (taken_right past.moves) past.right p.sides.right.left known' fault.Right i' result → p.sides.right.faults ≡ p.sides.right.out.faults → p.sides.right.out.faults ≤ faults' → written' ≡ p.sides.right.out.written → stalls' ≡ p.sides.right.out.stalls →
    (result ≡ Err fault.Right → Rose p.sides.right.out.faults faults') → OnOk result (faults' ≡ p.sides.right.out.faults) →
    StepDone serves past p (at_right p s' (record { left = known'; faults = faults'; out = record { written = written'; faults = faults'; stalls = stalls' } }) i' heard') result
take_link_done serves past p s' known' written' faults' stalls' i' heard' result w g d both le written stalls rose same =
    take_right_done serves past p s' (record { left = known'; faults = faults'; out = record { written = written'; faults = faults'; stalls = stalls' } }) i' heard' result w g d
    (omega (arith, both, le))
    (record { faults = le; stalls = omega (arith, stalls) })
    written
    rose
    (on_ok_weaker result (λ (e : faults' ≡ p.sides.right.out.faults). e ∙ sym both) same)
    (on_ok_weaker result (λ (e : faults' ≡ p.sides.right.out.faults). counts_of p.sides.right.out (record { written = written'; faults = faults'; stalls = stalls' }) e stalls) same)
