-- One step of a run that gives a frame, or works.
use Rattle.std.proofs.Common.{◌≡◌, refl, sym, ap, subst, ◌∙◌, ℕ, ◌≤◌, List, [], ◌∷◌, ◌++◌, arith, inl, inr, OnOk, Result, Ok, Err}
use Rattle.std.specs.declared.option.Option.{Option}
use Rattle.std.specs.Prelude.{⊤, All}
use Rattle.calculus.specs.Database.{Db}
use Rattle.frame_codec.specs.declared.frame.Frame.{Frame}
use Rattle.frame_codec.specs.Frames.{frames_bytes}
use Rattle.net_core.specs.declared.steps.Moved.{Moved}
use Rattle.net_core.specs.declared.steps.Moved.TheVariants.{Stepped, Blocked}
use Rattle.net_core.specs.Known.{KeepsDatabase, Outside}
use Rattle.net_core.proofs.Faulty.{database_same, heard_same, later_same, script_same}
use Rattle.network_meaning.specs.LocalSteps.{Want.take_right, Want.give_left, Want.give_right, Want.work}
use Rattle.network_meaning.specs.Network.{LocalState, want}
use Rattle.quel_network.specs.Sorts.{User, quel_sorts}
use Rattle.net_core.specs.declared.incoming.Incoming.{Incoming}
use Rattle.net_core.specs.declared.loop_fault.LoopFault.{LoopFault}
use Rattle.net_core.specs.declared.loop_fault.LoopFault.TheVariants as fault
use Rattle.net_core.specs.Incoming.{Holds, IsHeld}
use Rattle.net_core.specs.LoopFaults.{IsPlain}
use Rattle.net_core.specs.Moves.{Move, Places, first_places, from_left, from_right, gave_left, gave_right, given_left, given_right, passed, places_from, taken_left, taken_right, to_left, to_right, worked}
use Rattle.net_core.specs.Sides.{Outlet, Wrote}
use Rattle.net_core.specs.LoopSteps.{Goes, Hand, Past, Ran, RoomKept, SideGoes, StepDone, at_hand}
use Rattle.net_core.specs.Taking.{Gave, GavePart, TakeDone, Worked}
use Rattle.net_core.specs.WholeLoop.{HowEnded, IsLoopInside, LeavesRoom, LoopCounts, LoopWithin}
use Rattle.net_core.proofs.Going.{faltered_from, flat_one, flat_same, outlet_later, places_more, side_as, side_gave, side_read, stays_later, wrote_all, wrote_part}
use Rattle.net_core.proofs.TakingSteps.{ending, still}

-- ---- sides that a step leaves alone

-- the left side behind a step that takes nothing from it and gives nothing to it
pub left_alone : (past : Past) (p : Hand) (m : Move) → from_left m ≡ [] → to_left m ≡ [] → Goes past p → SideGoes past.before.left p.sides.left (taken_left (past.moves ++ m ∷ [])) (given_left (past.moves ++ m ∷ [])) past.left p.talk.left
left_alone past p m e k g = side_as past.before.left p.sides.left (taken_left past.moves) (taken_left (past.moves ++ m ∷ [])) (given_left past.moves) (given_left (past.moves ++ m ∷ [])) past.left p.talk.left (flat_same from_left past.moves m e) (flat_same to_left past.moves m k) g.left

-- the right side behind a step that takes nothing from it and gives nothing to it
pub right_alone : (past : Past) (p : Hand) (m : Move) → from_right m ≡ [] → to_right m ≡ [] → Goes past p → SideGoes past.before.right p.sides.right (taken_right (past.moves ++ m ∷ [])) (given_right (past.moves ++ m ∷ [])) past.right p.talk.right
right_alone past p m e k g = side_as past.before.right p.sides.right (taken_right past.moves) (taken_right (past.moves ++ m ∷ [])) (given_right past.moves) (given_right (past.moves ++ m ∷ [])) past.right p.talk.right (flat_same from_right past.moves m e) (flat_same to_right past.moves m k) g.right

-- the places stay where nothing is taken
same_places : (past : Past) (p : Hand) (m : Move) → ((q : Places) → passed q m ≡ q) → Goes past p →
    record { left = p.talk.left.place; right = p.talk.right.place; last = p.talk.last } ≡ places_from first_places (past.moves ++ m ∷ [])
same_places past p m same g = g.places ∙ sym (same (places_from first_places past.moves)) ∙ sym (places_more first_places past.moves m)

same_plain : (past : Past) (p : Hand) (m : Move) → from_right m ≡ [] → Goes past p → All IsPlain (taken_right (past.moves ++ m ∷ []))
same_plain past p m e g = subst (λ (fs : List Frame). All IsPlain fs) (sym (flat_same from_right past.moves m e)) g.plain

-- nothing was done at all, by this fault
pub nothing_more : (serves : User → Type 0) (past : Past) (p : Hand) (s' : LocalState quel_sorts) (o' : Outside) (f : LoopFault) → Goes past p → LeavesRoom (at_hand p) o' (Err f) →
    HowEnded serves p.heard s' p.outside o' past.before p.sides (ending past.moves (at_hand p) past.left p.talk.left.reader p.sides.left.left past.right p.talk.right.reader p.sides.right.left) (Err f) →
    Ran serves (at_hand p) p.heard s' p.outside o' past.before p.sides past.moves (Err f)
nothing_more serves past p s' o' f g kept how =
    still serves past p s' o' p.sides f past.left p.talk.left.reader past.right p.talk.right.reader
    (side_read past.before.left p.sides.left (taken_left past.moves) (given_left past.moves) past.left p.talk.left _ p.sides.left.faults p.sides.left.out g.left (omega arith))
    (side_read past.before.right p.sides.right (taken_right past.moves) (given_right past.moves) past.right p.talk.right _ p.sides.right.faults p.sides.right.out g.right (omega arith))
    g.plain
    g.left.wrote
    g.right.wrote
    (stays_later past.before.left p.sides.left (taken_left past.moves) (given_left past.moves) past.left p.talk.left g.left)
    (stays_later past.before.right p.sides.right (taken_right past.moves) (given_right past.moves) past.right p.talk.right g.right)
    kept
    how

-- ---- to give to the left

-- the hand behind a gift to the left
abbrev pub gave_at_left : Hand → LocalState quel_sorts → Outlet → ℕ → Hand
gave_at_left p s' out' heard' = record {
  state = s';
  outside = p.outside;
  schema = p.schema;
  sides = record { left = record { left = p.sides.left.left; faults = p.sides.left.faults; out = out' }; right = p.sides.right };
  talk = p.talk;
  heard = heard';
}

left_memory : (serves : User → Type 0) (past : Past) (p : Hand) (s' : LocalState quel_sorts) (out' : Outlet) (heard' : ℕ) (f : LoopFault) → Goes past p → f ≡ fault.OutOfMemory → out' ≡ p.sides.left.out → StepDone serves past p (gave_at_left p s' out' heard') (Err f)
left_memory serves past p s' out' heard' f g e k =
    subst (λ (o : Outlet). StepDone serves past p (gave_at_left p s' o heard') (Err f)) (sym k) (subst (λ (x : LoopFault). StepDone serves past p (gave_at_left p s' p.sides.left.out heard') (Err x)) (sym e) (nothing_more serves past p s' p.outside fault.OutOfMemory g refl tt))

left_part : (serves : User → Type 0) (past : Past) (p : Hand) (s' : LocalState quel_sorts) (out' : Outlet) (heard' : ℕ) → want p.state ≡ give_left → Goes past p → GavePart p.state s' p.sides.left.out out' → StepDone serves past p (gave_at_left p s' out' heard') (Err fault.LeftWrite)
left_part serves past p s' out' heard' w g part =
    let m = gave_left part.frame in
    let moves = past.moves ++ m ∷ [] in
    let taken = side_as past.before.left p.sides.left (taken_left past.moves) (taken_left moves) (given_left past.moves) (given_left past.moves) past.left p.talk.left (flat_same from_left past.moves m refl) refl g.left in
    let right = right_alone past p m refl refl g in
    record {
      moves = moves;
      later = m ∷ [];
      is = refl;
      end = record { state = s'; outside = p.outside; schema = p.schema };
      left_read = past.left;
      left_unread = p.talk.left.reader;
      right_read = past.right;
      right_unread = p.talk.right.reader;
      runs = λ user x. (record { state = s'; outside = p.outside; schema = p.schema }, (w, part.given, (refl, refl)), refl);
      left = side_read past.before.left p.sides.left (taken_left moves) (given_left past.moves) past.left p.talk.left _ p.sides.left.faults out' taken (omega arith);
      right = side_read past.before.right p.sides.right (taken_right moves) (given_right moves) past.right p.talk.right _ p.sides.right.faults p.sides.right.out right (omega arith);
      plain = same_plain past p m refl g;
      left_wrote = subst (λ (fs : List Frame). Wrote past.before.left.out out' (frames_bytes fs)) (sym (flat_one to_left past.moves m)) (wrote_part past.before.left p.sides.left (taken_left past.moves) (given_left past.moves) past.left p.talk.left out' p.state s' g.left part);
      left_all = λ ne. absurd (ne refl);
      right_wrote = wrote_all past.before.right.out p.sides.right.out (frames_bytes (given_right moves)) right.wrote;
      left_later = record { faults = let e = g.left.faults in omega (arith, e); out = outlet_later past.before.left.out p.sides.left.out out' g.left.counts part.later };
      right_later = stays_later past.before.right p.sides.right (taken_right moves) (given_right moves) past.right p.talk.right right;
      all = tt;
      room = refl;
      ended = faltered_from past.before.left.out p.sides.left.out out' g.left.counts part.faltered;
    }

pub give_left_done : (serves : User → Type 0) (past : Past) (p : Hand) (s' : LocalState quel_sorts) (out' : Outlet) (heard' : ℕ) (result : Result Moved LoopFault) → want p.state ≡ give_left → Goes past p →
    Gave p.state s' p.sides.left.out out' fault.LeftWrite result → StepDone serves past p (gave_at_left p s' out' heard') result
give_left_done serves past p s' out' heard' (Ok Stepped) w g (frame, given, wrote, same) =
    let m = gave_left frame in (
      m,
      past.left,
      past.right,
      (λ user x. (w, given, (refl, refl))),
      record {
        left = side_as past.before.left _ (taken_left past.moves) (taken_left (past.moves ++ m ∷ [])) (given_left past.moves ++ frame ∷ []) (given_left (past.moves ++ m ∷ [])) past.left p.talk.left (flat_same from_left past.moves m refl) (flat_one to_left past.moves m)
            (side_gave past.before.left p.sides.left (taken_left past.moves) (given_left past.moves) past.left p.talk.left frame p.sides.left.faults out' g.left wrote same refl);
        right = right_alone past p m refl refl g;
        plain = same_plain past p m refl g;
        places = same_places past p m (λ q. refl) g;
      },
    )
give_left_done serves past p s' out' heard' (Ok Blocked) w g x = absurd x
give_left_done serves past p s' out' heard' (Err f) w g (inl (e, k)) = left_memory serves past p s' out' heard' f g e k
give_left_done serves past p s' out' heard' (Err f) w g (inr (e, part)) = subst (λ (x : LoopFault). StepDone serves past p (gave_at_left p s' out' heard') (Err x)) (sym e) (left_part serves past p s' out' heard' w g part)

-- ---- to give to the right

-- the hand behind a gift to the right
abbrev pub gave_at_right : Hand → LocalState quel_sorts → Option (List ℕ) → ℕ → Outlet → ℕ → Hand
gave_at_right p s' known' faults' out' heard' = record {
  state = s';
  outside = p.outside;
  schema = p.schema;
  sides = record { left = p.sides.left; right = record { left = known'; faults = faults'; out = out' } };
  talk = p.talk;
  heard = heard';
}

right_memory : (serves : User → Type 0) (past : Past) (p : Hand) (s' : LocalState quel_sorts) (out' : Outlet) (heard' : ℕ) (f : LoopFault) → Goes past p → f ≡ fault.OutOfMemory → out' ≡ p.sides.right.out →
    StepDone serves past p (gave_at_right p s' p.sides.right.left p.sides.right.faults out' heard') (Err f)
right_memory serves past p s' out' heard' f g e k =
    subst (λ (o : Outlet). StepDone serves past p (gave_at_right p s' p.sides.right.left p.sides.right.faults o heard') (Err f)) (sym k)
    (subst (λ (x : LoopFault). StepDone serves past p (gave_at_right p s' p.sides.right.left p.sides.right.faults p.sides.right.out heard') (Err x)) (sym e) (nothing_more serves past p s' p.outside fault.OutOfMemory g refl tt))

right_part : (serves : User → Type 0) (past : Past) (p : Hand) (s' : LocalState quel_sorts) (faults' : ℕ) (out' : Outlet) (heard' : ℕ) → want p.state ≡ give_right → Goes past p → GavePart p.state s' p.sides.right.out out' → p.sides.right.faults ≤ faults' →
    StepDone serves past p (gave_at_right p s' p.sides.right.left faults' out' heard') (Err fault.Right)
right_part serves past p s' faults' out' heard' w g part le =
    let m = gave_right part.frame in
    let moves = past.moves ++ m ∷ [] in
    let taken = side_as past.before.right p.sides.right (taken_right past.moves) (taken_right moves) (given_right past.moves) (given_right past.moves) past.right p.talk.right (flat_same from_right past.moves m refl) refl g.right in
    let left = left_alone past p m refl refl g in
    record {
      moves = moves;
      later = m ∷ [];
      is = refl;
      end = record { state = s'; outside = p.outside; schema = p.schema };
      left_read = past.left;
      left_unread = p.talk.left.reader;
      right_read = past.right;
      right_unread = p.talk.right.reader;
      runs = λ user x. (record { state = s'; outside = p.outside; schema = p.schema }, (w, part.given, (refl, refl)), refl);
      left = side_read past.before.left p.sides.left (taken_left moves) (given_left moves) past.left p.talk.left _ p.sides.left.faults p.sides.left.out left (omega arith);
      right = side_read past.before.right p.sides.right (taken_right moves) (given_right past.moves) past.right p.talk.right _ faults' out' taken (omega arith);
      plain = same_plain past p m refl g;
      left_wrote = wrote_all past.before.left.out p.sides.left.out (frames_bytes (given_left moves)) left.wrote;
      left_all = λ _. left.wrote;
      right_wrote = subst (λ (fs : List Frame). Wrote past.before.right.out out' (frames_bytes fs)) (sym (flat_one to_right past.moves m)) (wrote_part past.before.right p.sides.right (taken_right past.moves) (given_right past.moves) past.right p.talk.right out' p.state s' g.right part);
      left_later = stays_later past.before.left p.sides.left (taken_left moves) (given_left moves) past.left p.talk.left left;
      right_later = record { faults = let e = g.right.faults in omega (arith, e, le); out = outlet_later past.before.right.out p.sides.right.out out' g.right.counts part.later };
      all = tt;
      room = refl;
      ended = faltered_from past.before.right.out p.sides.right.out out' g.right.counts part.faltered;
    }

right_done : (serves : User → Type 0) (past : Past) (p : Hand) (s' : LocalState quel_sorts) (out' : Outlet) (heard' : ℕ) (result : Result Moved LoopFault) → want p.state ≡ give_right → Goes past p → p.sides.right.out.faults ≡ p.sides.right.faults →
    Gave p.state s' p.sides.right.out out' fault.Right result → StepDone serves past p (gave_at_right p s' p.sides.right.left out'.faults out' heard') result
right_done serves past p s' out' heard' (Ok Stepped) w g both (frame, given, wrote, same) =
    let m = gave_right frame in (
      m,
      past.left,
      past.right,
      (λ user x. (w, given, (refl, refl))),
      record {
        left = left_alone past p m refl refl g;
        right = side_as past.before.right _ (taken_right past.moves) (taken_right (past.moves ++ m ∷ [])) (given_right past.moves ++ frame ∷ []) (given_right (past.moves ++ m ∷ [])) past.right p.talk.right (flat_same from_right past.moves m refl) (flat_one to_right past.moves m)
            (side_gave past.before.right p.sides.right (taken_right past.moves) (given_right past.moves) past.right p.talk.right frame out'.faults out' g.right wrote same (same.faults ∙ both));
        plain = same_plain past p m refl g;
        places = same_places past p m (λ q. refl) g;
      },
    )
right_done serves past p s' out' heard' (Ok Blocked) w g both x = absurd x
right_done serves past p s' out' heard' (Err f) w g both (inl (e, k)) =
    subst (λ (n : ℕ). StepDone serves past p (gave_at_right p s' p.sides.right.left n out' heard') (Err f)) (sym (ap (λ (o : Outlet). o.faults) k ∙ both)) (right_memory serves past p s' out' heard' f g e k)
right_done serves past p s' out' heard' (Err f) w g both (inr (e, part)) =
    subst (λ (x : LoopFault). StepDone serves past p (gave_at_right p s' p.sides.right.left out'.faults out' heard') (Err x)) (sym e) (right_part serves past p s' out'.faults out' heard' w g part (let l = part.later.faults in omega (arith, l, both)))

pub give_right_done : (serves : User → Type 0) (past : Past) (p : Hand) (s' : LocalState quel_sorts) (known' : Option (List ℕ)) (out' : Outlet) (heard' : ℕ) (result : Result Moved LoopFault) → want p.state ≡ give_right → Goes past p →
    p.sides.right.out.faults ≡ p.sides.right.faults → known' ≡ p.sides.right.left → Gave p.state s' p.sides.right.out out' fault.Right result → StepDone serves past p (gave_at_right p s' known' out'.faults out' heard') result
give_right_done serves past p s' known' out' heard' result w g both e gave = subst (λ (t : Option (List ℕ)). StepDone serves past p (gave_at_right p s' t out'.faults out' heard') result) (sym e) (right_done serves past p s' out' heard' result w g both gave)

-- ---- to work

-- the hand behind work
abbrev pub worked_at : Hand → LocalState quel_sorts → Outside → Option Db → ℕ → Hand
worked_at p s' o' schema' heard' = record { state = s'; outside = o'; schema = schema'; sides = p.sides; talk = p.talk; heard = heard' }

pub work_done : (serves : User → Type 0) (past : Past) (p : Hand) (s' : LocalState quel_sorts) (o' : Outside) (schema' : Option Db) (heard' : ℕ) (result : Result Moved LoopFault) → want p.state ≡ work → Goes past p →
    Worked serves p.heard p.state s' p.outside o' schema' p.talk.last result → StepDone serves past p (worked_at p s' o' schema' heard') result
work_done serves past p s' o' schema' heard' (Ok Stepped) w g done = (
  worked,
  past.left,
  past.right,
  (λ user x. (w, done.0 user x, done.1, done.2)),
  record {
    left = left_alone past p worked refl refl g;
    right = right_alone past p worked refl refl g;
    plain = same_plain past p worked refl g;
    places = same_places past p worked (λ q. refl) g;
  },
)
work_done serves past p s' o' schema' heard' (Ok Blocked) w g x = absurd x
work_done serves past p s' o' schema' heard' (Err (fault.Work f)) w g (ne, may, front, spares) = nothing_more serves past p s' o' (fault.Work f) g spares (w, ne, may, front)
work_done serves past p s' o' schema' heard' (Err (fault.BadFrame at)) w g (e, unfit, front, same) = nothing_more serves past p s' o' (fault.BadFrame at) g (inl (w, same)) (inr (w, e ∙ ap (λ (q : Places). q.last) g.places, unfit, front), λ v. absurd (let h : work ≡ take_right = sym w ∙ v in cc))
work_done serves past p s' o' schema' heard' (Err fault.LeftRead) w g x = absurd x
work_done serves past p s' o' schema' heard' (Err fault.LeftWrite) w g x = absurd x
work_done serves past p s' o' schema' heard' (Err fault.Right) w g x = absurd x
work_done serves past p s' o' schema' heard' (Err fault.EndedEarly) w g x = absurd x
work_done serves past p s' o' schema' heard' (Err fault.Spent) w g x = absurd x
work_done serves past p s' o' schema' heard' (Err (fault.Told status)) w g x = absurd x
work_done serves past p s' o' schema' heard' (Err fault.OutOfMemory) w g x = absurd x

-- ---- the room

on_ok : {T E : Type 0} (P : Type 0) (result : Result T E) → P → OnOk result P
on_ok P (Ok x) p = p
on_ok P (Err f) p = tt

-- an answer, or a fault that isn't one of work
abbrev pub NoWork : Result Moved LoopFault → Type 0
NoWork (Ok x) = ⊤
NoWork (Err (fault.Work f)) = ⊥
NoWork (Err _) = ⊤

pub take_no_work : (serves : User → Type 0) (s s' : LocalState quel_sorts) (known known' : Option (List ℕ)) (i i' : Incoming) (failed : LoopFault) (result : Result Moved LoopFault) → IsHeld i →
    ((taken : List Frame) (bytes : List ℕ) → Holds taken bytes i → TakeDone serves s s' taken bytes known known' failed i' result) → NoWork result
take_no_work serves s s' known known' i i' failed result (taken, bytes, held) done = go result (done taken bytes held)
  where
    go : (r : Result Moved LoopFault) → TakeDone serves s s' taken bytes known known' failed i' r → NoWork r
    go (Ok x) d = tt
    go (Err (fault.Work f)) d = d.took.2
    go (Err fault.LeftRead) d = tt
    go (Err fault.LeftWrite) d = tt
    go (Err fault.Right) d = tt
    go (Err fault.EndedEarly) d = tt
    go (Err fault.Spent) d = tt
    go (Err (fault.BadFrame at)) d = tt
    go (Err (fault.Told status)) d = tt
    go (Err fault.OutOfMemory) d = tt

not_work : (f failed : LoopFault) → f ≡ failed → NoWork (Err failed) → NoWork (Err f)
not_work f failed e n = rw e n

pub give_no_work : (s s' : LocalState quel_sorts) (o o' : Outlet) (failed : LoopFault) (result : Result Moved LoopFault) → NoWork (Err failed) → Gave s s' o o' failed result → NoWork result
give_no_work s s' o o' failed (Ok x) n g = tt
give_no_work s s' o o' failed (Err f) n (inl (e, k)) = not_work f fault.OutOfMemory e tt
give_no_work s s' o o' failed (Err f) n (inr (e, part)) = not_work f failed e n

inside_alone : (result : Result Moved LoopFault) → NoWork result → IsLoopInside result
inside_alone (Ok x) n = tt
inside_alone (Err (fault.Work f)) n = absurd n
inside_alone (Err fault.LeftRead) n = tt
inside_alone (Err fault.LeftWrite) n = tt
inside_alone (Err fault.Right) n = tt
inside_alone (Err fault.EndedEarly) n = tt
inside_alone (Err fault.Spent) n = tt
inside_alone (Err (fault.BadFrame at)) n = tt
inside_alone (Err (fault.Told status)) n = tt
inside_alone (Err fault.OutOfMemory) n = tt

within_alone : (heard heard' : ℕ) (result : Result Moved LoopFault) → heard' ≡ heard → NoWork result → LoopWithin heard heard' result
within_alone heard heard' (Ok x) e n le = omega (arith, e, le)
within_alone heard heard' (Err (fault.Work f)) e n le = absurd n
within_alone heard heard' (Err fault.LeftRead) e n le = omega (arith, e, le)
within_alone heard heard' (Err fault.LeftWrite) e n le = omega (arith, e, le)
within_alone heard heard' (Err fault.Right) e n le = omega (arith, e, le)
within_alone heard heard' (Err fault.EndedEarly) e n le = omega (arith, e, le)
within_alone heard heard' (Err fault.Spent) e n le = omega (arith, e, le)
within_alone heard heard' (Err (fault.BadFrame at)) e n le = omega (arith, e, le)
within_alone heard heard' (Err (fault.Told status)) e n le = omega (arith, e, le)
within_alone heard heard' (Err fault.OutOfMemory) e n le = omega (arith, e, le)

counts_alone : (o : Outside) (result : Result Moved LoopFault) → NoWork result → LoopCounts o o result
counts_alone o (Ok x) n = refl
counts_alone o (Err (fault.Work f)) n = absurd n
counts_alone o (Err fault.LeftRead) n = refl
counts_alone o (Err fault.LeftWrite) n = refl
counts_alone o (Err fault.Right) n = refl
counts_alone o (Err fault.EndedEarly) n = refl
counts_alone o (Err fault.Spent) n = refl
counts_alone o (Err (fault.BadFrame at)) n = refl
counts_alone o (Err (fault.Told status)) n = refl
counts_alone o (Err fault.OutOfMemory) n = refl

-- nothing was done in the room
pub room_alone : (place heard heard' : ℕ) (o : Outside) (result : Result Moved LoopFault) → heard' ≡ heard → NoWork result → RoomKept place heard heard' o o result
room_alone place heard heard' o result e none = record {
  later = later_same o;
  script = script_same heard heard' o e;
  database = on_ok (KeepsDatabase o o) result (database_same o);
  ends = λ apart. record { same = refl; unread = e; inside = inside_alone result none };
  given = heard_same heard heard' o.given e;
  within = within_alone heard heard' result e none;
  counts = counts_alone o result none;
}
