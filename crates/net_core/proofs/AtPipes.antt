-- What a stage did at a pipe, or where it has ended, as a step of a stage between its pipes.
use Rattle.std.proofs.Common.{IsOk, IfOk, IfErr, OnOk, OnErr, IsErrOf, ◌≡◌, ◌<◌, ◌≤◌, inl, inr, ℕ, Bool, true, false, List, [], ◌∷◌, ◌++◌, Result, Ok, Err, length, not, nat_lt, refl, arith}
use Rattle.std.proofs.lemmas.Grind.{common_steps}
use Rattle.frame_codec.specs.declared.frame.Frame.{Frame}
use Rattle.net_core.specs.Causes.{IsCaused, MayNotTake}
use Rattle.net_core.specs.declared.fault.WorkFault.{WorkFault}
use Rattle.net_core.specs.declared.fault.WorkFault.TheVariants as faults
use Rattle.net_core.specs.declared.steps.Moved.{Moved}
use Rattle.net_core.specs.declared.steps.Moved.TheVariants.{Stepped, Blocked}
use Rattle.net_core.specs.Faults.{IsOfTaking}
use Rattle.net_core.specs.Pipes.{GaveTo, TookFrom, WasEmpty}
use Rattle.net_core.specs.Steps.{FitUnlessBlocked, Piped, PipedDone, PipedMayNot, PipedMoves, PipedStepsBy, in_room}
use Rattle.net_core.specs.Known.{FailedStep, KeepsDatabase, Outside, known}
use Rattle.net_core.specs.Wants.{was_blocked}
use Rattle.net_core.specs.Spares.{CountsOnly, IsInside, Spares}
use Rattle.network_meaning.specs.Calls.{GivenLeft, GivenRight, Known}
use Rattle.network_meaning.proofs.Runs.{wrote_nothing}
use Rattle.network_meaning.specs.Language.{Language}
use Rattle.network_meaning.specs.LocalSteps.{Act, Mode, Works, Room as NetworkRoom, Want.take_left, Want.take_right, Want.give_left, Want.give_right, Want.none}
use Rattle.network_meaning.specs.Network.{LocalState, StepsBy, is_blocked, is_empty, want}
use Rattle.network_meaning.specs.WorkShape.{WorksInShape}
use Rattle.quel_network.specs.Quel.{quel}
use Rattle.quel_network.specs.Sorts.{User, quel_sorts}
use Rattle.net_core.proofs.Faulty.{later_same, no_source, reads_same, within_apart}

-- ---- results

pub if_ok : {A E : Type 0} (r : Result A E) (P Q : A → Type 0) → ((x : A) → P x → Q x) → IfOk r P → IfOk r Q
if_ok (Ok x) P Q f h = f x h
if_ok (Err e) P Q f h = tt

pub on_ok : {A E : Type 0} (r : Result A E) (P : A → Type 0) (Q : Type 0) → ((x : A) → P x → Q) → IfOk r P → OnOk r Q
on_ok (Ok x) P Q f h = f x h
on_ok (Err e) P Q f h = tt

pub on_err : {A E : Type 0} (r : Result A E) (P Q : Type 0) → (P → Q) → OnErr r P → OnErr r Q
on_err (Ok x) P Q f h = tt
on_err (Err e) P Q f h = f h

-- ---- what a stage at a pipe leaves

abbrev pub at_pipes : LocalState quel_sorts → List Frame → List Frame → List Frame → List Frame → Piped
at_pipes s li lo ro ri = record { stage = s; left_in = li; left_out = lo; right_out = ro; right_in = ri }

caused_taking : (heard : ℕ) (o o' : Outside) (result : Result Moved WorkFault) → IfErr result (λ fault. IsOfTaking fault) → IsCaused heard o o' result
caused_taking heard o o' (Ok m) c = tt
caused_taking heard o o' (Err fault) (inl e) = rw e tt
caused_taking heard o o' (Err fault) (inr e) = rw e tt

counts_alone : (o : Outside) (result : Result Moved WorkFault) → IfErr result (λ fault. IsOfTaking fault) → CountsOnly o o result
counts_alone o (Ok m) c = refl
counts_alone o (Err fault) (inl e) = rw e refl
counts_alone o (Err fault) (inr e) = rw e refl

spares_alone : (o : Outside) (result : Result Moved WorkFault) → IfErr result (λ fault. IsOfTaking fault) → Spares o o result
spares_alone o (Ok m) c = tt
spares_alone o (Err fault) (inl e) = rw e refl
spares_alone o (Err fault) (inr e) = rw e refl

inside_taking : (result : Result Moved WorkFault) → IfErr result (λ fault. IsOfTaking fault) → IsInside result
inside_taking (Ok m) c = tt
inside_taking (Err fault) (inl e) = rw e tt
inside_taking (Err fault) (inr e) = rw e tt

database_kept : (o : Outside) (result : Result Moved WorkFault) → OnOk result (KeepsDatabase o o)
database_kept o (Ok m) = λ db e. (db, e)
database_kept o (Err fault) = tt

failed_alone : (L : Language quel_sorts) (s : LocalState quel_sorts) (o : Outside) (result : Result Moved WorkFault) → OnErr result (FailedStep L s o o)
failed_alone L s o (Ok m) = tt
failed_alone L s o (Err fault) = inr refl

-- a step that leaves all outside alone
alone : (l r : ℕ) (old new : Piped) (o : Outside) (h h' p p' : ℕ) (serves serves' : User → Type 0) (result : Result Moved WorkFault) →
    ((room : NetworkRoom quel_sorts) → IfOk result (λ moved. is_blocked l r (in_room old room) (want old.stage) ≡ was_blocked moved)) →
    ((user : User) → serves user → IfOk result (λ moved. PipedMoves (quel user) l r (was_blocked moved) old new (known o) (known o))) →
    ((user : User) → serves user → IsErrOf result faults.Unlawful → PipedMayNot (quel user) old o) →
    IfErr result (λ fault. IsOfTaking fault) → ((user : User) → serves user → serves' user) → p' ≡ p → h' ≡ h →
    PipedDone l r old new o o h h' p p' serves serves' result
alone l r old new o h h' p p' serves serves' result blocked steps unlawful cause serve place heard = record {
  blocked = blocked;
  steps = steps;
  failed = λ user x. failed_alone (quel user) old.stage o result;
  unlawful = unlawful;
  untouched = λ n. refl;
  cause = caused_taking h o o result cause;
  later = later_same o;
  counts = counts_alone o result cause;
  spares = spares_alone o result cause;
  reads = reads_same old.stage.mode h h' o (IsErrOf result faults.Source) (IsOk result) (no_source result (inside_taking result cause)) heard;
  within = rw heard (within_apart h result (inside_taking result cause));
  ends = λ apart. record { same = refl; unread = heard; inside = inside_taking result cause };
  database = database_kept o result;
  serve = serve;
  placed = place;
}

-- a step in a room that stays
stays : (L : Language quel_sorts) (l r : ℕ) (blocked : Bool) (old new : Piped) (o : Known quel_sorts) →
    ((room : NetworkRoom quel_sorts) → is_blocked l r (in_room old room) (want old.stage) ≡ blocked) →
    ((room : NetworkRoom quel_sorts) → FitUnlessBlocked L (in_room old room) blocked) →
    ((W : Mode quel_sorts → NetworkRoom quel_sorts → Act quel_sorts → NetworkRoom quel_sorts → Type 0) (room : NetworkRoom quel_sorts) → PipedStepsBy W L (in_room old room) (in_room new room) blocked) →
    PipedMoves L l r blocked old new o o
stays L l r blocked old new o is fit step = record {
  is = is;
  shape = step (WorksInShape L);
  fit = λ room d s. fit room;
  exact = λ room e. record { room' = room; known = e; wrote = wrote_nothing o room; step = step (Works L) room };
}

-- ---- it took a frame

empty_blocked : (moved : Moved) (pipe : List Frame) → WasEmpty moved pipe → is_empty pipe ≡ was_blocked moved
empty_blocked Stepped [] h = absurd (h refl)
empty_blocked Stepped (f ∷ fs) h = refl
empty_blocked Blocked pipe h = rw h refl

took_left_moves : (L : Language quel_sorts) (moved : Moved) (l r : ℕ) (s s' : LocalState quel_sorts) (li li' lo ro ri : List Frame) (o : Known quel_sorts) → want s ≡ take_left → TookFrom L moved s li s' li' →
    PipedMoves L l r (was_blocked moved) (at_pipes s li lo ro ri) (at_pipes s' li' lo ro ri) o o
took_left_moves L Stepped l r s s' li li' lo ro ri o e (f, e1, t) =
    stays L l r false _ _ o (λ room. rw (e, e1) refl) (λ room. rw e tt) (λ W room. rw (e, e1) (s', (rw e at t.1), refl))
took_left_moves L Blocked l r s s' li li' lo ro ri o e (e1, e2, e3) =
    stays L l r true _ _ o (λ room. rw (e, e1) refl) (λ room. tt) (λ W room. rw (e2, e3) refl)

took_right_moves : (L : Language quel_sorts) (moved : Moved) (l r : ℕ) (s s' : LocalState quel_sorts) (li lo ro ri ri' : List Frame) (o : Known quel_sorts) → want s ≡ take_right → TookFrom L moved s ri s' ri' →
    PipedMoves L l r (was_blocked moved) (at_pipes s li lo ro ri) (at_pipes s' li lo ro ri') o o
took_right_moves L Stepped l r s s' li lo ro ri ri' o e (f, e1, t) =
    stays L l r false _ _ o (λ room. rw (e, e1) refl) (λ room. rw e tt) (λ W room. rw (e, e1) (s', (rw e at t.1), refl))
took_right_moves L Blocked l r s s' li lo ro ri ri' o e (e1, e2, e3) =
    stays L l r true _ _ o (λ room. rw (e, e1) refl) (λ room. tt) (λ W room. rw (e2, e3) refl)

-- a frame comes that the stage may not take
abbrev pub Refuses : Language quel_sorts → LocalState quel_sorts → List Frame → Type 0
Refuses L s pipe = (frame : Frame) × (later : List Frame) × (pipe ≡ frame ∷ later) × MayNotTake L s frame

refused_left : (L : Language quel_sorts) (s : LocalState quel_sorts) (li lo ro ri : List Frame) (o : Outside) → want s ≡ take_left → Refuses L s li → PipedMayNot L (at_pipes s li lo ro ri) o
refused_left L s li lo ro ri o e (f, later, e1, n) = inl (f, (λ room. rw (e, e1) refl), n)

refused_right : (L : Language quel_sorts) (s : LocalState quel_sorts) (li lo ro ri : List Frame) (o : Outside) → want s ≡ take_right → Refuses L s ri → PipedMayNot L (at_pipes s li lo ro ri) o
refused_right L s li lo ro ri o e (f, later, e1, n) = inl (f, (λ room. rw (e, e1) refl), n)

pub took_left : (l r : ℕ) (s s' : LocalState quel_sorts) (li li' lo ro ri : List Frame) (o : Outside) (h h' p p' : ℕ) (serves serves' : User → Type 0) (result : Result Moved WorkFault) → want s ≡ take_left →
    ((user : User) → serves user → IfOk result (λ moved. TookFrom (quel user) moved s li s' li')) → IfOk result (λ moved. WasEmpty moved li) →
    ((user : User) → serves user → IsErrOf result faults.Unlawful → Refuses (quel user) s li) →
    IfErr result (λ fault. IsOfTaking fault) → ((user : User) → serves user → serves' user) → p' ≡ p → h' ≡ h →
    PipedDone l r (at_pipes s li lo ro ri) (at_pipes s' li' lo ro ri) o o h h' p p' serves serves' result
took_left l r s s' li li' lo ro ri o h h' p p' serves serves' result e took blocked refused cause serve place heard =
    alone l r _ _ o h h' p p' serves serves' result (λ room. if_ok result _ _ (λ moved empty. rw e (empty_blocked moved li empty)) blocked)
    (λ user x. if_ok result _ _ (λ moved t. took_left_moves (quel user) moved l r s s' li li' lo ro ri (known o) e t) (took user x))
    (λ user x u. refused_left (quel user) s li lo ro ri o e (refused user x u)) cause serve place heard

pub took_right : (l r : ℕ) (s s' : LocalState quel_sorts) (li lo ro ri ri' : List Frame) (o : Outside) (h h' p p' : ℕ) (serves serves' : User → Type 0) (result : Result Moved WorkFault) → want s ≡ take_right →
    ((user : User) → serves user → IfOk result (λ moved. TookFrom (quel user) moved s ri s' ri')) → IfOk result (λ moved. WasEmpty moved ri) →
    ((user : User) → serves user → IsErrOf result faults.Unlawful → Refuses (quel user) s ri) →
    IfErr result (λ fault. IsOfTaking fault) → ((user : User) → serves user → serves' user) → p' ≡ p → h' ≡ h →
    PipedDone l r (at_pipes s li lo ro ri) (at_pipes s' li lo ro ri') o o h h' p p' serves serves' result
took_right l r s s' li lo ro ri ri' o h h' p p' serves serves' result e took blocked refused cause serve place heard =
    alone l r _ _ o h h' p p' serves serves' result (λ room. if_ok result _ _ (λ moved empty. rw e (empty_blocked moved ri empty)) blocked)
    (λ user x. if_ok result _ _ (λ moved t. took_right_moves (quel user) moved l r s s' li lo ro ri ri' (known o) e t) (took user x))
    (λ user x u. refused_right (quel user) s li lo ro ri o e (refused user x u)) cause serve place heard

-- ---- it gave a frame

not_full : (n m : ℕ) → n < m → not (nat_lt n m) ≡ false
not_full n m h = grind (arith, common_steps)

full : (n m : ℕ) → m ≤ n → not (nat_lt n m) ≡ true
full n m h = grind (arith, common_steps)

full_blocked : (moved : Moved) (capacity : ℕ) (s s' : LocalState quel_sorts) (pipe pipe' : List Frame) → GaveTo moved capacity s pipe s' pipe' → not (nat_lt (length pipe) capacity) ≡ was_blocked moved
full_blocked Stepped capacity s s' pipe pipe' (f, lt, e, g) = not_full (length pipe) capacity lt
full_blocked Blocked capacity s s' pipe pipe' (le, e, e2) = full (length pipe) capacity le

given_left : (W : Mode quel_sorts → NetworkRoom quel_sorts → Act quel_sorts → NetworkRoom quel_sorts → Type 0) (L : Language quel_sorts) (s s' : LocalState quel_sorts) (out : List Frame) (f : Frame) (li lo ro ri : List Frame) (room : NetworkRoom quel_sorts) → s.out_left ≡ out → GivenLeft s out f s' →
    StepsBy W L (in_room (at_pipes s li lo ro ri) room) give_left (in_room (at_pipes s' li (lo ++ f ∷ []) ro ri) room)
given_left W L s s' [] f li lo ro ri room e g = absurd g
given_left W L s s' (x ∷ xs) f li lo ro ri room e (e1, e2) = rw (e, e2, e1) refl

given_right : (W : Mode quel_sorts → NetworkRoom quel_sorts → Act quel_sorts → NetworkRoom quel_sorts → Type 0) (L : Language quel_sorts) (s s' : LocalState quel_sorts) (out : List Frame) (f : Frame) (li lo ro ri : List Frame) (room : NetworkRoom quel_sorts) → s.out_right ≡ out → GivenRight s out f s' →
    StepsBy W L (in_room (at_pipes s li lo ro ri) room) give_right (in_room (at_pipes s' li lo (ro ++ f ∷ []) ri) room)
given_right W L s s' [] f li lo ro ri room e g = absurd g
given_right W L s s' (x ∷ xs) f li lo ro ri room e (e1, e2) = rw (e, e2, e1) refl

gave_left_moves : (L : Language quel_sorts) (moved : Moved) (l r : ℕ) (s s' : LocalState quel_sorts) (li lo lo' ro ri : List Frame) (o : Known quel_sorts) → want s ≡ give_left → GaveTo moved l s lo s' lo' →
    PipedMoves L l r (was_blocked moved) (at_pipes s li lo ro ri) (at_pipes s' li lo' ro ri) o o
gave_left_moves L Stepped l r s s' li lo lo' ro ri o e (f, lt, e1, g) =
    stays L l r false _ _ o (λ room. rw e (not_full (length lo) l lt)) (λ room. rw e tt) (λ W room. rw (e, e1) (given_left W L s s' s.out_left f li lo ro ri room refl (rw e at g)))
gave_left_moves L Blocked l r s s' li lo lo' ro ri o e (le, e2, e3) =
    stays L l r true _ _ o (λ room. rw e (full (length lo) l le)) (λ room. tt) (λ W room. rw (e2, e3) refl)

gave_right_moves : (L : Language quel_sorts) (moved : Moved) (l r : ℕ) (s s' : LocalState quel_sorts) (li lo ro ro' ri : List Frame) (o : Known quel_sorts) → want s ≡ give_right → GaveTo moved r s ro s' ro' →
    PipedMoves L l r (was_blocked moved) (at_pipes s li lo ro ri) (at_pipes s' li lo ro' ri) o o
gave_right_moves L Stepped l r s s' li lo ro ro' ri o e (f, lt, e1, g) =
    stays L l r false _ _ o (λ room. rw e (not_full (length ro) r lt)) (λ room. rw e tt) (λ W room. rw (e, e1) (given_right W L s s' s.out_right f li lo ro ri room refl (rw e at g)))
gave_right_moves L Blocked l r s s' li lo ro ro' ri o e (le, e2, e3) =
    stays L l r true _ _ o (λ room. rw e (full (length ro) r le)) (λ room. tt) (λ W room. rw (e2, e3) refl)

of_memory : (result : Result Moved WorkFault) → OnErr result (IsErrOf result faults.OutOfMemory) → IfErr result (λ fault. IsOfTaking fault)
of_memory (Ok m) c = tt
of_memory (Err fault) c = inr (cc)

not_unlawful : (result : Result Moved WorkFault) → OnErr result (IsErrOf result faults.OutOfMemory) → IsErrOf result faults.Unlawful → ⊥
not_unlawful (Ok m) c e = cc
not_unlawful (Err fault) c e = cc

pub gave_left : (l r : ℕ) (s s' : LocalState quel_sorts) (li lo lo' ro ri : List Frame) (o : Outside) (h h' p p' : ℕ) (serves serves' : User → Type 0) (result : Result Moved WorkFault) → want s ≡ give_left →
    IfOk result (λ moved. GaveTo moved l s lo s' lo') → OnErr result (IsErrOf result faults.OutOfMemory) → ((user : User) → serves user → serves' user) → p' ≡ p → h' ≡ h →
    PipedDone l r (at_pipes s li lo ro ri) (at_pipes s' li lo' ro ri) o o h h' p p' serves serves' result
gave_left l r s s' li lo lo' ro ri o h h' p p' serves serves' result e gave cause serve place heard =
    alone l r _ _ o h h' p p' serves serves' result (λ room. if_ok result _ _ (λ moved g. rw e (full_blocked moved l s s' lo lo' g)) gave)
    (λ user x. if_ok result _ _ (λ moved g. gave_left_moves (quel user) moved l r s s' li lo lo' ro ri (known o) e g) gave)
    (λ user x u. absurd (not_unlawful result cause u)) (of_memory result cause) serve place heard

pub gave_right : (l r : ℕ) (s s' : LocalState quel_sorts) (li lo ro ro' ri : List Frame) (o : Outside) (h h' p p' : ℕ) (serves serves' : User → Type 0) (result : Result Moved WorkFault) → want s ≡ give_right →
    IfOk result (λ moved. GaveTo moved r s ro s' ro') → OnErr result (IsErrOf result faults.OutOfMemory) → ((user : User) → serves user → serves' user) → p' ≡ p → h' ≡ h →
    PipedDone l r (at_pipes s li lo ro ri) (at_pipes s' li lo ro' ri) o o h h' p p' serves serves' result
gave_right l r s s' li lo ro ro' ri o h h' p p' serves serves' result e gave cause serve place heard =
    alone l r _ _ o h h' p p' serves serves' result (λ room. if_ok result _ _ (λ moved g. rw e (full_blocked moved r s s' ro ro' g)) gave)
    (λ user x. if_ok result _ _ (λ moved g. gave_right_moves (quel user) moved l r s s' li lo ro ro' ri (known o) e g) gave)
    (λ user x u. absurd (not_unlawful result cause u)) (of_memory result cause) serve place heard

-- ---- it has ended

pub stopped : (l r : ℕ) (s : LocalState quel_sorts) (li lo ro ri : List Frame) (o : Outside) (h p : ℕ) (serves : User → Type 0) → want s ≡ none →
    PipedDone l r (at_pipes s li lo ro ri) (at_pipes s li lo ro ri) o o h h p p serves serves (Ok Blocked)
stopped l r s li lo ro ri o h p serves e =
    alone l r _ _ o h h p p serves serves (Ok Blocked) (λ room. rw e refl)
    (λ user x. stays (quel user) l r true _ _ (known o) (λ room. rw e refl) (λ room. tt) (λ W room. refl)) (λ user x u. cc) tt (λ user x. x) refl refl
