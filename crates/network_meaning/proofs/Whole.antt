-- The equation for the network of frames.
use Rattle.std.proofs.Common.{◌≡◌, ◌⊎◌, inl, inr, ℕ, Bool, true, false, List, [], ◌∷◌, ◌++◌, refl, sym, ap, subst, ◌∙◌, append_assoc, ◌≤◌, ◌+◌, ◌*◌, ◌<◌, arith}
use Rattle.frame_codec.specs.declared.frame.Frame.{Frame}
use Rattle.network_meaning.specs.Sorts.{Sorts, Message}
use Rattle.network_meaning.specs.Language.{Language}
use Rattle.network_meaning.specs.Frames.{spell, AllMore, whole, is_more}
use Rattle.network_meaning.specs.Laws.{Laws}
use Rattle.network_meaning.specs.LocalSteps.{Mode, Act, Want, Works, Room, want_of}
use Rattle.network_meaning.specs.Lawful.{FitWork}
use Rattle.network_meaning.specs.LocalSteps.{Want.take_left, Want.take_right, Want.give_left, Want.give_right, Want.work, Want.none}
use Rattle.network_meaning.specs.MessageNetwork.{MessageNetwork, Beside, beside, put, MessageStepBy, StageNumber, StageNumber.first, StageNumber.second, StageNumber.third, StageNumber.fourth}
use Rattle.network_meaning.specs.Held.{total}
use Rattle.network_meaning.specs.Due.{IsDue}
use Rattle.network_meaning.specs.Spelled.{EachSpelled, IsSpelled}
use Rattle.network_meaning.specs.Orderly.{Phase, spread, FitPhase, RoutedPhase, Phase.reads, Phase.closes, Phase.sends, Phase.away, Phase.quits_a, Phase.quits_b, Phase.quits_c, Phase.over}
use Rattle.network_meaning.specs.Network.{LocalState, Network, Between, between, put_between, StepsBy, want, NetworkStep, StepsUnlessBlocked, Shows, gather, and_then, as_messages, Orderly, bytes_in_all, HasTakenLeft, HasTakenRight, FrameFromLeft, FrameFromRight, FrameToLeft, FrameToRight}
use Rattle.network_meaning.specs.WorkLeft.{Work, WorkLaws, weight, gifts, cost, frames_in, work_left, Lowers}
use Rattle.network_meaning.proofs.Frames.{IsCut, is_cut, whole_frames}
use Rattle.network_meaning.proofs.LoweringFirst.{step_lowers}
use Rattle.network_meaning.proofs.Refines.{Fits, Follows, stays, moves, refines}
use Rattle.network_meaning.proofs.Keeps.{Keeps}
use Rattle.network_meaning.proofs.NothingUnlawful.{works_at, routed_of}
use Rattle.network_meaning.proofs.First.{step_keeps}

gather_more : {S : Sorts} (L : Language S) (begun mores : List Frame) (last : Frame) (rest : List Frame) → AllMore mores → is_more last ≡ false →
    gather L begun (mores ++ last ∷ rest) ≡ and_then (whole L (begun ++ (mores ++ last ∷ []))) (gather L [] rest)
gather_more L begun [] last rest h e = rw (gather, e) refl
gather_more L begun (f ∷ fs) last rest h e = rw (gather, h.0) (gather_more L (begun ++ f ∷ []) fs last rest h.1 e ∙ ap (λ x. and_then (whole L x) (gather L [] rest)) (append_assoc begun (f ∷ []) (fs ++ last ∷ [])))

pub gather_spell : {S : Sorts} (L : Language S) (ms : List (Message S)) → EachSpelled L ms → gather L [] (spell L ms) ≡ ms
gather_spell L [] sp = refl
gather_spell L (m ∷ ms) sp =
    let c : IsCut L m = is_cut L m in
    ap (λ x. gather L [] (x ++ spell L ms)) c.cut ∙ ap (gather L []) (append_assoc c.mores (c.last ∷ []) (spell L ms))
    ∙ gather_more L [] c.mores c.last (spell L ms) c.more c.ends
    ∙ rw (← c.cut, whole_frames L m sp.0, gather_spell L ms sp.1) refl

-- what it shows is the view
pub shown_view : {S : Sorts} (L : Language S) (n : Network S) (v : MessageNetwork S) → Shows L n v → IsSpelled L v → as_messages L n ≡ v
shown_view L n v h sp =
    rw (h.a, h.b, h.c, h.d, h.e, h.f, h.first_left, h.last_right)
    (rw (gather_spell L v.a sp.a, gather_spell L v.b sp.b, gather_spell L v.c sp.c, gather_spell L v.d sp.d, gather_spell L v.e sp.e, gather_spell L v.f sp.f, gather_spell L v.first_left sp.first_left, gather_spell L v.last_right sp.last_right, ← h.one, ← h.two, ← h.three, ← h.four, ← h.room) refl)

-- a stage with nothing on its left keeps it so
record LeftEdge {S : Sorts} (s s' : Between S) : Type 0 where
  pub pipe : s'.left_out ≡ s.left_out
  pub got : s'.stage.got_left ≡ s.stage.got_left

record RightEdge {S : Sorts} (s s' : Between S) : Type 0 where
  pub pipe : s'.right_out ≡ s.right_out
  pub got : s'.stage.got_right ≡ s.stage.got_right

left_taken : {S : Sorts} (L : Language S) (s s' : LocalState S) (f : Frame) (more : Bool) → HasTakenRight L s f more s' → s'.got_left ≡ s.got_left
left_taken L s s' f true (go, e) = ap (λ x. x.got_left) e
left_taken L s s' f false (act, e1, e) = ap (λ x. x.got_left) e

right_taken : {S : Sorts} (L : Language S) (s s' : LocalState S) (f : Frame) (more : Bool) → HasTakenLeft L s f more s' → s'.got_right ≡ s.got_right
right_taken L s s' f true (go, e) = ap (λ x. x.got_right) e
right_taken L s s' f false (act, e1, e) = ap (λ x. x.got_right) e

left_from_right : {S : Sorts} (L : Language S) (s s' : Between S) (pipe : List Frame) → FrameFromRight L s pipe s' → LeftEdge s s'
left_from_right L s s' [] g = absurd g
left_from_right L s s' (f ∷ fs) (stage', e1, e2) = record { pipe = ap (λ x. x.left_out) e2; got = ap (λ x. x.stage.got_left) e2 ∙ left_taken L s.stage stage' f (is_more f) e1 }

right_from_left : {S : Sorts} (L : Language S) (s s' : Between S) (pipe : List Frame) → FrameFromLeft L s pipe s' → RightEdge s s'
right_from_left L s s' [] g = absurd g
right_from_left L s s' (f ∷ fs) (stage', e1, e2) = record { pipe = ap (λ x. x.right_out) e2; got = ap (λ x. x.stage.got_right) e2 ∙ right_taken L s.stage stage' f (is_more f) e1 }

left_to_right : {S : Sorts} (s s' : Between S) (out : List Frame) → FrameToRight s out s' → LeftEdge s s'
left_to_right s s' [] g = absurd g
left_to_right s s' (f ∷ fs) e = record { pipe = ap (λ x. x.left_out) e; got = ap (λ x. x.stage.got_left) e }

right_to_left : {S : Sorts} (s s' : Between S) (out : List Frame) → FrameToLeft s out s' → RightEdge s s'
right_to_left s s' [] g = absurd g
right_to_left s s' (f ∷ fs) e = record { pipe = ap (λ x. x.right_out) e; got = ap (λ x. x.stage.got_right) e }

left_by_mode : {S : Sorts} (W : Mode S → Room S → Act S → Room S → Type 0) (L : Language S) (s s' : Between S) (w : Want) → s.left_in ≡ [] → s.stage.out_left ≡ [] → StepsBy W L s w s' → LeftEdge s s'
left_by_mode W L s s' take_left e1 e2 g = absurd (rw e1 at g)
left_by_mode W L s s' take_right e1 e2 g = left_from_right L s s' s.right_in g
left_by_mode W L s s' give_left e1 e2 g = absurd (rw e2 at g)
left_by_mode W L s s' give_right e1 e2 g = left_to_right s s' s.stage.out_right g
left_by_mode W L s s' work e1 e2 (act, room', w, e) = record { pipe = ap (λ x. x.left_out) e; got = ap (λ x. x.stage.got_left) e }
left_by_mode W L s s' none e1 e2 g = absurd g

right_by_mode : {S : Sorts} (W : Mode S → Room S → Act S → Room S → Type 0) (L : Language S) (s s' : Between S) (w : Want) → s.right_in ≡ [] → s.stage.out_right ≡ [] → StepsBy W L s w s' → RightEdge s s'
right_by_mode W L s s' take_left e1 e2 g = right_from_left L s s' s.left_in g
right_by_mode W L s s' take_right e1 e2 g = absurd (rw e1 at g)
right_by_mode W L s s' give_left e1 e2 g = right_to_left s s' s.stage.out_left g
right_by_mode W L s s' give_right e1 e2 g = absurd (rw e2 at g)
right_by_mode W L s s' work e1 e2 (act, room', w, e) = record { pipe = ap (λ x. x.right_out) e; got = ap (λ x. x.stage.got_right) e }
right_by_mode W L s s' none e1 e2 g = absurd g

-- a step of frames is a step of messages, and the stage has done what it does at its mode, with nothing to give before
abbrev pub Moved : {S : Sorts} → (Mode S → Room S → Act S → Room S → Type 0) → Language S → StageNumber → MessageNetwork S → Network S → Network S → MessageNetwork S → Type 0
Moved W L k v n n' now =
    MessageStepBy W L k v now × (1 + (frames_in n' + 2 * gifts L k v) ≤ frames_in n + (2 * gifts L k now + cost (want_of (beside v k).mode))) × (want (between n k).stage ≡ want_of (beside v k).mode)

pub record NextBy {S : Sorts} (W : Mode S → Room S → Act S → Room S → Type 0) (L : Language S) (k : StageNumber) (v : MessageNetwork S) (n n' : Network S) : Type 0 where
  pub now : MessageNetwork S
  pub shows : Shows L n' now
  pub step : ((now ≡ v) × (1 + frames_in n' ≤ frames_in n)) ⊎ Moved W L k v n n' now

abbrev pub Next : {S : Sorts} → Language S → StageNumber → MessageNetwork S → Network S → Network S → Type 0
Next L k v n n' = NextBy (Works L) L k v n n'

first_fits : {S : Sorts} (L : Language S) (n : Network S) (v : MessageNetwork S) → Shows L n v → IsSpelled L v → v.first_left ≡ [] → Fits L (between n first) (beside v first) [] [] n.two.out_left n.two.got_left
first_fits L n v h sp e = record { mode = h.one; room = h.room; left_in = rw h.first_got refl; left_out = h.first_left; right_in = h.f; right_out = h.a; more_left = rw h.first_got tt; more_right = h.more_one; spelled_left = tt; spelled_right = sp.f }

first_next : {S : Sorts} (W : Mode S → Room S → Act S → Room S → Type 0) (L : Language S) (n : Network S) (v : MessageNetwork S) (s' : Between S) → Shows L n v → IsSpelled L v → v.first_left ≡ [] → StepsBy W L (between n first) (want (between n first).stage) s' → NextBy W L first v n (put_between n first s')
first_next {S} W L n v s' h sp e g =
    let edge : LeftEdge (between n first) s' = left_by_mode W L (between n first) s' (want (between n first).stage) refl (rw e at h.first_left) g in
    go (refines W L (between n first) s' (beside v first) [] [] n.two.out_left n.two.got_left (first_fits L n v h sp e) g) edge
  where
    shown : (t : Beside S) → Fits L s' t [] [] n.two.out_left n.two.got_left → LeftEdge (between n first) s' → Shows L (put_between n first s') (put v first t)
    shown t f edge = record {
      one = f.mode;
      two = h.two;
      three = h.three;
      four = h.four;
      room = f.room;
      a = f.right_out;
      b = h.b;
      c = h.c;
      d = h.d;
      e = h.e;
      f = f.right_in;
      first_left = rw edge.pipe at f.left_out;
      last_right = h.last_right;
      first_got = rw edge.got h.first_got;
      last_got = h.last_got;
      more_one = f.more_right;
      more_two_left = h.more_two_left;
      more_two_right = h.more_two_right;
      more_three_left = h.more_three_left;
      more_three_right = h.more_three_right;
      more_four = h.more_four;
    }

    go : Follows W L (between n first) s' (beside v first) [] [] n.two.out_left n.two.got_left → LeftEdge (between n first) s' → NextBy W L first v n (put_between n first s')
    go (stays f fewer) edge = record { now = v; shows = shown (beside v first) f edge; step = inl (refl, omega arith) }
    go (moves t wants m f fewer) edge = record { now = put v first t; shows = shown t f edge; step = inr ((t, m, refl), omega arith, wants) }

second_next : {S : Sorts} (W : Mode S → Room S → Act S → Room S → Type 0) (L : Language S) (n : Network S) (v : MessageNetwork S) (s' : Between S) → Shows L n v → IsSpelled L v → StepsBy W L (between n second) (want (between n second).stage) s' → NextBy W L second v n (put_between n second s')
second_next {S} W L n v s' h sp g =
    go (refines W L (between n second) s' (beside v second) n.one.out_right n.one.got_right n.three.out_left n.three.got_left
    (record { mode = h.two; room = h.room; left_in = h.a; left_out = h.f; right_in = h.e; right_out = h.b; more_left = h.more_two_left; more_right = h.more_two_right; spelled_left = sp.a; spelled_right = sp.e }) g)
  where
    shown : (t : Beside S) → Fits L s' t n.one.out_right n.one.got_right n.three.out_left n.three.got_left → Shows L (put_between n second s') (put v second t)
    shown t f = record {
      one = h.one;
      two = f.mode;
      three = h.three;
      four = h.four;
      room = f.room;
      a = f.left_in;
      b = f.right_out;
      c = h.c;
      d = h.d;
      e = f.right_in;
      f = f.left_out;
      first_left = h.first_left;
      last_right = h.last_right;
      first_got = h.first_got;
      last_got = h.last_got;
      more_one = h.more_one;
      more_two_left = f.more_left;
      more_two_right = f.more_right;
      more_three_left = h.more_three_left;
      more_three_right = h.more_three_right;
      more_four = h.more_four;
    }

    go : Follows W L (between n second) s' (beside v second) n.one.out_right n.one.got_right n.three.out_left n.three.got_left → NextBy W L second v n (put_between n second s')
    go (stays f fewer) = record { now = v; shows = shown (beside v second) f; step = inl (refl, omega arith) }
    go (moves t wants m f fewer) = record { now = put v second t; shows = shown t f; step = inr ((t, m, refl), omega arith, wants) }

third_next : {S : Sorts} (W : Mode S → Room S → Act S → Room S → Type 0) (L : Language S) (n : Network S) (v : MessageNetwork S) (s' : Between S) → Shows L n v → IsSpelled L v → StepsBy W L (between n third) (want (between n third).stage) s' → NextBy W L third v n (put_between n third s')
third_next {S} W L n v s' h sp g =
    go (refines W L (between n third) s' (beside v third) n.two.out_right n.two.got_right n.four.out_left n.four.got_left
    (record { mode = h.three; room = h.room; left_in = h.b; left_out = h.e; right_in = h.d; right_out = h.c; more_left = h.more_three_left; more_right = h.more_three_right; spelled_left = sp.b; spelled_right = sp.d }) g)
  where
    shown : (t : Beside S) → Fits L s' t n.two.out_right n.two.got_right n.four.out_left n.four.got_left → Shows L (put_between n third s') (put v third t)
    shown t f = record {
      one = h.one;
      two = h.two;
      three = f.mode;
      four = h.four;
      room = f.room;
      a = h.a;
      b = f.left_in;
      c = f.right_out;
      d = f.right_in;
      e = f.left_out;
      f = h.f;
      first_left = h.first_left;
      last_right = h.last_right;
      first_got = h.first_got;
      last_got = h.last_got;
      more_one = h.more_one;
      more_two_left = h.more_two_left;
      more_two_right = h.more_two_right;
      more_three_left = f.more_left;
      more_three_right = f.more_right;
      more_four = h.more_four;
    }

    go : Follows W L (between n third) s' (beside v third) n.two.out_right n.two.got_right n.four.out_left n.four.got_left → NextBy W L third v n (put_between n third s')
    go (stays f fewer) = record { now = v; shows = shown (beside v third) f; step = inl (refl, omega arith) }
    go (moves t wants m f fewer) = record { now = put v third t; shows = shown t f; step = inr ((t, m, refl), omega arith, wants) }

fourth_next : {S : Sorts} (W : Mode S → Room S → Act S → Room S → Type 0) (L : Language S) (n : Network S) (v : MessageNetwork S) (s' : Between S) → Shows L n v → IsSpelled L v → v.last_right ≡ [] → StepsBy W L (between n fourth) (want (between n fourth).stage) s' → NextBy W L fourth v n (put_between n fourth s')
fourth_next {S} W L n v s' h sp e g =
    let edge : RightEdge (between n fourth) s' = right_by_mode W L (between n fourth) s' (want (between n fourth).stage) refl (rw e at h.last_right) g in
    go (refines W L (between n fourth) s' (beside v fourth) n.three.out_right n.three.got_right [] []
    (record { mode = h.four; room = h.room; left_in = h.c; left_out = h.d; right_in = rw h.last_got refl; right_out = h.last_right; more_left = h.more_four; more_right = rw h.last_got tt; spelled_left = sp.c; spelled_right = tt }) g) edge
  where
    shown : (t : Beside S) → Fits L s' t n.three.out_right n.three.got_right [] [] → RightEdge (between n fourth) s' → Shows L (put_between n fourth s') (put v fourth t)
    shown t f edge = record {
      one = h.one;
      two = h.two;
      three = h.three;
      four = f.mode;
      room = f.room;
      a = h.a;
      b = h.b;
      c = f.left_in;
      d = f.left_out;
      e = h.e;
      f = h.f;
      first_left = h.first_left;
      last_right = rw edge.pipe at f.right_out;
      first_got = h.first_got;
      last_got = rw edge.got h.last_got;
      more_one = h.more_one;
      more_two_left = h.more_two_left;
      more_two_right = h.more_two_right;
      more_three_left = h.more_three_left;
      more_three_right = h.more_three_right;
      more_four = f.more_left;
    }

    go : Follows W L (between n fourth) s' (beside v fourth) n.three.out_right n.three.got_right [] [] → RightEdge (between n fourth) s' → NextBy W L fourth v n (put_between n fourth s')
    go (stays f fewer) edge = record { now = v; shows = shown (beside v fourth) f edge; step = inl (refl, omega arith) }
    go (moves t wants m f fewer) edge = record { now = put v fourth t; shows = shown t f edge; step = inr ((t, m, refl), omega arith, wants) }

no_first_left : {S : Sorts} (p : Phase S) (room : Room S) → (spread p room).first_left ≡ []
no_first_left (reads m ranges) room = refl
no_first_left (closes m o ranges) room = refl
no_first_left (sends m ranges t) room = refl
no_first_left (away w p) room = refl
no_first_left (quits_a ranges) room = refl
no_first_left quits_b room = refl
no_first_left quits_c room = refl
no_first_left over room = refl

no_last_right : {S : Sorts} (p : Phase S) (room : Room S) → (spread p room).last_right ≡ []
no_last_right (reads m ranges) room = refl
no_last_right (closes m o ranges) room = refl
no_last_right (sends m ranges t) room = refl
no_last_right (away w p) room = refl
no_last_right (quits_a ranges) room = refl
no_last_right quits_b room = refl
no_last_right quits_c room = refl
no_last_right over room = refl

pub room_spread : {S : Sorts} (p : Phase S) (room : Room S) → (spread p room).room ≡ room
room_spread (reads m ranges) room = refl
room_spread (closes m o ranges) room = refl
room_spread (sends m ranges t) room = refl
room_spread (away w p) room = refl
room_spread (quits_a ranges) room = refl
room_spread quits_b room = refl
room_spread quits_c room = refl
room_spread over room = refl

pub any_next : {S : Sorts} (W : Mode S → Room S → Act S → Room S → Type 0) (L : Language S) (k : StageNumber) (n : Network S) (p : Phase S) (s' : Between S) → Shows L n (spread p n.room) → IsSpelled L (spread p n.room) → StepsBy W L (between n k) (want (between n k).stage) s' → NextBy W L k (spread p n.room) n (put_between n k s')
any_next W L first n p s' h sp g = first_next W L n (spread p n.room) s' h sp (no_first_left p n.room) g
any_next W L second n p s' h sp g = second_next W L n (spread p n.room) s' h sp g
any_next W L third n p s' h sp g = third_next W L n (spread p n.room) s' h sp g
any_next W L fourth n p s' h sp g = fourth_next W L n (spread p n.room) s' h sp (no_last_right p n.room) g

pub record Kept {S : Sorts} (L : Language S) (n n' : Network S) : Type 0 where
  pub orderly : Orderly L n'
  pub same : bytes_in_all L n' ≡ bytes_in_all L n

pub total_of : {S : Sorts} (L : Language S) (n : Network S) (v : MessageNetwork S) → Shows L n v → IsSpelled L v → bytes_in_all L n ≡ total L v
total_of L n v h sp = ap (total L) (shown_view L n v h sp)

-- where a network stands by its phase, whether or not what travels is fit
pub record Placed {S : Sorts} (L : Language S) (n : Network S) : Type 0 where
  pub phase : Phase S
  pub routed : RoutedPhase L phase
  pub due : IsDue L (spread phase n.room)
  pub spelled : IsSpelled L (spread phase n.room)
  pub shows : Shows L n (spread phase n.room)

-- it stands so again, fit where it was fit, with the same bytes in all
pub record PlacedNext {S : Sorts} (L : Language S) (n n' : Network S) (o : Placed L n) : Type 0 where
  pub now : Placed L n'
  pub fits : FitPhase L o.phase n.room.db → FitPhase L now.phase n'.room.db
  pub same : bytes_in_all L n' ≡ bytes_in_all L n

-- the stage at its mode works on what is fit
abbrev pub FitAt : {S : Sorts} → Language S → StageNumber → Network S → MessageNetwork S → Type 0
FitAt L k n v = want (between n k).stage ≡ want_of (beside v k).mode → FitWork L (beside v k).mode v.room.db

placed_by : {S : Sorts} (L : Language S) (laws : Laws L) (k : StageNumber) (n n' : Network S) (o : Placed L n) (now : MessageNetwork S) → FitAt L k n (spread o.phase n.room) → Shows L n' now →
    (((now ≡ spread o.phase n.room) × (1 + frames_in n' ≤ frames_in n)) ⊎ Moved (Works L) L k (spread o.phase n.room) n n' now) → PlacedNext L n n' o
placed_by L laws k n n' o now fit h (inl (e, fewer)) =
    let h' : Shows L n' (spread o.phase n.room) = subst (λ v. Shows L n' v) e h in
    let er : n.room ≡ n'.room = sym (room_spread o.phase n.room) ∙ h'.room in
    let spelled : IsSpelled L (spread o.phase n'.room) = subst (λ r. IsSpelled L (spread o.phase r)) er o.spelled in
    record {
      now = record { phase = o.phase; routed = o.routed; due = subst (λ r. IsDue L (spread o.phase r)) er o.due; spelled = spelled; shows = subst (λ r. Shows L n' (spread o.phase r)) er h' };
      fits = λ f. subst (λ r. FitPhase L o.phase r.db) er f;
      same = total_of L n' _ h' o.spelled ∙ sym (total_of L n _ o.shows o.spelled);
    }
placed_by {S} L laws k n n' o now fit h (inr (st, fewer, wants)) =
    let work : FitWork L (beside (spread o.phase n.room) k).mode n.room.db = subst (λ (r : Room S). FitWork L (beside (spread o.phase n.room) k).mode r.db) (room_spread o.phase n.room) (fit wants) in
    let keeps : Keeps L o.phase n.room now = step_keeps L laws o.phase n.room k now work o.due o.spelled st in
    let h' : Shows L n' (spread keeps.phase keeps.room) = subst (λ v. Shows L n' v) keeps.is h in
    let er : keeps.room ≡ n'.room = sym (room_spread keeps.phase keeps.room) ∙ h'.room in
    record {
      now = record { phase = keeps.phase; routed = keeps.routed o.routed; due = subst (λ r. IsDue L (spread keeps.phase r)) er keeps.due; spelled = subst (λ r. IsSpelled L (spread keeps.phase r)) er keeps.spelled; shows = subst (λ r. Shows L n' (spread keeps.phase r)) er h' };
      fits = λ f. subst (λ r. FitPhase L keeps.phase r.db) er (keeps.fits f);
      same = total_of L n' now h (subst (IsSpelled L) (sym keeps.is) keeps.spelled) ∙ (keeps.same ∙ sym (total_of L n _ o.shows o.spelled));
    }

-- behind a step that works on what is fit it stands so again
pub placed_next : {S : Sorts} (L : Language S) (laws : Laws L) (k : StageNumber) (n n' : Network S) (o : Placed L n) → FitAt L k n (spread o.phase n.room) → Next L k (spread o.phase n.room) n n' → PlacedNext L n n' o
placed_next L laws k n n' o fit next = placed_by L laws k n n' o next.now fit next.shows next.step

-- an orderly network stands by its phase
abbrev pub placed_of : {S : Sorts} (L : Language S) (n : Network S) → Orderly L n → Placed L n
placed_of L n o = record { phase = o.phase; routed = routed_of L o.phase n.room.db o.fits; due = o.due; spelled = o.spelled; shows = o.shows }

kept_by : {S : Sorts} (L : Language S) (laws : Laws L) (k : StageNumber) (n n' : Network S) (o : Orderly L n) → Next L k (spread o.phase n.room) n n' → Kept L n n'
kept_by {S} L laws k n n' o next =
    let fit : FitAt L k n (spread o.phase n.room) = λ wants. subst (λ (r : Room S). FitWork L (beside (spread o.phase n.room) k).mode r.db) (sym (room_spread o.phase n.room)) (works_at L o.phase n.room k o.fits o.due) in
    let p : PlacedNext L n n' (placed_of L n o) = placed_next L laws k n n' (placed_of L n o) fit next in
    record { orderly = record { phase = p.now.phase; fits = p.fits o.fits; due = p.now.due; spelled = p.now.spelled; shows = p.now.shows }; same = p.same }

kept_or : {S : Sorts} (L : Language S) (laws : Laws L) (k : StageNumber) (n n' : Network S) (blocked : Bool) → Orderly L n → StepsUnlessBlocked L k n n' blocked → Kept L n n'
kept_or L laws k n n' true o e = rw e (record { orderly = o; same = refl })
kept_or L laws k n n' false o (s', g, e) =
    let next : Next L k (spread o.phase n.room) n (put_between n k s') = any_next (Works L) L k n o.phase s' o.shows o.spelled g in
    rw e (kept_by L laws k n (put_between n k s') o next)

-- the equation: each step of each stage leaves an orderly network orderly, and the bytes in all the same
pub equation : {S : Sorts} (L : Language S) (laws : Laws L) (capacity : ℕ) (k : StageNumber) (n n' : Network S) → Orderly L n → NetworkStep L capacity k n n' → Kept L n n'
equation L laws capacity k n n' o h = kept_or L laws k n n' _ o h

-- what is on its way behind a step is spelled
pub next_spelled : {S : Sorts} (L : Language S) (laws : Laws L) (k : StageNumber) (n n' : Network S) (o : Orderly L n) (next : Next L k (spread o.phase n.room) n n') → IsSpelled L next.now
next_spelled {S} L laws k n n' o next = elim next.step [
  | inl (e, fewer) ↦ subst (IsSpelled L) (sym e) o.spelled
  | inr (st, fewer, wants) ↦ (let keeps : Keeps L o.phase n.room next.now = step_keeps L laws o.phase n.room k next.now (works_at L o.phase n.room k o.fits o.due) o.due o.spelled st in subst (IsSpelled L) (sym keeps.is) keeps.spelled)
]

below_along : (a b a' b' x y : ℕ) → a' ≡ a → b' ≡ b → a + x < b + y → a' + x < b' + y
below_along a b a' b' x y e1 e2 h = rw (e1, e2) h

lower_by : {S : Sorts} (L : Language S) (laws : Laws L) (W : Work L) (wl : WorkLaws L W) (k : StageNumber) (n n' : Network S) (o : Orderly L n) (next : Next L k (spread o.phase n.room) n n') → work_left L W n' < work_left L W n
lower_by L laws W wl k n n' o next =
    below_along _ _ _ _ (frames_in n') (frames_in n) (ap (weight L W) (shown_view L n' next.now next.shows (next_spelled L laws k n n' o next))) (ap (weight L W) (shown_view L n (spread o.phase n.room) o.shows o.spelled)) (go next.step)
  where
    go : (((next.now ≡ spread o.phase n.room) × (1 + frames_in n' ≤ frames_in n)) ⊎ Moved (Works L) L k (spread o.phase n.room) n n' next.now) → weight L W next.now + frames_in n' < weight L W (spread o.phase n.room) + frames_in n
    go (inl (e, fewer)) = rw e (omega arith)
    go (inr (st, fewer, wants)) = let low : Lowers L W k (spread o.phase n.room) next.now = step_lowers L laws W wl o.phase n.room k next.now o.fits st in omega arith

-- each step that isn't blocked lowers the work that is left
pub lowers : {S : Sorts} (L : Language S) (laws : Laws L) (W : Work L) (wl : WorkLaws L W) (k : StageNumber) (n n' : Network S) (o : Orderly L n) → StepsUnlessBlocked L k n n' false → work_left L W n' < work_left L W n
lowers {S} L laws W wl k n n' o (s', g, e) =
    let next : Next L k (spread o.phase n.room) n (put_between n k s') = any_next (Works L) L k n o.phase s' o.shows o.spelled g in
    rw e (lower_by L laws W wl k n (put_between n k s') o next)
