-- Where not all have ended, some stage is not blocked.
use Rattle.std.proofs.Common.{◌≡◌, ◌⊎◌, inl, inr, ◌≤◌, ℕ, Bool, true, false, List, [], ◌∷◌, ◌++◌, Some, None, map, length, not, nat_lt, refl, sym, ap, ◌∙◌, append_assoc, arith}
use Rattle.std.proofs.lemmas.List.{append-nil}
use Rattle.std.proofs.lemmas.Grind.{common_steps}
use Rattle.std.specs.declared.option.Option.{Option}
use Rattle.frame_codec.specs.declared.frame.Frame.{Frame}
use Rattle.network_meaning.specs.Sorts.{Sorts, Message, Said, Shown, Cargo.tree, Said.shown, Said.replied, Message.text, Message.cargo, Message.said, Message.end, Message.quit}
use Rattle.network_meaning.specs.Language.{Language}
use Rattle.network_meaning.specs.Frames.{spell, AllMore, is_more}
use Rattle.network_meaning.specs.LocalSteps.{Mode, Mode.waiting, Mode.printing, Mode.idle3, Mode.idle4, Mode.idle2, Mode.parsing, Mode.reading, Mode.ended, Want, want_of}
use Rattle.network_meaning.specs.LocalSteps.{Want.take_left, Want.take_right, Want.give_left, Want.give_right, Want.work, Want.none}
use Rattle.network_meaning.specs.MessageNetwork.{StageNumber, StageNumber.first, StageNumber.second, StageNumber.third, StageNumber.fourth}
use Rattle.network_meaning.specs.Orderly.{Phase, Place, Front, spread, front_mode, mode_two, mode_three, mode_four, Phase.reads, Phase.closes, Phase.sends, Phase.away, Phase.quits_a, Phase.quits_b, Phase.quits_c, Phase.over, Place.at_two, Place.in_b, Place.at_three, Place.in_c, Place.at_four, Place.in_d, Place.in_e_tables, Place.in_e_reply, Place.in_f}
use Rattle.network_meaning.proofs.Frames.{IsCut, is_cut}
use Rattle.network_meaning.specs.Going.{SomeGoes, goes, AllEnded}
use Rattle.network_meaning.specs.Network.{LocalState, Network, between, want, want_with, is_blocked, is_empty, left_room, right_room, Shows}

-- a row of frames that spells a message: the pipe has one, or there is one to give
pub data Ready {F : Type 0} (pipe out : List F) : Type 0 where
  in_pipe : is_empty pipe ≡ false → Ready pipe out
  to_give : pipe ≡ [] → is_empty out ≡ false → Ready pipe out

-- half a message does not end it
not_all_more : (got mores : List Frame) (last : Frame) (rest : List Frame) → AllMore got → is_more last ≡ false → got ≡ mores ++ last ∷ rest → ⊥
not_all_more [] [] last rest h e eq = cc
not_all_more [] (m ∷ ms) last rest h e eq = cc
not_all_more (g ∷ gs) [] last rest h e eq = let a : g ≡ last = cc in let b : is_more g ≡ true = h.0 in let d : is_more last ≡ true = rw a at b in cc
not_all_more (g ∷ gs) (m ∷ ms) last rest h e eq = let t : gs ≡ ms ++ last ∷ rest = cc in not_all_more gs ms last rest h.1 e t

pub ready : {S : Sorts} (L : Language S) (got pipe out : List Frame) (m : Message S) (ms : List (Message S)) → AllMore got → got ++ (pipe ++ out) ≡ spell L (m ∷ ms) → Ready pipe out
ready L got (f ∷ fs) out m ms h e = in_pipe refl
ready L got [] (f ∷ fs) m ms h e = to_give refl refl
ready {S} L got [] [] m ms h e =
    let c : IsCut L m = is_cut L m in
    absurd (not_all_more got c.mores c.last (spell L ms) h c.ends (sym (nil got) ∙ e ∙ ap (λ (x : List Frame). x ++ spell L ms) c.cut ∙ append_assoc c.mores (c.last ∷ []) (spell L ms)))
  where
    nil : (xs : List Frame) → xs ++ [] ≡ xs
    nil xs = append-nil xs

-- nothing is spelled by nothing
pub nothing_left : {F : Type 0} (got pipe out : List F) → got ++ (pipe ++ out) ≡ [] → out ≡ []
nothing_left [] [] out e = e
nothing_left [] (f ∷ fs) out e = cc
nothing_left (g ∷ gs) pipe out e = cc

wants_left : {S : Sorts} (mode : Mode S) (left right : List Frame) → is_empty left ≡ false → want_with left right mode ≡ give_left
wants_left mode [] right e = cc
wants_left mode (f ∷ fs) right e = refl

wants_right : {S : Sorts} (mode : Mode S) (right : List Frame) → is_empty right ≡ false → want_with [] right mode ≡ give_right
wants_right mode [] e = cc
wants_right mode (f ∷ fs) e = refl

-- a stage with nothing to give is at its mode
at_mode : {S : Sorts} (capacity : ℕ) (n : Network S) (k : StageNumber) (w : Want) (mode : Mode S) → (between n k).stage.out_left ≡ [] → (between n k).stage.out_right ≡ [] → mode ≡ (between n k).stage.mode → want_of mode ≡ w →
    is_blocked (left_room capacity k) (right_room capacity k) (between n k) w ≡ false → SomeGoes capacity n
at_mode {S} capacity n k w mode e1 e2 e3 e4 b =
    let e : want (between n k).stage ≡ w = ap (λ (x : List Frame). want_with x (between n k).stage.out_right (between n k).stage.mode) e1 ∙ ap (λ (x : List Frame). want_with [] x (between n k).stage.mode) e2 ∙ ap want_of (sym e3) ∙ e4 in
    goes k (ap (is_blocked (left_room capacity k) (right_room capacity k) (between n k)) e ∙ b)

gives_left : {S : Sorts} (capacity : ℕ) (n : Network S) (k : StageNumber) → is_empty (between n k).stage.out_left ≡ false →
    is_blocked (left_room capacity k) (right_room capacity k) (between n k) give_left ≡ false → SomeGoes capacity n
gives_left capacity n k e b = goes k (ap (is_blocked (left_room capacity k) (right_room capacity k) (between n k)) (wants_left (between n k).stage.mode (between n k).stage.out_left (between n k).stage.out_right e) ∙ b)

gives_right : {S : Sorts} (capacity : ℕ) (n : Network S) (k : StageNumber) → (between n k).stage.out_left ≡ [] → is_empty (between n k).stage.out_right ≡ false →
    is_blocked (left_room capacity k) (right_room capacity k) (between n k) give_right ≡ false → SomeGoes capacity n
gives_right {S} capacity n k e0 e b =
    goes k (ap (is_blocked (left_room capacity k) (right_room capacity k) (between n k))
    (ap (λ (x : List Frame). want_with x (between n k).stage.out_right (between n k).stage.mode) e0 ∙ wants_right (between n k).stage.mode (between n k).stage.out_right e) ∙ b)

-- an empty pipe has room
has_room : {F : Type 0} (pipe : List F) (capacity : ℕ) → 1 ≤ capacity → pipe ≡ [] → not (nat_lt (length pipe) capacity) ≡ false
has_room pipe capacity h e = rw e (room_for capacity h)
  where
    room_for : (c : ℕ) → 1 ≤ c → not (nat_lt 0 c) ≡ false
    room_for c le = grind (arith, common_steps)

both : (b : Bool) → b ≡ false → b ≡ true → ⊥
both b e1 e2 = cc

full_not_empty : {F : Type 0} (pipe : List F) (capacity : ℕ) → 1 ≤ capacity → not (nat_lt (length pipe) capacity) ≡ true → is_empty pipe ≡ false
full_not_empty {F} [] capacity h e = let r : not (nat_lt 0 capacity) ≡ false = has_room {F = F} [] capacity h refl in absurd (both _ r e)
full_not_empty (f ∷ fs) capacity h e = refl

by_empty : {F : Type 0} (xs : List F) → (xs ≡ []) ⊎ (is_empty xs ≡ false)
by_empty [] = inl refl
by_empty (x ∷ xs) = inr refl

-- stage 1 while it waits, with a frame in F
one_goes : {S : Sorts} (capacity : ℕ) (n : Network S) (m : S.Monitor) (o : Option S.Head) (prints : Option (Said S)) → n.one.out_left ≡ [] → n.one.out_right ≡ [] → front_mode m o prints ≡ n.one.mode → is_empty n.f ≡ false → SomeGoes capacity n
one_goes capacity n m o None e1 e2 e3 e = at_mode capacity n first take_right (waiting m o) e1 e2 e3 refl e
one_goes capacity n m o (Some s) e1 e2 e3 e = at_mode capacity n first work (printing m o _) e1 e2 e3 refl refl

-- stage 2 has something to say: it does, or F is full
left_goes : {S : Sorts} (capacity : ℕ) (n : Network S) (m : S.Monitor) (o : Option S.Head) (prints : Option (Said S)) → 1 ≤ capacity → n.one.out_left ≡ [] → n.one.out_right ≡ [] → front_mode m o prints ≡ n.one.mode →
    is_empty n.two.out_left ≡ false → SomeGoes capacity n
left_goes capacity n m o prints le e1 e2 e3 e = go (not (nat_lt (length n.f) capacity)) refl
  where
    go : (full : Bool) → not (nat_lt (length n.f) capacity) ≡ full → SomeGoes capacity n
    go true b = one_goes capacity n m o prints e1 e2 e3 (full_not_empty n.f capacity le b)
    go false b = gives_left capacity n second e b

b_ready : {S : Sorts} (L : Language S) (capacity : ℕ) (n : Network S) (w : Front S) (p : Place S) → 1 ≤ capacity → Shows L n (spread (away w p) n.room) →
    want_of (mode_three p) ≡ take_left → n.two.out_left ≡ [] → n.three.out_left ≡ [] → n.three.out_right ≡ [] → Ready n.b n.two.out_right → SomeGoes capacity n
b_ready L capacity n w p le h m e0 e1 e2 (in_pipe e) = at_mode capacity n third take_left (mode_three p) e1 e2 h.three m e
b_ready L capacity n w p le h m e0 e1 e2 (to_give e3 e4) = gives_right capacity n second e0 e4 (has_room n.b capacity le e3)

c_ready : {S : Sorts} (L : Language S) (capacity : ℕ) (n : Network S) (w : Front S) (p : Place S) → 1 ≤ capacity → Shows L n (spread (away w p) n.room) →
    want_of (mode_four p) ≡ take_left → n.three.out_left ≡ [] → n.four.out_left ≡ [] → Ready n.c n.three.out_right → SomeGoes capacity n
c_ready L capacity n w p le h m e0 e1 (in_pipe e) = at_mode capacity n fourth take_left (mode_four p) e1 h.last_right h.four m e
c_ready L capacity n w p le h m e0 e1 (to_give e3 e4) = gives_right capacity n third e0 e4 (has_room n.c capacity le e3)

d_ready : {S : Sorts} (L : Language S) (capacity : ℕ) (n : Network S) (w : Front S) (p : Place S) → 1 ≤ capacity → Shows L n (spread (away w p) n.room) →
    want_of (mode_three p) ≡ take_right → n.three.out_left ≡ [] → n.three.out_right ≡ [] → Ready n.d n.four.out_left → SomeGoes capacity n
d_ready L capacity n w p le h m e0 e1 (in_pipe e) = at_mode capacity n third take_right (mode_three p) e0 e1 h.three m e
d_ready L capacity n w p le h m e0 e1 (to_give e3 e4) = gives_left capacity n fourth e4 (has_room n.d capacity le e3)

e_ready : {S : Sorts} (L : Language S) (capacity : ℕ) (n : Network S) (w : Front S) (p : Place S) → 1 ≤ capacity → Shows L n (spread (away w p) n.room) →
    want_of (mode_two w.ranges p) ≡ take_right → n.two.out_left ≡ [] → n.two.out_right ≡ [] → Ready n.e n.three.out_left → SomeGoes capacity n
e_ready L capacity n w p le h m e0 e1 (in_pipe e) = at_mode capacity n second take_right (mode_two w.ranges p) e0 e1 h.two m e
e_ready L capacity n w p le h m e0 e1 (to_give e3 e4) = gives_left capacity n third e4 (has_room n.e capacity le e3)

f_ready : {S : Sorts} (L : Language S) (capacity : ℕ) (n : Network S) (w : Front S) (p : Place S) → 1 ≤ capacity → Shows L n (spread (away w p) n.room) → Ready n.f n.two.out_left → SomeGoes capacity n
f_ready L capacity n w p le h (in_pipe e) = one_goes capacity n w.monitor w.open_head w.prints h.first_left (nothing_left n.two.got_left n.a n.one.out_right h.a) h.one e
f_ready L capacity n w p le h (to_give e1 e2) = left_goes capacity n w.monitor w.open_head w.prints le h.first_left (nothing_left n.two.got_left n.a n.one.out_right h.a) h.one e2

a_row : {S : Sorts} (L : Language S) (n : Network S) (coming : List (Said S)) → AllMore n.one.got_right → n.one.got_right ++ (n.f ++ n.two.out_left) ≡ spell L (map said coming ++ end ∷ []) → Ready n.f n.two.out_left
a_row L n [] h e = ready L n.one.got_right n.f n.two.out_left end [] h e
a_row L n (s ∷ ss) h e = ready L n.one.got_right n.f n.two.out_left (said s) (map said ss ++ end ∷ []) h e

tables_row : {S : Sorts} (L : Language S) (n : Network S) (ss : List (Shown S)) → AllMore n.two.got_right → n.two.got_right ++ (n.e ++ n.three.out_left) ≡ spell L (map (λ s. said (shown s)) ss ++ end ∷ []) → Ready n.e n.three.out_left
tables_row L n [] h e = ready L n.two.got_right n.e n.three.out_left end [] h e
tables_row {S} L n (s ∷ ss) h e = ready L n.two.got_right n.e n.three.out_left (said (shown s)) (map (λ (s : Shown S). said (shown s)) ss ++ end ∷ []) h e

-- stage 2 has nothing to say
quiet_goes : {S : Sorts} (L : Language S) (capacity : ℕ) (n : Network S) (w : Front S) (p : Place S) → 1 ≤ capacity → Shows L n (spread (away w p) n.room) → n.two.out_left ≡ [] → SomeGoes capacity n
quiet_goes L capacity n w (at_two b) le h e = at_mode capacity n second work (parsing w.ranges b) e (nothing_left n.three.got_left n.b n.two.out_right h.b) h.two refl refl
quiet_goes L capacity n w (in_b line b t) le h e =
    b_ready L capacity n w (in_b line b t) le h refl e (nothing_left n.two.got_right n.e n.three.out_left h.e) (nothing_left n.four.got_left n.c n.three.out_right h.c) (ready L n.three.got_left n.b n.two.out_right (cargo (tree t)) [] h.more_three_left h.b)
quiet_goes L capacity n w (at_three line b t) le h e =
    at_mode capacity n third work (mode_three (at_three line b t)) (nothing_left n.two.got_right n.e n.three.out_left h.e) (nothing_left n.four.got_left n.c n.three.out_right h.c) h.three refl refl
quiet_goes L capacity n w (in_c line b x) le h e =
    c_ready L capacity n w (in_c line b x) le h refl (nothing_left n.two.got_right n.e n.three.out_left h.e) (nothing_left n.three.got_right n.d n.four.out_left h.d) (ready L n.four.got_left n.c n.three.out_right (cargo x) [] h.more_four h.c)
quiet_goes L capacity n w (at_four line b x) le h e =
    at_mode capacity n fourth work (mode_four (at_four line b x)) (nothing_left n.three.got_right n.d n.four.out_left h.d) h.last_right h.four refl refl
quiet_goes L capacity n w (in_d line b r) le h e =
    d_ready L capacity n w (in_d line b r) le h refl (nothing_left n.two.got_right n.e n.three.out_left h.e) (nothing_left n.four.got_left n.c n.three.out_right h.c) (ready L n.three.got_right n.d n.four.out_left (said (replied r)) [] h.more_three_right h.d)
quiet_goes L capacity n w (in_e_tables line b ss) le h e =
    e_ready L capacity n w (in_e_tables line b ss) le h refl e (nothing_left n.three.got_left n.b n.two.out_right h.b) (tables_row L n ss h.more_two_right h.e)
quiet_goes L capacity n w (in_e_reply line b r) le h e =
    e_ready L capacity n w (in_e_reply line b r) le h refl e (nothing_left n.three.got_left n.b n.two.out_right h.b) (ready L n.two.got_right n.e n.three.out_left (said (replied r)) [] h.more_two_right h.e)
quiet_goes L capacity n w in_f le h e = f_ready L capacity n w in_f le h (a_row L n w.coming h.more_one h.f)

away_goes : {S : Sorts} (L : Language S) (capacity : ℕ) (n : Network S) (w : Front S) (p : Place S) → 1 ≤ capacity → Shows L n (spread (away w p) n.room) → ((n.two.out_left ≡ []) ⊎ (is_empty n.two.out_left ≡ false)) → SomeGoes capacity n
away_goes L capacity n w p le h (inl e) = quiet_goes L capacity n w p le h e
away_goes L capacity n w p le h (inr e) = left_goes capacity n w.monitor w.open_head w.prints le h.first_left (nothing_left n.two.got_left n.a n.one.out_right h.a) h.one e

-- a message from 1 to 2, from 2 to 3 or from 3 to 4 while all else is quiet
a_ready : {S : Sorts} (capacity : ℕ) (n : Network S) (two : Mode S) → 1 ≤ capacity → want_of two ≡ take_left → two ≡ n.two.mode → n.one.out_left ≡ [] → n.two.out_left ≡ [] → n.two.out_right ≡ [] → Ready n.a n.one.out_right → SomeGoes capacity n
a_ready capacity n two le m e0 e1 e2 e3 (in_pipe e) = at_mode capacity n second take_left two e2 e3 e0 m e
a_ready capacity n two le m e0 e1 e2 e3 (to_give e4 e5) = gives_right capacity n first e1 e5 (has_room n.a capacity le e4)

q_ready : {S : Sorts} (capacity : ℕ) (n : Network S) (three : Mode S) → 1 ≤ capacity → want_of three ≡ take_left → three ≡ n.three.mode → n.two.out_left ≡ [] → n.three.out_left ≡ [] → n.three.out_right ≡ [] → Ready n.b n.two.out_right → SomeGoes capacity n
q_ready capacity n three le m e0 e1 e2 e3 (in_pipe e) = at_mode capacity n third take_left three e2 e3 e0 m e
q_ready capacity n three le m e0 e1 e2 e3 (to_give e4 e5) = gives_right capacity n second e1 e5 (has_room n.b capacity le e4)

r_ready : {S : Sorts} (capacity : ℕ) (n : Network S) (four : Mode S) → 1 ≤ capacity → want_of four ≡ take_left → four ≡ n.four.mode → n.three.out_left ≡ [] → n.four.out_left ≡ [] → n.four.out_right ≡ [] → Ready n.c n.three.out_right → SomeGoes capacity n
r_ready capacity n four le m e0 e1 e2 e3 (in_pipe e) = at_mode capacity n fourth take_left four e2 e3 e0 m e
r_ready capacity n four le m e0 e1 e2 e3 (to_give e4 e5) = gives_right capacity n third e1 e5 (has_room n.c capacity le e4)

ended_with : {S : Sorts} (s : LocalState S) → s.out_left ≡ [] → s.out_right ≡ [] → ended ≡ s.mode → want s ≡ none
ended_with {S} s e1 e2 e3 = ap (λ (x : List Frame). want_with x s.out_right s.mode) e1 ∙ ap (λ (x : List Frame). want_with [] x s.mode) e2 ∙ ap want_of (sym e3)

pub progress : {S : Sorts} (L : Language S) (capacity : ℕ) (n : Network S) (p : Phase S) → 1 ≤ capacity → Shows L n (spread p n.room) → SomeGoes capacity n ⊎ AllEnded n
progress L capacity n (reads m ranges) le h = inl (at_mode capacity n first work (reading m) h.first_left (nothing_left n.two.got_left n.a n.one.out_right h.a) h.one refl refl)
progress L capacity n (closes m o ranges) le h = inl (at_mode capacity n first work (printing m o end) h.first_left (nothing_left n.two.got_left n.a n.one.out_right h.a) h.one refl refl)
progress L capacity n (sends m ranges t) le h =
    inl (a_ready capacity n (idle2 ranges) le refl h.two h.first_left (nothing_left n.one.got_right n.f n.two.out_left h.f) (nothing_left n.three.got_left n.b n.two.out_right h.b) (ready L n.two.got_left n.a n.one.out_right (text t) [] h.more_two_left h.a))
progress L capacity n (away w p) le h = inl (away_goes L capacity n w p le h (by_empty n.two.out_left))
progress L capacity n (quits_a ranges) le h =
    inl (a_ready capacity n (idle2 ranges) le refl h.two h.first_left (nothing_left n.one.got_right n.f n.two.out_left h.f) (nothing_left n.three.got_left n.b n.two.out_right h.b) (ready L n.two.got_left n.a n.one.out_right quit [] h.more_two_left h.a))
progress L capacity n quits_b le h =
    inl (q_ready capacity n idle3 le refl h.three (nothing_left n.one.got_right n.f n.two.out_left h.f) (nothing_left n.two.got_right n.e n.three.out_left h.e) (nothing_left n.four.got_left n.c n.three.out_right h.c) (ready L n.three.got_left n.b n.two.out_right quit [] h.more_three_left h.b))
progress L capacity n quits_c le h =
    inl (r_ready capacity n idle4 le refl h.four (nothing_left n.two.got_right n.e n.three.out_left h.e) (nothing_left n.three.got_right n.d n.four.out_left h.d) h.last_right (ready L n.four.got_left n.c n.three.out_right quit [] h.more_four h.c))
progress L capacity n over le h =
    inr (record {
      one = ended_with n.one h.first_left (nothing_left n.two.got_left n.a n.one.out_right h.a) h.one;
      two = ended_with n.two (nothing_left n.one.got_right n.f n.two.out_left h.f) (nothing_left n.three.got_left n.b n.two.out_right h.b) h.two;
      three = ended_with n.three (nothing_left n.two.got_right n.e n.three.out_left h.e) (nothing_left n.four.got_left n.c n.three.out_right h.c) h.three;
      four = ended_with n.four (nothing_left n.three.got_right n.d n.four.out_left h.d) h.last_right h.four;
    })
