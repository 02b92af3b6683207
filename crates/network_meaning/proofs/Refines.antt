-- A step of frames changes nothing that the messages show, or is a step of messages.
use Rattle.std.proofs.Common.{◌≡◌, ℕ, Bool, true, false, List, [], ◌∷◌, ◌++◌, Some, refl, sym, ap, ◌∙◌, append_assoc, ◌≤◌, ◌+◌, ◌*◌, length, length-append, arith}
use Rattle.frame_codec.specs.declared.frame.Frame.{Frame}
use Rattle.network_meaning.specs.Sorts.{Sorts, Message}
use Rattle.network_meaning.specs.Language.{Language}
use Rattle.network_meaning.specs.Frames.{spell, AllMore, frames, is_more}
use Rattle.network_meaning.specs.Spelled.{EachSpelled}
use Rattle.network_meaning.specs.LocalSteps.{Mode, Want, Act, takes, want_of, Room}
use Rattle.network_meaning.specs.LocalSteps.{Want.take_left, Want.take_right, Want.give_left, Want.give_right, Want.work, Want.none}
use Rattle.network_meaning.specs.MessageNetwork.{Beside, MovesBy, acted}
use Rattle.network_meaning.specs.Network.{LocalState, Between, StepsBy, want, want_with, HasTakenLeft, HasTakenRight, FrameFromLeft, FrameFromRight, FrameToLeft, FrameToRight}
use Rattle.network_meaning.specs.WorkLeft.{size, cost}
use Rattle.network_meaning.proofs.Lowering.{size-append}
use Rattle.network_meaning.proofs.Frames.{spell-append, more-append, First, first_whole}

-- W is what a piece of work does; bl is behind the left pipe, al ahead of what goes left, and so on
pub record Fits {S : Sorts} (L : Language S) (s : Between S) (t : Beside S) (bl al br ar : List Frame) : Type 0 where
  pub mode : t.mode ≡ s.stage.mode
  pub room : t.room ≡ s.room
  pub left_in : s.stage.got_left ++ (s.left_in ++ bl) ≡ spell L t.left_in
  pub left_out : al ++ (s.left_out ++ s.stage.out_left) ≡ spell L t.left_out
  pub right_in : s.stage.got_right ++ (s.right_in ++ br) ≡ spell L t.right_in
  pub right_out : ar ++ (s.right_out ++ s.stage.out_right) ≡ spell L t.right_out
  pub more_left : AllMore s.stage.got_left
  pub more_right : AllMore s.stage.got_right
  pub spelled_left : EachSpelled L t.left_in
  pub spelled_right : EachSpelled L t.right_in

-- the frames of a stage and its pipes: two for one that is still to be given
abbrev pub frames_at : {S : Sorts} → Between S → ℕ
frames_at s = 2 * (length s.stage.out_left + length s.stage.out_right) + (length s.left_in + (length s.left_out + (length s.right_in + length s.right_out)))

abbrev pub given_at : {S : Sorts} → Language S → Beside S → ℕ
given_at L t = size L t.left_out + size L t.right_out

pub data Follows {S : Sorts} (W : Mode S → Room S → Act S → Room S → Type 0) (L : Language S) (s s' : Between S) (t : Beside S) (bl al br ar : List Frame) : Type 0 where
  stays : Fits L s' t bl al br ar → 1 + frames_at s' ≤ frames_at s → Follows W L s s' t bl al br ar
  moves : (t' : Beside S) → want s.stage ≡ want_of t.mode → MovesBy W L t (want_of t.mode) t' → Fits L s' t' bl al br ar →
      1 + (frames_at s' + 2 * given_at L t) ≤ frames_at s + (2 * given_at L t' + cost (want_of t.mode)) → Follows W L s s' t bl al br ar

-- what is given comes behind what is there
behind : {S : Sorts} (L : Language S) (ahead pipe out : List Frame) (queue given : List (Message S)) → ahead ++ (pipe ++ out) ≡ spell L queue →
    ahead ++ (pipe ++ (out ++ spell L given)) ≡ spell L (queue ++ given)
behind L ahead pipe out queue given e =
    rw (spell-append L queue given, ← e, append_assoc ahead (pipe ++ out) (spell L given), append_assoc pipe out (spell L given)) refl

one_on : {S : Sorts} (L : Language S) (ahead pipe out : List Frame) (f : Frame) (queue : List (Message S)) → ahead ++ (pipe ++ f ∷ out) ≡ spell L queue →
    ahead ++ ((pipe ++ f ∷ []) ++ out) ≡ spell L queue
one_on L ahead pipe out f queue e = rw (append_assoc pipe (f ∷ []) out) e

moves_left : {S : Sorts} (W : Mode S → Room S → Act S → Room S → Type 0) (L : Language S) (t : Beside S) (m : Message S) (later : List (Message S)) (act : Act S) → want_of t.mode ≡ take_left → t.left_in ≡ m ∷ later → takes L t.mode m ≡ Some act →
    MovesBy W L t (want_of t.mode) (acted t act later t.right_in t.room)
moves_left W L t m later act e1 e2 e3 = rw (e1, e2) (act, e3, refl)

moves_right : {S : Sorts} (W : Mode S → Room S → Act S → Room S → Type 0) (L : Language S) (t : Beside S) (m : Message S) (later : List (Message S)) (act : Act S) → want_of t.mode ≡ take_right → t.right_in ≡ m ∷ later → takes L t.mode m ≡ Some act →
    MovesBy W L t (want_of t.mode) (acted t act t.left_in later t.room)
moves_right W L t m later act e1 e2 e3 = rw (e1, e2) (act, e3, refl)

moves_work : {S : Sorts} (W : Mode S → Room S → Act S → Room S → Type 0) (L : Language S) (t : Beside S) (act : Act S) (room' : Room S) → want_of t.mode ≡ work → W t.mode t.room act room' →
    MovesBy W L t (want_of t.mode) (acted t act t.left_in t.right_in room')
moves_work W L t act room' e1 e2 = rw e1 (act, room', e2, refl)

spell_size : {S : Sorts} (L : Language S) (xs : List (Message S)) → length (spell L xs) ≡ size L xs
spell_size L [] = refl
spell_size L (x ∷ xs) = let h : length (spell L xs) ≡ size L xs = spell_size L xs in omega (arith, length-append (frames L x) (spell L xs))

out_size : {S : Sorts} (L : Language S) (out : List Frame) (xs : List (Message S)) → length (out ++ spell L xs) ≡ length out + size L xs
out_size L out xs = length-append out (spell L xs) ∙ ap (λ (n : ℕ). length out + n) (spell_size L xs)

took_frames : {S : Sorts} (L : Language S) (ol or lo ro ri li : List Frame) (f : Frame) (fs : List Frame) (ql qr gl gr : List (Message S)) (c : ℕ) → li ≡ f ∷ fs →
    1 + ((2 * (length (ol ++ spell L gl) + length (or ++ spell L gr)) + (length fs + (length lo + (length ri + length ro)))) + 2 * (size L ql + size L qr))
    ≤ (2 * (length ol + length or) + (length li + (length lo + (length ri + length ro)))) + (2 * (size L (ql ++ gl) + size L (qr ++ gr)) + c)
took_frames L ol or lo ro ri li f fs ql qr gl gr c e =
    rw (out_size L ol gl, out_size L or gr, size-append L ql gl, size-append L qr gr, e) (omega arith)

took_frames' : {S : Sorts} (L : Language S) (ol or lo ro li ri : List Frame) (f : Frame) (fs : List Frame) (ql qr gl gr : List (Message S)) (c : ℕ) → ri ≡ f ∷ fs →
    1 + ((2 * (length (ol ++ spell L gl) + length (or ++ spell L gr)) + (length li + (length lo + (length fs + length ro)))) + 2 * (size L ql + size L qr))
    ≤ (2 * (length ol + length or) + (length li + (length lo + (length ri + length ro)))) + (2 * (size L (ql ++ gl) + size L (qr ++ gr)) + c)
took_frames' L ol or lo ro li ri f fs ql qr gl gr c e =
    rw (out_size L ol gl, out_size L or gr, size-append L ql gl, size-append L qr gr, e) (omega arith)

worked_frames : {S : Sorts} (L : Language S) (ol or lo ro li ri : List Frame) (ql qr gl gr : List (Message S)) →
    1 + ((2 * (length (ol ++ spell L gl) + length (or ++ spell L gr)) + (length li + (length lo + (length ri + length ro)))) + 2 * (size L ql + size L qr))
    ≤ (2 * (length ol + length or) + (length li + (length lo + (length ri + length ro)))) + (2 * (size L (ql ++ gl) + size L (qr ++ gr)) + 1)
worked_frames L ol or lo ro li ri ql qr gl gr =
    rw (out_size L ol gl, out_size L or gr, size-append L ql gl, size-append L qr gr) (omega arith)

from_left : {S : Sorts} (W : Mode S → Room S → Act S → Room S → Type 0) (L : Language S) (s : Between S) (s' : Between S) (t : Beside S) (bl al br ar : List Frame) (f : Frame) (fs : List Frame) (more : Bool) (stage' : LocalState S) →
    is_more f ≡ more → s.left_in ≡ f ∷ fs → want s.stage ≡ want_of s.stage.mode → want_of s.stage.mode ≡ take_left → Fits L s t bl al br ar →
    HasTakenLeft L s.stage f more stage' → s' ≡ record { stage = stage'; left_in = fs; left_out = s.left_out; right_out = s.right_out; right_in = s.right_in; room = s.room } →
    Follows W L s s' t bl al br ar
from_left W L s s' t bl al br ar f fs true stage' em el eo ew h (go, e) e2 =
    rw (e2, e) (stays (record {
      mode = h.mode;
      room = h.room;
      left_out = h.left_out;
      right_in = h.right_in;
      right_out = h.right_out;
      more_right = h.more_right;
      spelled_left = h.spelled_left;
      spelled_right = h.spelled_right;
      left_in = rw (append_assoc s.stage.got_left (f ∷ []) (fs ++ bl), ← h.left_in, el) refl;
      more_left = more-append s.stage.got_left f h.more_left em;
    }) (rw el (omega arith)))
from_left {S} W L s s' t bl al br ar f fs false stage' em el eo ew h (act, e1, e) e2 =
    let e0 : s.stage.got_left ++ f ∷ (fs ++ bl) ≡ spell L t.left_in = rw el at h.left_in in
    let w : First L s.stage.got_left f (fs ++ bl) t.left_in = first_whole L s.stage.got_left f (fs ++ bl) t.left_in h.more_left em h.spelled_left e0 in
    let e3 : takes L t.mode w.message ≡ Some act = rw h.mode (rw w.read at e1) in
    let wants : want_of t.mode ≡ take_left = rw h.mode ew in
    let m : MovesBy W L t (want_of t.mode) (acted t act w.later t.right_in t.room) = moves_left W L t w.message w.later act wants w.is e3 in
    rw (e2, e) (moves (acted t act w.later t.right_in t.room) (eo ∙ ap want_of (sym h.mode)) m
    (record {
      mode = refl;
      room = h.room;
      left_in = w.behind;
      left_out = behind L al s.left_out s.stage.out_left t.left_out act.left h.left_out;
      right_in = h.right_in;
      right_out = behind L ar s.right_out s.stage.out_right t.right_out act.right h.right_out;
      more_left = tt;
      more_right = h.more_right;
      spelled_left = w.spelled;
      spelled_right = h.spelled_right;
    }) (took_frames L s.stage.out_left s.stage.out_right s.left_out s.right_out s.right_in s.left_in f fs t.left_out t.right_out act.left act.right (cost (want_of t.mode)) el))

from_right : {S : Sorts} (W : Mode S → Room S → Act S → Room S → Type 0) (L : Language S) (s : Between S) (s' : Between S) (t : Beside S) (bl al br ar : List Frame) (f : Frame) (fs : List Frame) (more : Bool) (stage' : LocalState S) →
    is_more f ≡ more → s.right_in ≡ f ∷ fs → want s.stage ≡ want_of s.stage.mode → want_of s.stage.mode ≡ take_right → Fits L s t bl al br ar →
    HasTakenRight L s.stage f more stage' → s' ≡ record { stage = stage'; left_in = s.left_in; left_out = s.left_out; right_out = s.right_out; right_in = fs; room = s.room } →
    Follows W L s s' t bl al br ar
from_right W L s s' t bl al br ar f fs true stage' em el eo ew h (go, e) e2 =
    rw (e2, e) (stays (record {
      mode = h.mode;
      room = h.room;
      left_out = h.left_out;
      left_in = h.left_in;
      right_out = h.right_out;
      more_left = h.more_left;
      spelled_left = h.spelled_left;
      spelled_right = h.spelled_right;
      right_in = rw (append_assoc s.stage.got_right (f ∷ []) (fs ++ br), ← h.right_in, el) refl;
      more_right = more-append s.stage.got_right f h.more_right em;
    }) (rw el (omega arith)))
from_right {S} W L s s' t bl al br ar f fs false stage' em el eo ew h (act, e1, e) e2 =
    let e0 : s.stage.got_right ++ f ∷ (fs ++ br) ≡ spell L t.right_in = rw el at h.right_in in
    let w : First L s.stage.got_right f (fs ++ br) t.right_in = first_whole L s.stage.got_right f (fs ++ br) t.right_in h.more_right em h.spelled_right e0 in
    let e3 : takes L t.mode w.message ≡ Some act = rw h.mode (rw w.read at e1) in
    let wants : want_of t.mode ≡ take_right = rw h.mode ew in
    let m : MovesBy W L t (want_of t.mode) (acted t act t.left_in w.later t.room) = moves_right W L t w.message w.later act wants w.is e3 in
    rw (e2, e) (moves (acted t act t.left_in w.later t.room) (eo ∙ ap want_of (sym h.mode)) m
    (record {
      mode = refl;
      room = h.room;
      left_in = h.left_in;
      left_out = behind L al s.left_out s.stage.out_left t.left_out act.left h.left_out;
      right_in = w.behind;
      right_out = behind L ar s.right_out s.stage.out_right t.right_out act.right h.right_out;
      more_left = h.more_left;
      more_right = tt;
      spelled_left = h.spelled_left;
      spelled_right = w.spelled;
    }) (took_frames' L s.stage.out_left s.stage.out_right s.left_out s.right_out s.left_in s.right_in f fs t.left_out t.right_out act.left act.right (cost (want_of t.mode)) el))

to_left : {S : Sorts} (W : Mode S → Room S → Act S → Room S → Type 0) (L : Language S) (s s' : Between S) (t : Beside S) (bl al br ar : List Frame) (out : List Frame) → s.stage.out_left ≡ out → Fits L s t bl al br ar → FrameToLeft s out s' → Follows W L s s' t bl al br ar
to_left W L s s' t bl al br ar [] eo h e = absurd e
to_left W L s s' t bl al br ar (f ∷ fs) eo h e =
    rw e (stays (record {
      mode = h.mode;
      room = h.room;
      left_in = h.left_in;
      right_in = h.right_in;
      right_out = h.right_out;
      more_left = h.more_left;
      more_right = h.more_right;
      spelled_left = h.spelled_left;
      spelled_right = h.spelled_right;
      left_out = one_on L al s.left_out fs f t.left_out (rw eo at h.left_out);
    }) (rw (eo, length-append) (omega arith)))

to_right : {S : Sorts} (W : Mode S → Room S → Act S → Room S → Type 0) (L : Language S) (s s' : Between S) (t : Beside S) (bl al br ar : List Frame) (out : List Frame) → s.stage.out_right ≡ out → Fits L s t bl al br ar → FrameToRight s out s' → Follows W L s s' t bl al br ar
to_right W L s s' t bl al br ar [] eo h e = absurd e
to_right W L s s' t bl al br ar (f ∷ fs) eo h e =
    rw e (stays (record {
      mode = h.mode;
      room = h.room;
      left_in = h.left_in;
      right_in = h.right_in;
      left_out = h.left_out;
      more_left = h.more_left;
      more_right = h.more_right;
      spelled_left = h.spelled_left;
      spelled_right = h.spelled_right;
      right_out = one_on L ar s.right_out fs f t.right_out (rw eo at h.right_out);
    }) (rw (eo, length-append) (omega arith)))

taking_left : {S : Sorts} (W : Mode S → Room S → Act S → Room S → Type 0) (L : Language S) (s s' : Between S) (t : Beside S) (bl al br ar : List Frame) (pipe : List Frame) → s.left_in ≡ pipe → want s.stage ≡ want_of s.stage.mode → want_of s.stage.mode ≡ take_left → Fits L s t bl al br ar → FrameFromLeft L s pipe s' → Follows W L s s' t bl al br ar
taking_left W L s s' t bl al br ar [] el eo ew h e = absurd e
taking_left W L s s' t bl al br ar (f ∷ fs) el eo ew h (stage', e1, e2) = from_left W L s s' t bl al br ar f fs (is_more f) stage' refl el eo ew h e1 e2

taking_right : {S : Sorts} (W : Mode S → Room S → Act S → Room S → Type 0) (L : Language S) (s s' : Between S) (t : Beside S) (bl al br ar : List Frame) (pipe : List Frame) → s.right_in ≡ pipe → want s.stage ≡ want_of s.stage.mode → want_of s.stage.mode ≡ take_right → Fits L s t bl al br ar → FrameFromRight L s pipe s' → Follows W L s s' t bl al br ar
taking_right W L s s' t bl al br ar [] el eo ew h e = absurd e
taking_right W L s s' t bl al br ar (f ∷ fs) el eo ew h (stage', e1, e2) = from_right W L s s' t bl al br ar f fs (is_more f) stage' refl el eo ew h e1 e2

working : {S : Sorts} (W : Mode S → Room S → Act S → Room S → Type 0) (L : Language S) (s s' : Between S) (t : Beside S) (bl al br ar : List Frame) → want s.stage ≡ want_of s.stage.mode → want_of s.stage.mode ≡ work → Fits L s t bl al br ar → StepsBy W L s work s' → Follows W L s s' t bl al br ar
working W L s s' t bl al br ar eo ew h (act, room', w, e) =
    rw e (moves (acted t act t.left_in t.right_in room') (eo ∙ ap want_of (sym h.mode)) (moves_work W L t act room' (rw h.mode ew) (rw (h.mode, h.room) w))
    (record {
      mode = refl;
      room = refl;
      left_in = h.left_in;
      right_in = h.right_in;
      left_out = behind L al s.left_out s.stage.out_left t.left_out act.left h.left_out;
      right_out = behind L ar s.right_out s.stage.out_right t.right_out act.right h.right_out;
      more_left = h.more_left;
      more_right = h.more_right;
      spelled_left = h.spelled_left;
      spelled_right = h.spelled_right;
    }) (rw (h.mode, ew) (worked_frames L s.stage.out_left s.stage.out_right s.left_out s.right_out s.left_in s.right_in t.left_out t.right_out act.left act.right)))

by_mode : {S : Sorts} (W : Mode S → Room S → Act S → Room S → Type 0) (L : Language S) (s s' : Between S) (t : Beside S) (bl al br ar : List Frame) (w : Want) → want s.stage ≡ want_of s.stage.mode → want_of s.stage.mode ≡ w → Fits L s t bl al br ar → StepsBy W L s w s' → Follows W L s s' t bl al br ar
by_mode W L s s' t bl al br ar take_left eo e h g = taking_left W L s s' t bl al br ar s.left_in refl eo e h g
by_mode W L s s' t bl al br ar take_right eo e h g = taking_right W L s s' t bl al br ar s.right_in refl eo e h g
by_mode W L s s' t bl al br ar give_left eo e h g = to_left W L s s' t bl al br ar s.stage.out_left refl h g
by_mode W L s s' t bl al br ar give_right eo e h g = to_right W L s s' t bl al br ar s.stage.out_right refl h g
by_mode W L s s' t bl al br ar work eo e h g = working W L s s' t bl al br ar eo e h g
by_mode W L s s' t bl al br ar none eo e h g = absurd g

by_outs : {S : Sorts} (W : Mode S → Room S → Act S → Room S → Type 0) (L : Language S) (s s' : Between S) (t : Beside S) (bl al br ar : List Frame) (left right : List Frame) → s.stage.out_left ≡ left → s.stage.out_right ≡ right →
    Fits L s t bl al br ar → StepsBy W L s (want_with left right s.stage.mode) s' → Follows W L s s' t bl al br ar
by_outs W L s s' t bl al br ar (f ∷ fs) right el er h g = to_left W L s s' t bl al br ar s.stage.out_left refl h g
by_outs W L s s' t bl al br ar [] (f ∷ fs) el er h g = to_right W L s s' t bl al br ar s.stage.out_right refl h g
by_outs W L s s' t bl al br ar [] [] el er h g =
    by_mode W L s s' t bl al br ar (want_of s.stage.mode) (ap (λ (x : List Frame). want_with x s.stage.out_right s.stage.mode) el ∙ ap (λ (x : List Frame). want_with [] x s.stage.mode) er) refl h g

pub refines : {S : Sorts} (W : Mode S → Room S → Act S → Room S → Type 0) (L : Language S) (s s' : Between S) (t : Beside S) (bl al br ar : List Frame) → Fits L s t bl al br ar → StepsBy W L s (want s.stage) s' → Follows W L s s' t bl al br ar
refines W L s s' t bl al br ar h g = by_outs W L s s' t bl al br ar s.stage.out_left s.stage.out_right refl refl h g
