-- Frames that wait.
use Rattle.std.specs.Prelude.{◌≡◌, ◌/◌, ◌+◌, ℕ, zero, suc, Bool, true, false, ◌&&◌, List, [], ◌∷◌, ◌++◌, length, drop, Some, Option, OnErr, OnOk, Result, Ok, Err}
use Rattle.std.specs.List.{flat_map, list_all}
use Rattle.std.proofs.Common.{refl, sym, ap, subst, ◌∙◌, arith, append_assoc}
use Rattle.std.proofs.lemmas.Grind.{flat_map-append}
use Rattle.std.proofs.lemmas.List.{append-nil}
use Rattle.frame_codec.proofs.Spelled.{cut_lawful}
use Rattle.frame_codec.specs.declared.frame.Frame.{Frame}
use Rattle.frame_codec.specs.declared.message.Message.{Message}
use Rattle.frame_codec.specs.Frames.{is_lawful}
use Rattle.frame_codec.specs.Messages.{cut_into, is_message_kind, message_frames}
use Rattle.message_codec.specs.Waiting.{HaveKinds, Waits, frames_in, rest_of, waiting}

-- ---- how many frames a message has

cut_counted : (n kind : ℕ) (bytes : List ℕ) → length (cut_into n kind bytes) ≡ suc n
cut_counted zero kind bytes = refl
cut_counted (suc n) kind bytes = ap (λ (k : ℕ). suc k) (cut_counted n kind (drop 4096 bytes))

-- as many as its bytes fill, and one
pub frames_counted : (m : Message) → length (frames_in m) ≡ length m.bytes / 4096 + 1
unfolding message_frames
frames_counted m = let h : length (frames_in m) ≡ suc (length m.bytes / 4096) = cut_counted (length m.bytes / 4096) m.kind m.bytes in omega (arith, h)

-- so it has some
pub some_frames : (m : Message) → frames_in m ≡ [] → ⊥
some_frames m e = let h = frames_counted m in let l = ap (λ (fs : List Frame). length fs) e in omega (arith, h, l)

-- ---- lists

pub both_true : (a b : Bool) → (a && b) ≡ true → (a ≡ true) × (b ≡ true)
both_true true b e = (refl, e)
both_true false b e = absurd (cc e)

kinds_behind : (ms : List Message) (m : Message) → HaveKinds ms → is_message_kind m.kind ≡ true → HaveKinds (ms ++ m ∷ [])
kinds_behind [] m h k = (k, tt)
kinds_behind (n ∷ ms) m h k = (h.0, kinds_behind ms m h.1 k)

pub empty_of_length : {A : Type 0} (xs : List A) → length xs ≡ 0 → xs ≡ []
empty_of_length [] e = refl
empty_of_length (x ∷ xs) e = absurd (omega (arith, e))

-- nothing waits where both parts are empty
both_empty : (xs ys : List Frame) → xs ++ ys ≡ [] → xs ≡ []
both_empty [] ys e = refl
both_empty (x ∷ xs) ys e = absurd (cc e)

-- ---- a message is put behind others

pub put_waits : (begun : Option (List Frame)) (left : ℕ) (later later' : List Message) (m : Message) → later' ≡ later ++ m ∷ [] → is_message_kind m.kind ≡ true → Waits begun left later → Waits begun left later'
put_waits begun left later later' m e k w = record { counted = w.counted; lawful = w.lawful; kinds = subst HaveKinds (sym e) (kinds_behind later m w.kinds k) }

pub put_behind : (begun : Option (List Frame)) (later later' : List Message) (m : Message) → later' ≡ later ++ m ∷ [] → waiting begun later' ≡ waiting begun later ++ frames_in m
put_behind begun later later' m e =
    ap (λ (ms : List Message). waiting begun ms) e
    ∙ ap (λ (fs : List Frame). rest_of begun ++ fs) (flat_map-append frames_in later (m ∷ []) ∙ ap (λ (fs : List Frame). flat_map frames_in later ++ fs) (append-nil (frames_in m)))
    ∙ sym (append_assoc (rest_of begun) (flat_map frames_in later) (frames_in m))

-- whether it was put or not
pub put_any : {E : Type 0} (begun : Option (List Frame)) (left : ℕ) (later later' : List Message) (m : Message) (r : Result (Unit {0}) E) → OnOk r (later' ≡ later ++ m ∷ []) → OnErr r (later' ≡ later) → is_message_kind m.kind ≡ true → Waits begun left later → Waits begun left later'
put_any begun left later later' m (Ok x) put same k w = put_waits begun left later later' m put k w
put_any begun left later later' m (Err e) put same k w = subst (λ (ms : List Message). Waits begun left ms) (sym same) w

pub put_ok : {E : Type 0} (begun : Option (List Frame)) (later later' : List Message) (now : List Frame) (m : Message) (r : Result (Unit {0}) E) → waiting begun later ≡ now → OnOk r (later' ≡ later ++ m ∷ []) → OnOk r (waiting begun later' ≡ now ++ frames_in m)
put_ok begun later later' now m (Ok x) view put = put_behind begun later later' m put ∙ ap (λ (fs : List Frame). fs ++ frames_in m) view
put_ok begun later later' now m (Err e) view put = tt

-- ---- the next message is begun

pub begun_waits : (m : Message) (later later' : List Message) (left : ℕ) → later ≡ m ∷ later' → left ≡ length (frames_in m) → HaveKinds later → Waits (Some (frames_in m)) left later'
begun_waits m later later' left e n h =
    let k : HaveKinds (m ∷ later') = subst HaveKinds e h in
    record { counted = n; lawful = cut_lawful m.kind m.bytes k.0; kinds = k.1 }

pub begun_same : (begun : Option (List Frame)) (m : Message) (later later' : List Message) → rest_of begun ≡ [] → later ≡ m ∷ later' → waiting (Some (frames_in m)) later' ≡ waiting begun later
begun_same begun m later later' none e = sym (ap (λ (fs : List Frame). fs ++ flat_map frames_in later) none ∙ ap (λ (ms : List Message). flat_map frames_in ms) e)

pub rest_empty : (begun : Option (List Frame)) (left : ℕ) (later : List Message) → Waits begun left later → left ≡ 0 → rest_of begun ≡ []
rest_empty begun left later w e = empty_of_length (rest_of begun) (sym w.counted ∙ e)

pub rest_some : (begun : Option (List Frame)) (left : ℕ) (later : List Message) → Waits begun left later → rest_of begun ≡ [] → left ≡ 0
rest_some begun left later w e = w.counted ∙ ap (λ (fs : List Frame). length fs) e

-- ---- the next frame

-- the frame is the first of all that wait, and lawful, and the others wait
pub first_waits : (begun begun' : Option (List Frame)) (left left' : ℕ) (later : List Message) (f : Frame) → Waits begun left later → rest_of begun ≡ f ∷ rest_of begun' → left' ≡ length (rest_of begun') → Waits begun' left' later
first_waits begun begun' left left' later f w e n =
    let l : list_all is_lawful (f ∷ rest_of begun') ≡ true = subst (λ (fs : List Frame). list_all is_lawful fs ≡ true) e w.lawful in
    record { counted = n; lawful = (both_true (is_lawful f) (list_all is_lawful (rest_of begun')) l).1; kinds = w.kinds }

pub first_lawful : (begun begun' : Option (List Frame)) (left : ℕ) (later : List Message) (f : Frame) → Waits begun left later → rest_of begun ≡ f ∷ rest_of begun' → is_lawful f ≡ true
first_lawful begun begun' left later f w e =
    let l : list_all is_lawful (f ∷ rest_of begun') ≡ true = subst (λ (fs : List Frame). list_all is_lawful fs ≡ true) e w.lawful in
    (both_true (is_lawful f) (list_all is_lawful (rest_of begun')) l).0

pub first_of_all : (begun begun' : Option (List Frame)) (later : List Message) (f : Frame) → rest_of begun ≡ f ∷ rest_of begun' → waiting begun later ≡ f ∷ waiting begun' later
first_of_all begun begun' later f e = ap (λ (fs : List Frame). fs ++ flat_map frames_in later) e

-- nothing is left of the message that is begun, and none is behind it
pub none_at_all : (begun : Option (List Frame)) (later : List Message) → rest_of begun ≡ [] → later ≡ [] → waiting begun later ≡ []
none_at_all begun later e n = ap (λ (fs : List Frame). fs ++ flat_map frames_in later) e ∙ ap (λ (ms : List Message). flat_map frames_in ms) n

-- ---- whether anything waits

pub none_left : (begun : Option (List Frame)) (left : ℕ) (later : List Message) → Waits begun left later → left ≡ 0 → later ≡ [] → waiting begun later ≡ []
none_left begun left later w e n = none_at_all begun later (rest_empty begun left later w e) n

later_empty : (later : List Message) → flat_map frames_in later ≡ [] → later ≡ []
later_empty [] e = refl
later_empty (m ∷ ms) e = absurd (some_frames m (both_empty (frames_in m) (flat_map frames_in ms) e))

pub all_empty : (begun : Option (List Frame)) (left : ℕ) (later : List Message) → Waits begun left later → waiting begun later ≡ [] → (left ≡ 0) × (later ≡ [])
all_empty begun left later w e =
    let none = both_empty (rest_of begun) (flat_map frames_in later) e in
    (rest_some begun left later w none, later_empty later (ap (λ (fs : List Frame). fs ++ flat_map frames_in later) (sym none) ∙ e))
