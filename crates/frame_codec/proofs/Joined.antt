-- What is cut into frames is joined again.
use Rattle.std.proofs.Common.{◌≡◌, ◌⊎◌, inl, inr, refl, sym, ap, ◌∙◌, ℕ, zero, suc, ◌/◌, ◌==◌, Bool, true, false, List, [], ◌∷◌, ◌++◌, length, take, drop, ◌+◌, ◌-◌, ◌≤◌, ◌<◌, arith, append_assoc, length-drop, drop-drop}
use Rattle.std.proofs.lemmas.Bool.Decides.{nat_tests}
use Rattle.std.proofs.lemmas.List.{take-append-drop}
use Rattle.frame_codec.specs.declared.frame.Frame.{Frame}
use Rattle.frame_codec.specs.Messages.{frame, message, joined, Joined, cut_into, is_message_kind, message_frames}

-- a message's kind isn't that of More frames
not_more : (kind : ℕ) → is_message_kind kind ≡ true → (kind == 11) ≡ false
not_more kind e = grind (arith, nat_tests)

-- what a frame of another kind than More gives, and what follows it
last_joined : (begun : List ℕ) (f : Frame) (frames : List Frame) → (f.kind == 11) ≡ false → joined begun (f ∷ frames) ≡ (message f.kind (begun ++ f.payload) ∷ (joined [] frames).0, (joined [] frames).1)
last_joined begun f frames e = ap (λ (b : Bool). elim b as (λ _. Joined) [ true ↦ joined (begun ++ f.payload) frames | false ↦ (message f.kind (begun ++ f.payload) ∷ (joined [] frames).0, (joined [] frames).1) ]) e

more_joined : (begun : List ℕ) (f : Frame) (frames : List Frame) → (f.kind == 11) ≡ true → joined begun (f ∷ frames) ≡ joined (begun ++ f.payload) frames
more_joined begun f frames e = ap (λ (b : Bool). elim b as (λ _. Joined) [ true ↦ joined (begun ++ f.payload) frames | false ↦ (message f.kind (begun ++ f.payload) ∷ (joined [] frames).0, (joined [] frames).1) ]) e

cut_joined_from : (n kind : ℕ) (begun bytes : List ℕ) (frames : List Frame) → is_message_kind kind ≡ true → joined begun (cut_into n kind bytes ++ frames) ≡ (message kind (begun ++ bytes) ∷ (joined [] frames).0, (joined [] frames).1)
cut_joined_from zero kind begun bytes frames e = last_joined begun (frame kind bytes) frames (not_more kind e)
cut_joined_from (suc n) kind begun bytes frames e =
    let all : (begun ++ take 4096 bytes) ++ drop 4096 bytes ≡ begun ++ bytes = append_assoc begun (take 4096 bytes) (drop 4096 bytes) ∙ ap (λ bs. begun ++ bs) (take-append-drop 4096 bytes) in
    cut_joined_from n kind (begun ++ take 4096 bytes) (drop 4096 bytes) frames e ∙ ap (λ bs. (message kind bs ∷ (joined [] frames).0, (joined [] frames).1)) all

pub cut_is_joined : (kind : ℕ) (bytes : List ℕ) (frames : List Frame) → is_message_kind kind ≡ true → joined [] (message_frames kind bytes ++ frames) ≡ (message kind bytes ∷ (joined [] frames).0, (joined [] frames).1)
unfolding message_frames
cut_is_joined kind bytes frames e = cut_joined_from (length bytes / 4096) kind [] bytes frames e

-- what is joined first, and others the others
abbrev then_joined : Joined → List Frame → Joined
then_joined r frames = (r.0 ++ (joined r.1 frames).0, (joined r.1 frames).1)

-- the test of a frame's kind holds, or it doesn't
either : (b : Bool) → (b ≡ true) ⊎ (b ≡ false)
either true = inl refl
either false = inr refl

later_by : (begun : List ℕ) (f : Frame) (first others : List Frame) → ((f.kind == 11) ≡ true) ⊎ ((f.kind == 11) ≡ false)
    → ((start : List ℕ) → joined start (first ++ others) ≡ then_joined (joined start first) others) → joined begun (f ∷ (first ++ others)) ≡ then_joined (joined begun (f ∷ first)) others
later_by begun f first others (inl e) h = more_joined begun f (first ++ others) e ∙ h (begun ++ f.payload) ∙ ap (λ (r : Joined). then_joined r others) (sym (more_joined begun f first e))
later_by begun f first others (inr e) h =
    last_joined begun f (first ++ others) e ∙ ap (λ (r : Joined). (message f.kind (begun ++ f.payload) ∷ r.0, r.1)) (h [])
    ∙ ap (λ (r : Joined). then_joined r others) (sym (last_joined begun f first e))

pub joined_later : (begun : List ℕ) (first others : List Frame) → joined begun (first ++ others) ≡ ((joined begun first).0 ++ (joined (joined begun first).1 others).0, (joined (joined begun first).1 others).1)
joined_later begun [] others = refl
joined_later begun (f ∷ first) others = later_by begun f first others (either (f.kind == 11)) (λ start. joined_later start first others)

-- ---- cut, one frame after the other

tenth : (n : ℕ) → 4096 ≤ n → n / 4096 ≡ suc ((n - 4096) / 4096)
tenth n h = omega arith

more_frame : (kind : ℕ) (bytes : List ℕ) → 4096 ≤ length bytes → message_frames kind bytes ≡ frame 11 (take 4096 bytes) ∷ message_frames kind (drop 4096 bytes)
unfolding message_frames
more_frame kind bytes h =
    ap (λ n. cut_into n kind bytes) (tenth (length bytes) h) ∙ ap (λ n. frame 11 (take 4096 bytes) ∷ cut_into (n / 4096) kind (drop 4096 bytes)) (sym (length-drop 4096 bytes))

last_frame : (kind : ℕ) (bytes : List ℕ) → length bytes < 4096 → message_frames kind bytes ≡ frame kind bytes ∷ []
unfolding message_frames
last_frame kind bytes h = let z : length bytes / 4096 ≡ 0 = omega arith in ap (λ n. cut_into n kind bytes) z

-- where a full frame's bytes are left, it stands in front
pub more_given : (kind given : ℕ) (bytes : List ℕ) → 4096 ≤ length (drop given bytes) → message_frames kind (drop given bytes) ≡ frame 11 (take 4096 (drop given bytes)) ∷ message_frames kind (drop (given + 4096) bytes)
more_given kind given bytes h = more_frame kind (drop given bytes) h ∙ ap (λ rest. frame 11 (take 4096 (drop given bytes)) ∷ message_frames kind rest) (drop-drop 4096 given bytes)

-- where fewer are left, the last one stands there
pub last_given : (kind given : ℕ) (bytes : List ℕ) → length (drop given bytes) < 4096 → message_frames kind (drop given bytes) ≡ frame kind (drop given bytes) ∷ []
last_given kind given bytes h = last_frame kind (drop given bytes) h
