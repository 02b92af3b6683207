-- Messages, their frames, and their bytes.
use Rattle.std.proofs.Common.{◌≡◌, refl, sym, ap, ◌∙◌, ℕ, zero, suc, ◌+◌, ◌*◌, ◌/◌, ◌<◌, ◌≤◌, true, false, List, [], ◌++◌, append_assoc, take, drop, length, arith, length-drop, take_at, drop_at}
use Rattle.std.specs.Prelude.{◌&&◌, Bool}
use Rattle.std.specs.List.{flat_map, list_all}
use Rattle.std.proofs.lemmas.Bool.Decides.{nat_tests}
use Rattle.std.proofs.lemmas.List.{append-nil, take-append-drop, length-take-le}
use Rattle.frame_codec.specs.declared.frame.Frame.{Frame}
use Rattle.frame_codec.specs.declared.fronts.Front.TheVariants.{Whole}
use Rattle.frame_codec.specs.Frames.{frame_bytes, frames_bytes, has_length, is_kind, is_lawful}
use Rattle.frame_codec.specs.Messages.{frame, cut_into, is_message_kind, message_bytes, message_frames}
use Rattle.frame_codec.specs.Reading.{front_of}
use Rattle.frame_codec.proofs.Headers.{written_whole}

-- ---- lawful frames

and_both : (a b : Bool) → a ≡ true → b ≡ true → (a && b) ≡ true
and_both true true e f = refl
and_both true false e f = cc
and_both false b e f = cc

-- a full frame behind which the message goes on
more_lawful : (bytes : List ℕ) → length bytes ≡ 4096 → is_lawful (frame 11 bytes) ≡ true
more_lawful bytes e = ap (has_length 11) e

-- the last frame of a message
last_lawful : (kind : ℕ) (bytes : List ℕ) → is_message_kind kind ≡ true → length bytes < 4096 → is_lawful (frame kind bytes) ≡ true
last_lawful kind bytes e lt = and_both (is_kind kind) (has_length kind (length bytes)) (grind (arith, nat_tests)) (grind (arith, nat_tests))

cut_lawful_into : (n kind : ℕ) (bytes : List ℕ) → is_message_kind kind ≡ true → n * 4096 ≤ length bytes → length bytes < n * 4096 + 4096 → list_all is_lawful (cut_into n kind bytes) ≡ true
cut_lawful_into zero kind bytes e le lt = and_both (is_lawful (frame kind bytes)) true (last_lawful kind bytes e (omega arith)) refl
cut_lawful_into (suc n) kind bytes e le lt =
    let l = length-drop 4096 bytes in
    and_both (is_lawful (frame 11 (take 4096 bytes))) (list_all is_lawful (cut_into n kind (drop 4096 bytes)))
    (more_lawful (take 4096 bytes) (length-take-le 4096 bytes (omega arith)))
    (cut_lawful_into n kind (drop 4096 bytes) e (omega arith) (omega arith))

pub cut_lawful : (kind : ℕ) (bytes : List ℕ) → is_message_kind kind ≡ true → list_all is_lawful (message_frames kind bytes) ≡ true
unfolding message_frames
cut_lawful kind bytes e = cut_lawful_into (length bytes / 4096) kind bytes e (omega arith) (omega arith)

-- ---- payloads

abbrev payloads : List Frame → List ℕ
payloads frames = flat_map (λ (f : Frame). f.payload) frames

cut_joined_into : (n kind : ℕ) (bytes : List ℕ) → payloads (cut_into n kind bytes) ≡ bytes
cut_joined_into zero kind bytes = append-nil bytes
cut_joined_into (suc n) kind bytes = ap (λ (t : List ℕ). take 4096 bytes ++ t) (cut_joined_into n kind (drop 4096 bytes)) ∙ take-append-drop 4096 bytes

pub cut_joined : (kind : ℕ) (bytes : List ℕ) → flat_map (λ (f : Frame). f.payload) (message_frames kind bytes) ≡ bytes
unfolding message_frames
cut_joined kind bytes = cut_joined_into (length bytes / 4096) kind bytes

-- ---- the first frame of bytes

whole_kind : (k n l m : ℕ) → Whole k n ≡ Whole l m → k ≡ l
whole_kind k n l m e = cc

whole_size : (k n l m : ℕ) → Whole k n ≡ Whole l m → n ≡ m
whole_size k n l m e = cc

-- two lawful frames that begin the same bytes have the same kind
same_kind : (f g : Frame) (xs ys : List ℕ) → is_lawful f ≡ true → is_lawful g ≡ true → frame_bytes f ++ xs ≡ frame_bytes g ++ ys → f.kind ≡ g.kind
same_kind f g xs ys e h same =
    whole_kind f.kind (length f.payload) g.kind (length g.payload) (sym (written_whole f xs e) ∙ ap front_of same ∙ written_whole g ys h)

same_size : (f g : Frame) (xs ys : List ℕ) → is_lawful f ≡ true → is_lawful g ≡ true → frame_bytes f ++ xs ≡ frame_bytes g ++ ys → length f.payload ≡ length g.payload
same_size f g xs ys e h same =
    whole_size f.kind (length f.payload) g.kind (length g.payload) (sym (written_whole f xs e) ∙ ap front_of same ∙ written_whole g ys h)

-- and the same payload
same_payload : (f g : Frame) (xs ys : List ℕ) → is_lawful f ≡ true → is_lawful g ≡ true → frame_bytes f ++ xs ≡ frame_bytes g ++ ys → f.payload ≡ g.payload
same_payload f g xs ys e h same =
    let size = same_size f g xs ys e h same in
    sym (take_at f.payload xs (length f.payload) refl)
    ∙ ap (λ (t : List ℕ). take (length f.payload) (drop 3 t)) same
    ∙ take_at g.payload ys (length f.payload) (sym size)

-- and what stands behind them is the same
same_rest : (f g : Frame) (xs ys : List ℕ) → is_lawful f ≡ true → is_lawful g ≡ true → frame_bytes f ++ xs ≡ frame_bytes g ++ ys → xs ≡ ys
same_rest f g xs ys e h same =
    let size = same_size f g xs ys e h same in
    sym (drop_at f.payload xs (length f.payload) refl)
    ∙ ap (λ (t : List ℕ). drop (length f.payload) (drop 3 t)) same
    ∙ drop_at g.payload ys (length f.payload) (sym size)

-- ---- messages

no_message : (kind : ℕ) → is_message_kind kind ≡ true → kind ≡ 11 → ⊥
no_message kind e is = grind (arith, nat_tests)

-- a message is cut into so many More frames
record IsCut (n kind : ℕ) (bytes : List ℕ) : Type 0 where
  pub kind_is : is_message_kind kind ≡ true
  pub least : n * 4096 ≤ length bytes
  pub most : length bytes < n * 4096 + 4096

full_frame : (n kind : ℕ) (bytes : List ℕ) → IsCut (suc n) kind bytes → is_lawful (frame 11 (take 4096 bytes)) ≡ true
full_frame n kind bytes c = let least = c.least in more_lawful (take 4096 bytes) (length-take-le 4096 bytes (omega arith))

last_frame : (kind : ℕ) (bytes : List ℕ) → IsCut 0 kind bytes → is_lawful (frame kind bytes) ≡ true
last_frame kind bytes c = let most = c.most in last_lawful kind bytes c.kind_is (omega arith)

cut_rest : (n kind : ℕ) (bytes : List ℕ) → IsCut (suc n) kind bytes → IsCut n kind (drop 4096 bytes)
cut_rest n kind bytes c =
    let l = length-drop 4096 bytes in
    let least = c.least in
    let most = c.most in
    record { kind_is = c.kind_is; least = omega arith; most = omega arith }

apart_into : (n m kind other : ℕ) (bytes others more : List ℕ) → IsCut n kind bytes → IsCut m other others
    → frames_bytes (cut_into n kind bytes) ++ more ≡ frames_bytes (cut_into m other others) → (kind ≡ other) × (bytes ≡ others)
apart_into zero zero kind other bytes others more a b e =
    let same : frame_bytes (frame kind bytes) ++ ([] ++ more) ≡ frame_bytes (frame other others) ++ [] = sym (append_assoc (frame_bytes (frame kind bytes)) [] more) ∙ e in (
      same_kind (frame kind bytes) (frame other others) more [] (last_frame kind bytes a) (last_frame other others b) same,
      same_payload (frame kind bytes) (frame other others) more [] (last_frame kind bytes a) (last_frame other others b) same,
    )
apart_into zero (suc m) kind other bytes others more a b e =
    let same : frame_bytes (frame kind bytes) ++ ([] ++ more) ≡ frame_bytes (frame 11 (take 4096 others)) ++ frames_bytes (cut_into m other (drop 4096 others)) =
    sym (append_assoc (frame_bytes (frame kind bytes)) [] more) ∙ e in
    absurd (no_message kind a.kind_is (same_kind (frame kind bytes) (frame 11 (take 4096 others)) more (frames_bytes (cut_into m other (drop 4096 others))) (last_frame kind bytes a) (full_frame m other others b) same))
apart_into (suc n) zero kind other bytes others more a b e =
    let rest = frames_bytes (cut_into n kind (drop 4096 bytes)) in
    let same : frame_bytes (frame 11 (take 4096 bytes)) ++ (rest ++ more) ≡ frame_bytes (frame other others) ++ [] =
    sym (append_assoc (frame_bytes (frame 11 (take 4096 bytes))) rest more) ∙ e in
    absurd (no_message other b.kind_is (sym (same_kind (frame 11 (take 4096 bytes)) (frame other others) (rest ++ more) [] (full_frame n kind bytes a) (last_frame other others b) same)))
apart_into (suc n) (suc m) kind other bytes others more a b e =
    let f = frame 11 (take 4096 bytes) in
    let g = frame 11 (take 4096 others) in
    let rest = frames_bytes (cut_into n kind (drop 4096 bytes)) in
    let rests = frames_bytes (cut_into m other (drop 4096 others)) in
    let same : frame_bytes f ++ (rest ++ more) ≡ frame_bytes g ++ rests = sym (append_assoc (frame_bytes f) rest more) ∙ e in
    let front = same_payload f g (rest ++ more) rests (full_frame n kind bytes a) (full_frame m other others b) same in
    let behind = apart_into n m kind other (drop 4096 bytes) (drop 4096 others) more (cut_rest n kind bytes a) (cut_rest m other others b) (same_rest f g (rest ++ more) rests (full_frame n kind bytes a) (full_frame m other others b) same) in (
      behind.0,
      sym (take-append-drop 4096 bytes) ∙ ap (λ (t : List ℕ). t ++ drop 4096 bytes) front ∙ ap (λ (t : List ℕ). take 4096 others ++ t) behind.1 ∙ take-append-drop 4096 others,
    )

is_cut : (kind : ℕ) (bytes : List ℕ) → is_message_kind kind ≡ true → IsCut (length bytes / 4096) kind bytes
is_cut kind bytes e = record { kind_is = e; least = omega arith; most = omega arith }

pub spelled_apart : (kind other : ℕ) (bytes others more : List ℕ) → is_message_kind kind ≡ true → is_message_kind other ≡ true
    → message_bytes kind bytes ++ more ≡ message_bytes other others → (kind ≡ other) × (bytes ≡ others)
unfolding message_frames
spelled_apart kind other bytes others more e f same =
    apart_into (length bytes / 4096) (length others / 4096) kind other bytes others more (is_cut kind bytes e) (is_cut other others f) same
