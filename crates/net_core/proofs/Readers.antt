-- What a reader holds, while pieces come and frames go.
use Rattle.std.proofs.Common.{◌≡◌, refl, sym, ap, subst, ◌∙◌, ℕ, zero, suc, ◌+◌, ◌*◌, ◌≤◌, Bool, true, false, if◌then◌else◌, Some, None, List, [], ◌∷◌, ◌++◌, inl, inr, take, drop, length, arith, length-append, length-drop, length-take}
use Rattle.std.specs.declared.option.Option.{Option}
use Rattle.std.specs.Prelude.{nat_le}
use Rattle.std.proofs.lemmas.List.Concat.{flat_map-append}
use Rattle.frame_codec.specs.declared.fault.FrameFault.{FrameFault}
use Rattle.frame_codec.specs.declared.frame.Frame.{Frame}
use Rattle.frame_codec.specs.declared.fault.FrameFault.TheVariants.{BadKind, TooLong}
use Rattle.frame_codec.specs.Frames.{frame_bytes, frames_bytes, has_length, is_kind}
use Rattle.frame_codec.specs.Messages.{frame}
use Rattle.frame_codec.specs.Reading.{Reading, behind_frames, front_of, front_of_length, left_at, read, read_by, read_on}
use Rattle.frame_codec.proofs.Pieces.{read_given, read_pieces, read_within}
use Rattle.frame_codec.proofs.Unrolled.{behind_both, read_part, read_unrolled}
use Rattle.net_core.specs.declared.incoming.Incoming.{Incoming}
use Rattle.net_core.specs.Incoming.{Holds, IsFaultAt, StandsAt}
use Rattle.net_core.specs.Sides.{IsNeeded, most_piece}

-- ---- the frames of a reading lie in its bytes

pub frames_length : (fs gs : List Frame) → length (frames_bytes (fs ++ gs)) ≡ length (frames_bytes fs) + length (frames_bytes gs)
frames_length fs gs = ap length (flat_map-append frame_bytes fs gs) ∙ length-append (frames_bytes fs) (frames_bytes gs)

abbrev LiesIn : List ℕ → Reading → Type 0
LiesIn bytes r = length (frames_bytes r.frames) ≤ length bytes

lies_whole : (place kind s : ℕ) (bytes : List ℕ) → 3 ≤ length bytes → LiesIn (drop (3 + s) bytes) (read (place + (3 + s)) (drop (3 + s) bytes))
    → LiesIn bytes (behind_frames (frame kind (take s (drop 3 bytes)) ∷ []) (read (place + (3 + s)) (drop (3 + s) bytes)))
lies_whole place kind s bytes long rest =
    let l = length-drop (3 + s) bytes in
    let d = length-drop 3 bytes in
    let p = length-take s (drop 3 bytes) in
    let all = length-append (take s (drop 3 bytes)) (frames_bytes (read (place + (3 + s)) (drop (3 + s) bytes)).frames) in
    omega (arith, all, p, rest, l, d)

either : {A : Type 0} (P : A → Type 0) (b : Bool) (x y : A) → P x → P y → P (if b then x else y)
either P true x y p q = p
either P false x y p q = q

abbrev LieUpto : ℕ → Type 0
LieUpto n = (at : ℕ) (xs : List ℕ) → length xs ≤ n → LiesIn xs (read at xs)

lies_header : (n place kind high low : ℕ) (payload : List ℕ) → LieUpto n → length (kind ∷ high ∷ low ∷ payload) ≤ suc n
    → LiesIn (kind ∷ high ∷ low ∷ payload) (read_by read place (kind ∷ high ∷ low ∷ payload) (front_of (kind ∷ high ∷ low ∷ payload)))
unfolding front_of
lies_header n place kind high low payload below le =
    let bytes : List ℕ = kind ∷ high ∷ low ∷ payload in
    let s : ℕ = 256 * high + low in
    let l = length-drop (3 + s) bytes in
    let rest = below (place + (3 + s)) (drop (3 + s) bytes) (omega arith) in
    either (λ f. LiesIn bytes (read_by read place bytes f)) (is_kind kind) (front_of_length kind s (length payload)) (front_of (0 ∷ []))
    (either (λ f. LiesIn bytes (read_by read place bytes f)) (has_length kind s) _ (front_of (1 ∷ 255 ∷ 255 ∷ []))
    (either (λ f. LiesIn bytes (read_by read place bytes f)) (nat_le s (length payload)) _ (front_of []) (lies_whole place kind s bytes (omega arith) rest) (omega arith))
    (omega arith))
    (omega arith)

lies_front : (n place : ℕ) (bytes : List ℕ) → LieUpto n → length bytes ≤ suc n → LiesIn bytes (read_by read place bytes (front_of bytes))
unfolding front_of
lies_front n place [] below le = omega arith
lies_front n place (kind ∷ []) below le = either (λ f. LiesIn (kind ∷ []) (read_by read place (kind ∷ []) f)) (is_kind kind) (front_of []) (front_of (0 ∷ [])) (omega arith) (omega arith)
lies_front n place (kind ∷ high ∷ []) below le = either (λ f. LiesIn (kind ∷ high ∷ []) (read_by read place (kind ∷ high ∷ []) f)) (is_kind kind) (front_of []) (front_of (0 ∷ [])) (omega arith) (omega arith)
lies_front n place (kind ∷ high ∷ low ∷ payload) below le = lies_header n place kind high low payload below le

lies_upto : (n : ℕ) → LieUpto n
unfolding front_of
lies_upto zero place [] le = subst (λ (r : Reading). LiesIn [] r) (sym (read_part place [] refl)) (omega arith)
lies_upto zero place (x ∷ xs) le = absurd (omega arith)
lies_upto (suc n) place bytes le = subst (λ (r : Reading). LiesIn bytes r) (sym (read_unrolled place bytes)) (lies_front n place bytes (lies_upto n) le)

pub read_lies : (place : ℕ) (bytes : List ℕ) → length (frames_bytes (read place bytes).frames) ≤ length bytes
read_lies place bytes = lies_upto (length bytes) place bytes (omega arith)

-- ---- nothing was read yet

pub read_none : (place : ℕ) → read place [] ≡ left_at place []
unfolding front_of
read_none place = read_part place [] refl

pub holds_none : (r : Reading) → r ≡ left_at 0 [] → Holds [] [] (record { reader = r; fault = None; read = 0; place = 0 })
holds_none r e = record { is = ap (behind_frames []) e ∙ sym (read_none 0); read = refl; place = refl; fault = ap (λ (x : Reading). x.fault) e }

-- ---- a frame is taken

pub same_frames : (taken : List Frame) (bytes : List ℕ) (r : Reading) → behind_frames taken r ≡ read 0 bytes → taken ++ r.frames ≡ (read 0 bytes).frames
same_frames taken bytes r e = ap (λ (x : Reading). x.frames) e

pub next_lies : (taken : List Frame) (bytes : List ℕ) (s : Incoming) (frame : Frame) (r : Reading) → Holds taken bytes s → s.reader ≡ behind_frames (frame ∷ []) r → s.place + (3 + length frame.payload) ≤ s.read
next_lies taken bytes s frame r h e =
    let same : taken ++ s.reader.frames ≡ (read 0 bytes).frames = same_frames taken bytes s.reader h.is in
    let front : s.reader.frames ≡ frame ∷ r.frames = ap (λ (x : Reading). x.frames) e in
    let long : length (frames_bytes (taken ++ s.reader.frames)) ≤ length bytes = subst (λ (fs : List Frame). length (frames_bytes fs) ≤ length bytes) (sym same) (read_lies 0 bytes) in
    let sum = frames_length taken s.reader.frames in
    let first : length (frames_bytes s.reader.frames) ≡ length (frames_bytes (frame ∷ r.frames)) = ap (λ (fs : List Frame). length (frames_bytes fs)) front in
    let parts = length-append frame.payload (frames_bytes r.frames) in
    let counted = h.read in
    let placed = h.place in
    omega (arith, long, sum, first, parts, counted, placed)

pub frame_length : (taken : List Frame) (frame : Frame) → length (frames_bytes (taken ++ frame ∷ [])) ≡ length (frames_bytes taken) + length (frame_bytes frame)
frame_length taken frame =
    let sum = frames_length taken (frame ∷ []) in
    let one = length-append (frame_bytes frame) [] in
    omega (arith, sum, one)

pub holds_next : (taken : List Frame) (bytes : List ℕ) (s s' : Incoming) (frame : Frame) → Holds taken bytes s → s.reader ≡ behind_frames (frame ∷ []) s'.reader → s'.read ≡ s.read → s'.fault ≡ s.fault → s'.place ≡ s.place + (3 + length frame.payload)
    → Holds (taken ++ frame ∷ []) bytes s'
holds_next taken bytes s s' frame h e read fault place = record {
  is = behind_both taken (frame ∷ []) s'.reader ∙ ap (behind_frames taken) (sym e) ∙ h.is;
  read = read ∙ h.read;
  place = let sum = frame_length taken frame in let was = h.place in omega (arith, sum, was, place);
  fault = subst (λ (f : Option ℕ). IsFaultAt s'.reader.fault f) (sym fault) (subst (λ (f : Option FrameFault). IsFaultAt f s.fault) (ap (λ (x : Reading). x.fault) e) h.fault);
}

-- ---- a piece comes

pub counted : (taken : List Frame) (bytes : List ℕ) (s : Incoming) → Holds taken bytes s → s.reader.place + length s.reader.left ≤ s.read
counted taken bytes s h =
    let at : s.reader.place ≡ (read 0 bytes).place = ap (λ (x : Reading). x.place) h.is in
    let left : length s.reader.left ≡ length (read 0 bytes).left = ap (λ (x : Reading). length x.left) h.is in
    let within = read_within 0 bytes in
    let all = h.read in
    omega (arith, at, left, within, all)

pub read_more : (taken : List Frame) (bytes : List ℕ) (s : Incoming) (piece : List ℕ) → Holds taken bytes s → behind_frames taken (read_on s.reader piece) ≡ read 0 (bytes ++ piece)
read_more taken bytes s piece h = sym (read_given taken s.reader piece) ∙ ap (λ (r : Reading). read_on r piece) h.is ∙ sym (read_pieces 0 bytes piece)

pub holds_more : (taken : List Frame) (bytes : List ℕ) (s s' : Incoming) (piece : List ℕ) → Holds taken bytes s → s'.reader ≡ read_on s.reader piece → s'.read ≡ s.read + length piece → s'.place ≡ s.place → IsFaultAt s'.reader.fault s'.fault
    → Holds taken (bytes ++ piece) s'
holds_more taken bytes s s' piece h e read place fault = record {
  is = ap (behind_frames taken) e ∙ read_more taken bytes s piece h;
  read = let sum = length-append bytes piece in let was = h.read in omega (arith, sum, was, read);
  place = place ∙ h.place;
  fault = fault;
}

pub stands_bad : (f : Option FrameFault) (x : FrameFault) (at : ℕ) → f ≡ Some x → x ≡ BadKind at → StandsAt f at
stands_bad f x at e k = subst (λ (g : Option FrameFault). StandsAt g at) (sym (e ∙ ap Some k)) refl

pub stands_long : (f : Option FrameFault) (x : FrameFault) (at : ℕ) → f ≡ Some x → x ≡ TooLong at → StandsAt f at
stands_long f x at e k = subst (λ (g : Option FrameFault). StandsAt g at) (sym (e ∙ ap Some k)) refl

-- ---- no piece is read in vain

pub needed_later : (n m : ℕ) (bytes : List ℕ) → n ≤ m → IsNeeded n bytes → IsNeeded m bytes
needed_later n m bytes le (inl none) = inl none
needed_later n m bytes le (inr (before, piece, is, short, few)) = inr (before, piece, is, short, omega arith)

pub needed_piece : (taken : List Frame) (bytes : List ℕ) (s : Incoming) (piece : List ℕ) → Holds taken bytes s → s.reader.frames ≡ [] → length piece ≤ most_piece → IsNeeded (length taken + 1) (bytes ++ piece)
needed_piece taken bytes s piece h none short =
    let same : taken ++ s.reader.frames ≡ (read 0 bytes).frames = same_frames taken bytes s.reader h.is in
    let only : length (taken ++ s.reader.frames) ≡ length (read 0 bytes).frames = ap length same in
    let sum = length-append taken s.reader.frames in
    let nil : length s.reader.frames ≡ 0 = ap length none in
    inr (bytes, piece, refl, short, omega (arith, only, sum, nil))
