-- A stream that is read in pieces.
use Rattle.std.proofs.Common.{◌≡◌, refl, sym, ap, subst, ◌∙◌, ℕ, zero, suc, ◌+◌, ◌≤◌, Some, None, List, [], ◌∷◌, ◌++◌, append_assoc, take, drop, length, arith, length-append, length-drop}
use Rattle.std.specs.declared.option.Option.{Option}
use Rattle.std.proofs.lemmas.List.{drop-append-le, take-append-le}
use Rattle.frame_codec.specs.declared.fault.FrameFault.{FrameFault}
use Rattle.frame_codec.specs.declared.fault.FrameFault.TheVariants.{OutOfMemory as no_memory}
use Rattle.frame_codec.specs.declared.frame.Frame.{Frame}
use Rattle.frame_codec.specs.declared.fronts.Front.{Front}
use Rattle.frame_codec.specs.declared.fronts.Front.TheVariants.{Whole, Part, BadKind, TooLong}
use Rattle.frame_codec.specs.Messages.{frame}
use Rattle.frame_codec.specs.Reading.{Reading, behind_frames, front_of, read, read_on}
use Rattle.frame_codec.proofs.Headers.{whole_within, whole_more, bad_more, long_more}
use Rattle.frame_codec.proofs.Unrolled.{behind_both, read_whole, read_part, read_bad, read_long}

-- ---- frames that were given before

given_parts : (fs frames : List Frame) (left : List ℕ) (place : ℕ) (fault : Option FrameFault) (piece : List ℕ)
    → read_on (behind_frames fs (record { frames = frames; left = left; place = place; fault = fault })) piece
    ≡ behind_frames fs (read_on (record { frames = frames; left = left; place = place; fault = fault }) piece)
given_parts fs frames left place None piece = behind_both fs frames (read place (left ++ piece))
given_parts fs frames left place (Some fault) piece = refl

pub read_given : (fs : List Frame) (r : Reading) (piece : List ℕ) → read_on (behind_frames fs r) piece ≡ behind_frames fs (read_on r piece)
read_given fs r piece = given_parts fs r.frames r.left r.place r.fault piece

-- ---- two pieces

-- the payload of a frame that is whole without what follows
same_payload : (xs ys : List ℕ) (n : ℕ) → 3 + n ≤ length xs → take n (drop 3 (xs ++ ys)) ≡ take n (drop 3 xs)
same_payload xs ys n le =
    let l = length-drop 3 xs in
    ap (take n) (drop-append-le 3 xs ys (omega arith)) ∙ take-append-le n (drop 3 xs) ys (omega arith)

abbrev Agrees : ℕ → Type 0
Agrees n = (place : ℕ) (xs ys : List ℕ) → length xs ≤ n → read place (xs ++ ys) ≡ read_on (read place xs) ys

pieces_by : (n place : ℕ) (xs ys : List ℕ) (front : Front) → Agrees n → length xs ≤ suc n → front_of xs ≡ front → read place (xs ++ ys) ≡ read_on (read place xs) ys
pieces_by n place xs ys (Whole k s) below le e =
    let w = whole_within xs k s e in
    let l = length-drop (3 + s) xs in
    let rest = drop (3 + s) xs in
    let at = place + (3 + s) in
    let fs = frame k (take s (drop 3 xs)) ∷ [] in
    let ends : read at (rest ++ ys) ≡ read_on (read at rest) ys = below at rest ys (omega arith) in
    read_whole place (xs ++ ys) k s (whole_more xs ys k s e)
    ∙ ap (λ (p : List ℕ). behind_frames (frame k p ∷ []) (read at (drop (3 + s) (xs ++ ys)))) (same_payload xs ys s w)
    ∙ ap (λ (t : List ℕ). behind_frames fs (read at t)) (drop-append-le (3 + s) xs ys w)
    ∙ ap (λ (r : Reading). behind_frames fs r) ends
    ∙ sym (read_given fs (read at rest) ys)
    ∙ ap (λ (r : Reading). read_on r ys) (sym (read_whole place xs k s e))
pieces_by n place xs ys Part below le e = sym (ap (λ (r : Reading). read_on r ys) (read_part place xs e))
pieces_by n place xs ys BadKind below le e =
    read_bad place (xs ++ ys) (bad_more xs ys e) ∙ ap (λ (r : Reading). read_on r ys) (sym (read_bad place xs e))
pieces_by n place xs ys TooLong below le e =
    read_long place (xs ++ ys) (long_more xs ys e) ∙ ap (λ (r : Reading). read_on r ys) (sym (read_long place xs e))

pieces_none : (place : ℕ) (xs ys : List ℕ) → length xs ≤ 0 → read place (xs ++ ys) ≡ read_on (read place xs) ys
unfolding front_of
pieces_none place [] ys le = sym (ap (λ (r : Reading). read_on r ys) (read_part place [] refl))
pieces_none place (x ∷ xs) ys le = absurd (omega arith)

pieces_upto : (n : ℕ) → Agrees n
pieces_upto zero place xs ys le = pieces_none place xs ys le
pieces_upto (suc n) place xs ys le = pieces_by n place xs ys (front_of xs) (pieces_upto n) le refl

pub read_pieces : (place : ℕ) (xs ys : List ℕ) → read place (xs ++ ys) ≡ read_on (read place xs) ys
read_pieces place xs ys = pieces_upto (length xs) place xs ys (omega arith)

later_parts : (frames : List Frame) (left : List ℕ) (place : ℕ) (fault : Option FrameFault) (xs ys : List ℕ)
    → read_on (record { frames = frames; left = left; place = place; fault = fault }) (xs ++ ys)
    ≡ read_on (read_on (record { frames = frames; left = left; place = place; fault = fault }) xs) ys
later_parts frames left place None xs ys =
    ap (λ (t : List ℕ). behind_frames frames (read place t)) (sym (append_assoc left xs ys))
    ∙ ap (behind_frames frames) (read_pieces place (left ++ xs) ys)
    ∙ sym (read_given frames (read place (left ++ xs)) ys)
later_parts frames left place (Some fault) xs ys = refl

pub read_later : (r : Reading) (xs ys : List ℕ) → read_on r (xs ++ ys) ≡ read_on (read_on r xs) ys
read_later r xs ys = later_parts r.frames r.left r.place r.fault xs ys

-- ---- what holds of every reading

-- places never lie behind the bytes
abbrev Within : ℕ → Type 0
Within n = (place : ℕ) (bytes : List ℕ) → length bytes ≤ n → (read place bytes).place + length (read place bytes).left ≤ place + length bytes

abbrev IsWithin : ℕ → List ℕ → Reading → Type 0
IsWithin place bytes r = r.place + length r.left ≤ place + length bytes

within_by : (n place : ℕ) (bytes : List ℕ) (front : Front) → Within n → length bytes ≤ suc n → front_of bytes ≡ front → IsWithin place bytes (read place bytes)
within_by n place bytes (Whole k s) below le e =
    let w = whole_within bytes k s e in
    let l = length-drop (3 + s) bytes in
    let rest = below (place + (3 + s)) (drop (3 + s) bytes) (omega arith) in
    subst (λ (r : Reading). IsWithin place bytes r) (sym (read_whole place bytes k s e)) (omega arith)
within_by n place bytes Part below le e = subst (λ (r : Reading). IsWithin place bytes r) (sym (read_part place bytes e)) (omega arith)
within_by n place bytes BadKind below le e = subst (λ (r : Reading). IsWithin place bytes r) (sym (read_bad place bytes e)) (omega arith)
within_by n place bytes TooLong below le e = subst (λ (r : Reading). IsWithin place bytes r) (sym (read_long place bytes e)) (omega arith)

within_upto : (n : ℕ) → Within n
unfolding front_of
within_upto zero place [] le = subst (λ (r : Reading). IsWithin place [] r) (sym (read_part place [] refl)) (omega arith)
within_upto zero place (x ∷ xs) le = absurd (omega arith)
within_upto (suc n) place bytes le = within_by n place bytes (front_of bytes) (within_upto n) le refl

pub read_within : (place : ℕ) (bytes : List ℕ) → (read place bytes).place + length (read place bytes).left ≤ place + length bytes
read_within place bytes = within_upto (length bytes) place bytes (omega arith)

on_within_parts : (frames : List Frame) (left : List ℕ) (place : ℕ) (fault : Option FrameFault) (piece : List ℕ)
    → (read_on (record { frames = frames; left = left; place = place; fault = fault }) piece).place
    + length (read_on (record { frames = frames; left = left; place = place; fault = fault }) piece).left ≤ place + length left + length piece
on_within_parts frames left place None piece =
    let w = read_within place (left ++ piece) in
    let l = length-append left piece in
    omega arith
on_within_parts frames left place (Some fault) piece = omega arith

pub on_within : (r : Reading) (piece : List ℕ) → (read_on r piece).place + length (read_on r piece).left ≤ r.place + length r.left + length piece
on_within r piece = on_within_parts r.frames r.left r.place r.fault piece

-- no reading wants memory
abbrev Wants : Reading → Type 0
Wants r = r.fault ≡ Some no_memory

wants_by : (n place : ℕ) (bytes : List ℕ) (front : Front) → ((at : ℕ) (xs : List ℕ) → length xs ≤ n → Wants (read at xs) → ⊥) → length bytes ≤ suc n → front_of bytes ≡ front
    → Wants (read place bytes) → ⊥
wants_by n place bytes (Whole k s) below le e w =
    let long = whole_within bytes k s e in
    let l = length-drop (3 + s) bytes in
    below (place + (3 + s)) (drop (3 + s) bytes) (omega arith) (subst Wants (read_whole place bytes k s e) w)
wants_by n place bytes Part below le e w = let f = subst Wants (read_part place bytes e) w in cc
wants_by n place bytes BadKind below le e w = let f = subst Wants (read_bad place bytes e) w in cc
wants_by n place bytes TooLong below le e w = let f = subst Wants (read_long place bytes e) w in cc

wants_upto : (n place : ℕ) (bytes : List ℕ) → length bytes ≤ n → Wants (read place bytes) → ⊥
unfolding front_of
wants_upto zero place [] le w = let f = subst Wants (read_part place [] refl) w in cc
wants_upto zero place (x ∷ xs) le w = absurd (omega arith)
wants_upto (suc n) place bytes le w = wants_by n place bytes (front_of bytes) (wants_upto n) le refl w

pub read_wants_none : (place : ℕ) (bytes : List ℕ) → (read place bytes).fault ≡ Some no_memory → ⊥
read_wants_none place bytes w = wants_upto (length bytes) place bytes (omega arith) w
