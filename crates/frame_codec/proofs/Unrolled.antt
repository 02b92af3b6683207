-- What bytes are read as, by what stands at their front.
use Rattle.std.proofs.Common.{◌≡◌, refl, ap, ◌∙◌, ℕ, zero, suc, ◌+◌, ◌≤◌, List, [], ◌∷◌, ◌++◌, append_assoc, take, drop, length, arith, length-drop}
use Rattle.frame_codec.specs.declared.fault.FrameFault.TheVariants.{BadKind as bad_kind_at, TooLong as too_long_at}
use Rattle.frame_codec.specs.declared.frame.Frame.{Frame}
use Rattle.frame_codec.specs.declared.fronts.Front.{Front}
use Rattle.frame_codec.specs.declared.fronts.Front.TheVariants.{Whole, Part, BadKind, TooLong}
use Rattle.frame_codec.specs.Messages.{frame}
use Rattle.frame_codec.specs.Reading.{Reading, behind_frames, broken_at, front_of, left_at, read, read_by, read_upto}
use Rattle.frame_codec.proofs.Headers.{whole_within}

-- the same front, and the same of whatever follows a whole frame
by_same : (f g : ℕ → List ℕ → Reading) (place : ℕ) (bytes : List ℕ) (front : Front)
    → ((k n : ℕ) → front ≡ Whole k n → f (place + (3 + n)) (drop (3 + n) bytes) ≡ g (place + (3 + n)) (drop (3 + n) bytes))
    → read_by f place bytes front ≡ read_by g place bytes front
by_same f g place bytes (Whole k n) same = ap (λ (r : Reading). behind_frames (frame k (take n (drop 3 bytes)) ∷ []) r) (same k n refl)
by_same f g place bytes Part same = refl
by_same f g place bytes BadKind same = refl
by_same f g place bytes TooLong same = refl

-- bytes have fewer frames than bytes, however many are looked for
upto_same : (n m place : ℕ) (bytes : List ℕ) → length bytes ≤ n → length bytes ≤ m → read_upto n place bytes ≡ read_upto m place bytes
unfolding front_of
upto_same zero zero place bytes a b = refl
upto_same zero (suc m) place [] a b = refl
upto_same zero (suc m) place (x ∷ xs) a b = absurd (omega arith)
upto_same (suc n) zero place [] a b = refl
upto_same (suc n) zero place (x ∷ xs) a b = absurd (omega arith)
upto_same (suc n) (suc m) place bytes a b =
    by_same (read_upto n) (read_upto m) place bytes (front_of bytes)
    (λ k s e.
    let w = whole_within bytes k s e in
    let l = length-drop (3 + s) bytes in
    upto_same n m (place + (3 + s)) (drop (3 + s) bytes) (omega arith) (omega arith))

pub read_unrolled : (place : ℕ) (bytes : List ℕ) → read place bytes ≡ read_by read place bytes (front_of bytes)
unfolding read
read_unrolled place bytes =
    upto_same (length bytes) (suc (length bytes)) place bytes (omega arith) (omega arith)
    ∙ by_same (read_upto (length bytes)) read place bytes (front_of bytes)
    (λ k s e.
    let l = length-drop (3 + s) bytes in
    upto_same (length bytes) (length (drop (3 + s) bytes)) (place + (3 + s)) (drop (3 + s) bytes) (omega arith) (omega arith))

pub read_whole : (place : ℕ) (bytes : List ℕ) (k n : ℕ) → front_of bytes ≡ Whole k n
    → read place bytes ≡ behind_frames (frame k (take n (drop 3 bytes)) ∷ []) (read (place + (3 + n)) (drop (3 + n) bytes))
read_whole place bytes k n e = read_unrolled place bytes ∙ ap (read_by read place bytes) e

pub read_part : (place : ℕ) (bytes : List ℕ) → front_of bytes ≡ Part → read place bytes ≡ left_at place bytes
read_part place bytes e = read_unrolled place bytes ∙ ap (read_by read place bytes) e

pub read_bad : (place : ℕ) (bytes : List ℕ) → front_of bytes ≡ BadKind → read place bytes ≡ broken_at place (bad_kind_at place)
read_bad place bytes e = read_unrolled place bytes ∙ ap (read_by read place bytes) e

pub read_long : (place : ℕ) (bytes : List ℕ) → front_of bytes ≡ TooLong → read place bytes ≡ broken_at place (too_long_at (place + 1))
read_long place bytes e = read_unrolled place bytes ∙ ap (read_by read place bytes) e

-- frames before frames
pub behind_both : (fs gs : List Frame) (r : Reading) → behind_frames (fs ++ gs) r ≡ behind_frames fs (behind_frames gs r)
behind_both fs gs r = ap (λ (xs : List Frame). record r { frames = xs }) (append_assoc fs gs r.frames)
