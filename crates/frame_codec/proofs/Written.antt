-- Frames that are spelled one behind the other.
use Rattle.std.proofs.Common.{◌≡◌, refl, ap, ◌∙◌, ℕ, ◌+◌, true, None, List, [], ◌∷◌, ◌++◌, drop, length, arith, length-append, take_at, drop_at}
use Rattle.std.specs.List.{list_all}
use Rattle.frame_codec.specs.declared.frame.Frame.{Frame}
use Rattle.frame_codec.specs.Frames.{frame_bytes, frames_bytes, is_lawful}
use Rattle.frame_codec.specs.Messages.{frame}
use Rattle.frame_codec.specs.Reading.{Reading, behind_frames, front_of, left_at, read}
use Rattle.frame_codec.proofs.Headers.{and_left, and_right, written_whole}
use Rattle.frame_codec.proofs.Unrolled.{read_whole, read_part}

-- a lawful frame's bytes are read as the frame
pub read_frame : (place : ℕ) (f : Frame) (ys : List ℕ) → is_lawful f ≡ true
    → read place (frame_bytes f ++ ys) ≡ behind_frames (f ∷ []) (read (place + (3 + length f.payload)) ys)
read_frame place f ys e =
    let n = length f.payload in
    read_whole place (frame_bytes f ++ ys) f.kind n (written_whole f ys e)
    ∙ ap (λ (p : List ℕ). behind_frames (frame f.kind p ∷ []) (read (place + (3 + n)) (drop (3 + n) (frame_bytes f ++ ys)))) (take_at f.payload ys n refl)
    ∙ ap (λ (t : List ℕ). behind_frames (f ∷ []) (read (place + (3 + n)) t)) (drop_at (frame_bytes f) ys (3 + n) (let l : length (frame_bytes f) ≡ 3 + n = omega arith in l))

-- these frames were read, up to a place
abbrev done : List Frame → ℕ → Reading
done frames place = record { frames = frames; left = []; place = place; fault = None }

none_written : (place : ℕ) → read place [] ≡ left_at place []
unfolding front_of
none_written place = read_part place [] refl

pub read_written : (place : ℕ) (frames : List Frame) → list_all is_lawful frames ≡ true
    → read place (frames_bytes frames) ≡ record { frames = frames; left = []; place = place + length (frames_bytes frames); fault = None }
read_written place [] e = none_written place ∙ ap (λ (p : ℕ). left_at p []) (let z : place ≡ place + 0 = omega arith in z)
read_written place (f ∷ frames) e =
    let rest = read_written (place + (3 + length f.payload)) frames (and_right (is_lawful f) (list_all is_lawful frames) e) in
    let l = length-append (frame_bytes f) (frames_bytes frames) in
    read_frame place f (frames_bytes frames) (and_left (is_lawful f) (list_all is_lawful frames) e)
    ∙ ap (behind_frames (f ∷ [])) rest
    ∙ ap (done (f ∷ frames)) (let s : place + (3 + length f.payload) + length (frames_bytes frames) ≡ place + length (frame_bytes f ++ frames_bytes frames) = omega arith in s)
