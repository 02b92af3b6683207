-- Frames that are taken one after the other from a piece.
use Rattle.std.proofs.Common.{◌≡◌, sym, ap, ◌∙◌, ℕ, ◌+◌, ◌-◌, ◌≤◌, Some, None, List, [], ◌∷◌, ◌++◌, take, drop, length, arith}
use Rattle.std.proofs.lemmas.List.{append-nil, drop-drop, drop_all}
use Rattle.std.specs.declared.option.Option.{Option}
use Rattle.frame_codec.specs.declared.fault.FrameFault.{FrameFault}
use Rattle.frame_codec.specs.declared.fault.FrameFault.TheVariants.{BadKind as bad_kind_at, TooLong as too_long_at}
use Rattle.frame_codec.specs.declared.frame.Frame.{Frame}
use Rattle.frame_codec.specs.declared.fronts.Front.TheVariants.{Whole, Part, BadKind, TooLong}
use Rattle.frame_codec.specs.Messages.{frame}
use Rattle.frame_codec.specs.Reading.{Reading, behind_frames, broken_at, front_of, left_at, read}
use Rattle.frame_codec.proofs.Payloads.{behind_frame}
use Rattle.frame_codec.proofs.Unrolled.{behind_both, read_whole, read_part, read_bad, read_long}

-- one frame more
pub took_one : (frames : List Frame) (piece : List ℕ) (place from kind size : ℕ) → front_of (drop from piece) ≡ Whole kind size
    → behind_frames (frames ++ frame kind (take size (drop 3 (drop from piece))) ∷ []) (read (place + (3 + size)) (drop (from + (3 + size)) piece))
    ≡ behind_frames frames (read place (drop from piece))
took_one frames piece place from kind size e =
    let one = frame kind (take size (drop 3 (drop from piece))) ∷ [] in
    behind_both frames one (read (place + (3 + size)) (drop (from + (3 + size)) piece))
    ∙ ap (λ (t : List ℕ). behind_frames frames (behind_frames one (read (place + (3 + size)) t))) (sym (drop-drop (3 + size) from piece))
    ∙ ap (behind_frames frames) (sym (read_whole place (drop from piece) kind size e))

-- a part of a frame is left
pub stopped_part : (frames : List Frame) (place : ℕ) (rest : List ℕ) → front_of rest ≡ Part
    → behind_frames frames (read place rest) ≡ record { frames = frames; left = rest; place = place; fault = None }
stopped_part frames place rest e =
    ap (behind_frames frames) (read_part place rest e) ∙ ap (λ (fs : List Frame). record (left_at place rest) { frames = fs }) (append-nil frames)

-- a byte that is no kind
pub stopped_bad : (frames : List Frame) (place : ℕ) (rest : List ℕ) → front_of rest ≡ BadKind
    → behind_frames frames (read place rest) ≡ record { frames = frames; left = []; place = place; fault = Some (bad_kind_at place) }
stopped_bad frames place rest e =
    ap (behind_frames frames) (read_bad place rest e) ∙ ap (λ (fs : List Frame). record (broken_at place (bad_kind_at place)) { frames = fs }) (append-nil frames)

-- a length that no frame has
pub stopped_long : (frames : List Frame) (place : ℕ) (rest : List ℕ) → front_of rest ≡ TooLong
    → behind_frames frames (read place rest) ≡ record { frames = frames; left = []; place = place; fault = Some (too_long_at (place + 1)) }
stopped_long frames place rest e =
    ap (behind_frames frames) (read_long place rest e) ∙ ap (λ (fs : List Frame). record (broken_at place (too_long_at (place + 1))) { frames = fs }) (append-nil frames)

-- behind the end nothing is left
pub none_behind : (n : ℕ) (xs : List ℕ) → n ≡ length xs → drop n xs ≡ []
none_behind n xs e = drop_all n xs (omega arith)

pub none_is_part_behind : (n : ℕ) (xs : List ℕ) → n ≡ length xs → front_of (drop n xs) ≡ Part
unfolding front_of
none_is_part_behind n xs e = ap front_of (none_behind n xs e)

-- readings with the same parts
pub same_parts : (frames : List Frame) (left left' : List ℕ) (place place' : ℕ) (fault fault' : Option FrameFault) → left ≡ left' → place ≡ place' → fault ≡ fault'
    → ◌≡◌ {A = Reading} (record { frames = frames; left = left; place = place; fault = fault }) (record { frames = frames; left = left'; place = place'; fault = fault' })
same_parts frames left left' place place' fault fault' l p f = cc

-- the frame that begins in the bytes left and ends in the piece
pub took_first : (frames : List Frame) (left piece : List ℕ) (place kind size begin : ℕ) → front_of (left ++ piece) ≡ Whole kind size → length left ≤ 3 + size → begin ≡ 3 + size - length left
    → behind_frames (frames ++ frame kind (take size (drop 3 (left ++ piece))) ∷ []) (read (place + (3 + size)) (drop begin piece)) ≡ behind_frames frames (read place (left ++ piece))
took_first frames left piece place kind size begin e le b =
    let one = frame kind (take size (drop 3 (left ++ piece))) ∷ [] in
    behind_both frames one (read (place + (3 + size)) (drop begin piece))
    ∙ ap (λ (t : List ℕ). behind_frames frames (behind_frames one (read (place + (3 + size)) t))) (ap (λ (n : ℕ). drop n piece) b ∙ sym (behind_frame (3 + size) left piece le))
    ∙ ap (behind_frames frames) (sym (read_whole place (left ++ piece) kind size e))
