use Rattle.std.proofs.Common.{◌≡◌, ◌+◌, ◌-◌, ◌≤◌, ◌++◌, IfOk, drop, length, List, [], ◌∷◌, arith, ap, subst, ◌∙◌, refl}
use Rattle.frame_codec.specs.declared.frame.Frame.{Frame}
use Rattle.frame_codec.specs.Reading.{Reading, behind_frames, read}
use Rattle.frame_codec.proofs.Stops.{took_first}
use Rattle.frame_codec.proofs.taking.take_all.Goals as goal

pub returns-clause-read : goal.returns-clause-read
returns-clause-read c =
    let items = c.in_ok-push_back.ensures.items ∙ ap (λ (f : Frame). c.args.frames.now.items ++ f ∷ []) c.in_ok-frame_of.ensures in
    let le : length c.args.left.now ≤ 3 + c.args.size = omega arith in
    let same =
    ap (λ (fs : List Frame). behind_frames fs (read (c.args.at + (3 + c.args.size)) (drop (3 + c.args.size - length c.args.left.now) c.args.piece.now))) items
    ∙ took_first c.args.frames.now.items c.args.left.now c.args.piece.now c.args.at c.args.kind c.args.size (3 + c.args.size - length c.args.left.now) c.requires.whole le refl in
    subst (λ (r : Reading). IfOk c.take_frames.result (λ stop. r ≡ record { frames = c.take_frames.new.frames.items; left = drop stop.from c.args.piece.now; place = stop.place; fault = stop.fault }))
    same c.take_frames.ensures.read
