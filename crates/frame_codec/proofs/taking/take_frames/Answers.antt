use Rattle.std.proofs.Common.{◌≡◌, ◌+◌, ◌++◌, Some, drop, take, List, [], ◌∷◌, arith, sym, ap, ◌∙◌, ℕ}
use Rattle.frame_codec.specs.declared.fault.FrameFault.TheVariants.{BadKind as bad_kind_at, TooLong as too_long_at}
use Rattle.frame_codec.specs.declared.frame.Frame.{Frame}
use Rattle.frame_codec.specs.declared.fronts.Front.TheVariants.{Whole}
use Rattle.frame_codec.specs.Messages.{frame}
use Rattle.frame_codec.specs.Reading.{behind_frames, front_of, read}
use Rattle.frame_codec.proofs.Stops.{took_one, stopped_part, stopped_bad, stopped_long, same_parts, none_behind, none_is_part_behind}
use Rattle.frame_codec.proofs.taking.take_frames.Goals as goal

pub each-preserved : goal.each-preserved
each-preserved c =
    let rest : c.split_at.result.1.now ≡ drop c.each.from c.args.piece.now = c.split_at.ensures.back in
    let front : front_of (drop c.each.from c.args.piece.now) ≡ Whole c.in-Whole.kind c.in-Whole.size = sym (c.in-Whole.ensures.front ∙ ap front_of rest) in
    let made = c.in_ok-frame_of-in-Whole.ensures ∙ ap (λ (t : List ℕ). frame c.in-Whole.kind (take c.in-Whole.size (drop 3 t))) rest in
    let items = c.in_ok-push_back-in-Whole.ensures.items ∙ ap (λ (f : Frame). c.each.frames.items ++ f ∷ []) made in
    record {
      begun = omega arith;
      within = omega (arith, c.in-Whole.ensures.sizes);
      counted = omega arith;
      same =
          ap (λ (fs : List Frame). behind_frames fs (read (c.each.place + (3 + c.in-Whole.size)) (drop (c.each.from + (3 + c.in-Whole.size)) c.args.piece.now))) items
          ∙ took_one c.each.frames.items c.args.piece.now c.each.place c.each.from c.in-Whole.kind c.in-Whole.size front
          ∙ c.each.invariant.same;
    }

pub returns-in-Part-clause-read : goal.returns-in-Part-clause-read
returns-in-Part-clause-read c =
    let rest : c.split_at.result.1.now ≡ drop c.each.from c.args.piece.now = c.split_at.ensures.back in
    sym c.each.invariant.same
    ∙ stopped_part c.each.frames.items c.each.place (drop c.each.from c.args.piece.now) (sym (c.in-Part.ensures.front ∙ ap front_of rest))

pub returns-in-BadKind-clause-read : goal.returns-in-BadKind-clause-read
returns-in-BadKind-clause-read c =
    let rest : c.split_at.result.1.now ≡ drop c.each.from c.args.piece.now = c.split_at.ensures.back in
    sym c.each.invariant.same
    ∙ stopped_bad c.each.frames.items c.each.place (drop c.each.from c.args.piece.now) (sym (c.in-BadKind.ensures.front ∙ ap front_of rest))
    ∙ same_parts c.each.frames.items [] (drop c.break_at.result.from c.args.piece.now) c.each.place c.break_at.result.place (Some (bad_kind_at c.each.place)) c.break_at.result.fault
    (sym (none_behind c.break_at.result.from c.args.piece.now c.break_at.ensures.from)) (sym c.break_at.ensures.place) (sym c.break_at.ensures.fault)

pub returns-in-BadKind-clause-part : goal.returns-in-BadKind-clause-part
returns-in-BadKind-clause-part c = none_is_part_behind c.break_at.result.from c.args.piece.now c.break_at.ensures.from

pub returns-in-TooLong-clause-read : goal.returns-in-TooLong-clause-read
returns-in-TooLong-clause-read c =
    let rest : c.split_at.result.1.now ≡ drop c.each.from c.args.piece.now = c.split_at.ensures.back in
    let stop = c.break_at-in-TooLong.result in
    sym c.each.invariant.same
    ∙ stopped_long c.each.frames.items c.each.place (drop c.each.from c.args.piece.now) (sym (c.in-TooLong.ensures.front ∙ ap front_of rest))
    ∙ same_parts c.each.frames.items [] (drop stop.from c.args.piece.now) c.each.place stop.place (Some (too_long_at (c.each.place + 1))) stop.fault
    (sym (none_behind stop.from c.args.piece.now c.break_at-in-TooLong.ensures.from)) (sym c.break_at-in-TooLong.ensures.place) (sym c.break_at-in-TooLong.ensures.fault)

pub returns-in-TooLong-clause-part : goal.returns-in-TooLong-clause-part
returns-in-TooLong-clause-part c = none_is_part_behind c.break_at-in-TooLong.result.from c.args.piece.now c.break_at-in-TooLong.ensures.from
