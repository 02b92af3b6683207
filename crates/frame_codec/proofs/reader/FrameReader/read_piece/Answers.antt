use Rattle.std.proofs.Common.{◌≡◌, ℕ, ◌+◌, ◌++◌, Some, Err, List, [], sym, ap, ◌∙◌}
use Rattle.frame_codec.specs.declared.fault.FrameFault.TheVariants.{BadKind as bad_kind_at, TooLong as too_long_at}
use Rattle.frame_codec.specs.Reading.{Reading, front_of}
use Rattle.frame_codec.proofs.Fed.{fed_part, fed_bad, fed_long}
use Rattle.frame_codec.proofs.reader.FrameReader.read_piece.Goals as goal

pub returns-in-Part : goal.returns-in-Part
returns-in-Part c =
    let left : c.deref.result.now ≡ c.args.self.now.left = c.deref.ensures.value ∙ ap (λ (r : Reading). r.left) c.self.view_is in
    let front = sym (c.in-Part.ensures.front ∙ ap (λ (t : List ℕ). front_of (t ++ c.args.piece.now)) left) in
    fed_part c.args.self.now c.keep_on.new.self c.args.piece.now c.keep_on.result c.requires.unbroken front c.keep_on.ensures.ok c.keep_on.ensures.err c.keep_on.ensures.memory

pub returns-in-BadKind : goal.returns-in-BadKind
returns-in-BadKind c =
    let left : c.deref.result.now ≡ c.args.self.now.left = c.deref.ensures.value ∙ ap (λ (r : Reading). r.left) c.self.view_is in
    let front = sym (c.in-BadKind.ensures.front ∙ ap (λ (t : List ℕ). front_of (t ++ c.args.piece.now)) left) in
    let place : c.break_off.inside.place ≡ c.args.self.now.place = ap (λ (r : Reading). r.place) c.break_off.view_is in
    let answer = c.break_off-in-BadKind.ensures.answer ∙ ap (λ (p : ℕ). Err (bad_kind_at p)) place in
    let broken = c.break_off-in-BadKind.ensures.broken ∙ ap (λ (p : ℕ). record c.args.self.now { left = []; fault = Some (bad_kind_at p) }) place in
    fed_bad c.args.self.now c.break_off-in-BadKind.new.self c.args.piece.now c.break_off-in-BadKind.result c.requires.unbroken front answer broken

pub returns-in-TooLong : goal.returns-in-TooLong
returns-in-TooLong c =
    let left : c.deref.result.now ≡ c.args.self.now.left = c.deref.ensures.value ∙ ap (λ (r : Reading). r.left) c.self.view_is in
    let front = sym (c.in-TooLong.ensures.front ∙ ap (λ (t : List ℕ). front_of (t ++ c.args.piece.now)) left) in
    let place : c.break_off-in-TooLong.inside.place ≡ c.args.self.now.place = ap (λ (r : Reading). r.place) c.break_off-in-TooLong.view_is in
    let answer = c.break_off-in-TooLong-2.ensures.answer ∙ ap (λ (p : ℕ). Err (too_long_at (p + 1))) place in
    let broken = c.break_off-in-TooLong-2.ensures.broken ∙ ap (λ (p : ℕ). record c.args.self.now { left = []; fault = Some (too_long_at (p + 1)) }) place in
    fed_long c.args.self.now c.break_off-in-TooLong-2.new.self c.args.piece.now c.break_off-in-TooLong-2.result c.requires.unbroken front answer broken
