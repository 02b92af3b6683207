use Rattle.std.proofs.Common.{◌∙◌, sym, subst, List, Some}
use Rattle.frame_codec.specs.declared.frame.Frame.{Frame}
use Rattle.message_codec.proofs.Queue.{begun_waits, some_frames}
use Rattle.message_codec.specs.Waiting.{Waits}
use Rattle.message_codec.proofs.outgoing.begin.Goals as goal

pub returns-in-Some-clause-waits : goal.returns-in-Some-clause-waits
returns-in-Some-clause-waits c =
    subst (λ (fs : List Frame). Waits (Some fs) c.frame_count.result c.pop_front.new.self.items) (sym c.of.ensures)
    (begun_waits c.in-Some.message c.args.later.now.items c.pop_front.new.self.items c.frame_count.result c.in-Some.ensures.items c.frame_count.ensures c.requires.kinds)

pub returns-in-Some-clause-over : goal.returns-in-Some-clause-over
returns-in-Some-clause-over c = λ e. absurd (some_frames c.in-Some.message (sym c.of.ensures ∙ e))
