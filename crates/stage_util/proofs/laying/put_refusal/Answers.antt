use Rattle.std.proofs.Common.{refl}
use Rattle.message_codec.specs.MessageLaws.{refused_known}
use Rattle.stage_util.proofs.Layings.{handed_over}
use Rattle.stage_util.proofs.Replies.{refused_frames}
use Rattle.stage_util.proofs.laying.put_refusal.Goals as goal

pub returns-in-Ok-clause-refused : goal.returns-in-Ok-clause-refused
returns-in-Ok-clause-refused g c = λ b asked.
    let now = c.hand_over.new.self in
    let later = c.hand_over.ensures.asked b asked in (
      refl,
      refused_known c.args.refusal c.args.message.kind c.args.message.bytes c.requires.is,
      handed_over (g.B.Base.database b) (g.B.Base.database now) (g.B.Base.schema now) (g.B.Base.clock b) (g.B.Base.clock now) (g.B.Base.left_since b) (g.B.Base.left_since now)
          (g.B.Base.asks_keep b now later).0 (g.B.Base.asks b now later).nothing_else (g.B.Base.counts_now now) c.hand_over.ensures.forgotten,
    )

pub returns-in-Ok-clause-frames : goal.returns-in-Ok-clause-frames
returns-in-Ok-clause-frames g c = refused_frames c.args.refusal c.args.message.kind c.args.message.bytes c.args.out.now c.put.new.self c.requires.is c.in-Ok.ensures.ok

pub returns-in-Err-clause-refused : goal.returns-in-Err-clause-refused
returns-in-Err-clause-refused g c = λ b asked. record { same = (g.B.Base.asks_keep b c.args.base.now asked).0; crash = (g.B.Base.asks b c.args.base.now asked).nothing_else }
