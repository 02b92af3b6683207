use Rattle.std.proofs.Common.{subst}
use Rattle.message_codec.specs.Coming.{HasCome}
use Rattle.message_codec.specs.declared.gathered.Came.{Came}
use Rattle.stage_proc.proofs.Taken.{no_part, no_right_frame}
use Rattle.stage_proc.proofs.processor.Processor.take_reply.Goals as goal

pub returns-in-Part-clause-unlawful : goal.returns-in-Part-clause-unlawful
returns-in-Part-clause-unlawful c = λ user wrong.
    no_part user c.args.self.now.at c.args.self.now.got c.new-none.result c.args.self.now.left c.args.self.now.right c.args.frame c.requires c.new-none.ensures (subst (λ (w : Came). HasCome c.new-none.result c.args.frame w) c.in-Part.is c.in_ok-message.ensures)

pub returns-in-Unlawful-clause-unlawful : goal.returns-in-Unlawful-clause-unlawful
returns-in-Unlawful-clause-unlawful c = λ user wrong.
    no_right_frame user c.args.self.now.at c.args.self.now.got c.new-none.result c.args.self.now.left c.args.self.now.right c.args.frame c.requires c.new-none.ensures (subst (λ (w : Came). HasCome c.new-none.result c.args.frame w) c.in-Unlawful.is c.in_ok-message.ensures)
