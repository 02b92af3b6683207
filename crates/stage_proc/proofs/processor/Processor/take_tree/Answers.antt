use Rattle.std.proofs.Common.{subst}
use Rattle.message_codec.specs.Coming.{HasCome}
use Rattle.message_codec.specs.declared.gathered.Came.{Came}
use Rattle.stage_proc.proofs.Taken.{no_frame, took_part}
use Rattle.stage_proc.proofs.processor.Processor.take_tree.Goals as goal

pub returns-in_ok-push-in-Part-clause-taken : goal.returns-in_ok-push-in-Part-clause-taken
returns-in_ok-push-in-Part-clause-taken c = λ user.
    took_part user c.args.self.now.at c.args.self.now.got c.push.new.self c.args.self.now.left c.args.self.now.right c.args.frame c.requires (subst (λ (w : Came). HasCome c.args.self.now.got c.args.frame w) c.in-Part.is c.in_ok-read.ensures) c.in_ok-push-in-Part.ensures.ok

pub returns-in-Unlawful-clause-unlawful : goal.returns-in-Unlawful-clause-unlawful
returns-in-Unlawful-clause-unlawful c = λ user wrong.
    no_frame user c.args.self.now.at c.args.self.now.got c.args.self.now.left c.args.self.now.right c.args.frame c.requires (subst (λ (w : Came). HasCome c.args.self.now.got c.args.frame w) c.in-Unlawful.is c.in_ok-read.ensures)
