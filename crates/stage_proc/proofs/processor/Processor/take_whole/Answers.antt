use Rattle.std.proofs.Common.{subst}
use Rattle.message_codec.specs.Coming.{HasCome}
use Rattle.message_codec.specs.declared.gathered.Came.TheVariants as came
use Rattle.message_codec.specs.declared.messages.StageMessage.{StageMessage}
use Rattle.stage_proc.proofs.Taken.{no_message}
use Rattle.stage_proc.proofs.processor.Processor.take_whole.Goals as goal

pub hold-requires-clause-came : goal.hold-requires-clause-came
hold-requires-clause-came c = subst (λ (m : StageMessage). HasCome c.args.self.now.got c.args.frame (came.Whole m)) c.in-Tree.is c.requires.came

pub leave-requires-clause-came : goal.leave-requires-clause-came
leave-requires-clause-came c = subst (λ (m : StageMessage). HasCome c.args.self.now.got c.args.frame (came.Whole m)) c.in-Quit.is c.requires.came

pub returns-clause-unlawful : goal.returns-clause-unlawful
returns-clause-unlawful c = λ user wrong.
    no_message user c.args.self.now.at c.args.self.now.got c.args.self.now.left c.args.self.now.right c.args.frame c.args.message c.requires.waits c.requires.came c.in_default.not-Tree c.in_default.not-Quit

pub returns-in-Tree-clause-unlawful : goal.returns-in-Tree-clause-unlawful
returns-in-Tree-clause-unlawful c = λ user wrong. absurd (c.hold.ensures.lawful wrong)

pub returns-in-Quit-clause-unlawful : goal.returns-in-Quit-clause-unlawful
returns-in-Quit-clause-unlawful c = λ user wrong. absurd (c.leave.ensures.lawful wrong)
