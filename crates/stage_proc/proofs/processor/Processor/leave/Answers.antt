use Rattle.std.proofs.Common.{refl}
use Rattle.network_meaning.specs.Sorts.{Message.quit}
use Rattle.stage_proc.proofs.Taken.{took_quit}
use Rattle.stage_proc.proofs.processor.Processor.leave.Goals as goal

pub pass_on-requires : goal.pass_on-requires
pass_on-requires c = (quit, c.requires.came.2)

pub returns-in-Ok-clause-taken : goal.returns-in-Ok-clause-taken
returns-in-Ok-clause-taken c = λ user.
    took_quit user c.args.self.now.at _ c.args.self.now.got c.clear.new.self c.args.self.now.left c.args.self.now.right c.pass_on.new.out c.args.frame c.requires.waits c.requires.came refl c.clear.ensures c.in-Ok.ensures.ok
