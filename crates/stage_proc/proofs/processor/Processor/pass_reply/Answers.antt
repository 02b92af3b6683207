use Rattle.std.proofs.Common.{◌≡◌, true, false, refl, rules}
use Rattle.message_codec.specs.Messages.{message}
use Rattle.stage_proc.specs.Taking.{is_reply}
use Rattle.stage_proc.proofs.Taken.{no_reply, took_reply}
use Rattle.stage_proc.proofs.processor.Processor.pass_reply.Goals as goal

pub pass_on-requires : goal.pass_on-requires
pass_on-requires c = (message c.args.message, c.requires.came.2)

pub returns-in-Ok-clause-taken : goal.returns-in-Ok-clause-taken
returns-in-Ok-clause-taken c = λ user.
    let reply : is_reply c.args.message ≡ true = search rules in
    took_reply user c.args.self.now.at _ c.args.self.now.got c.args.none.now c.args.self.now.left c.pass_on.new.out c.args.self.now.right c.args.frame c.args.message c.requires.waits c.requires.nothing c.requires.came reply refl c.in-Ok.ensures.ok

pub returns-then-not-may_come-clause-unlawful : goal.returns-then-not-may_come-clause-unlawful
returns-then-not-may_come-clause-unlawful c = λ user wrong.
    let other : is_reply c.args.message ≡ false = search rules in
    no_reply user c.args.self.now.at c.args.self.now.got c.args.none.now c.args.self.now.left c.args.self.now.right c.args.frame c.args.message c.requires.waits c.requires.nothing c.requires.came other
