use Rattle.std.proofs.Common.{ap, ◌++◌}
use Rattle.network_meaning.specs.Frames.{payloads}
use Rattle.stage_proc.specs.declared.at.At.TheVariants as at
use Rattle.stage_proc.proofs.Holding.{held_by}
use Rattle.stage_proc.proofs.Taken.{took_tree}
use Rattle.stage_proc.proofs.processor.Processor.hold.Goals as goal

pub of-requires : goal.of-requires
of-requires c = held_by c.args.tree c.args.frame.kind (payloads c.args.self.now.got ++ c.args.frame.payload) c.in-Ok.message.bytes c.requires.came.2 c.in-Ok.ensures.bytes

pub returns-in-Ok-clause-taken : goal.returns-in-Ok-clause-taken
returns-in-Ok-clause-taken c = λ user.
    took_tree user c.args.self.now.at _ c.args.self.now.got c.clear.new.self c.args.self.now.left c.args.self.now.right c.args.frame c.args.tree c.requires.waits c.requires.came (ap at.Working c.of.ensures) c.clear.ensures
