use Rattle.stage_proc.proofs.Taken.{takes_somewhere}
use Rattle.stage_proc.specs.Standing.{standing}
use Rattle.stage_proc.proofs.processor.ProcessorStage.take.Goals as goal

pub unreachable-requires : goal.unreachable-requires
unreachable-requires c =
    takes_somewhere c.want.result (standing c.args.self.now.at c.args.self.now.got c.args.self.now.left c.args.self.now.right) c.in_default.not-TakeLeft c.in_default.not-TakeRight c.want.ensures c.requires
