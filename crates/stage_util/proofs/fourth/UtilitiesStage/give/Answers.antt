use Rattle.stage_util.proofs.Takings.{some_to_give}
use Rattle.stage_util.proofs.fourth.UtilitiesStage.give.Goals as goal

pub give-requires : goal.give-requires
give-requires c = some_to_give c.args.self.now.at c.args.self.now.got c.args.self.now.out c.requires
