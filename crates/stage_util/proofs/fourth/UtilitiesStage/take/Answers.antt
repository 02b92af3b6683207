use Rattle.message_codec.specs.declared.gathered.Came.TheVariants as came
use Rattle.stage_util.proofs.Takings.{came_as, held_spelled, not_lawful, not_whole, taken_whole}
use Rattle.stage_util.proofs.fourth.UtilitiesStage.take.Goals as goal

pub returns-in-Some-clause-taken : goal.returns-in-Some-clause-taken
returns-in-Some-clause-taken c = λ user served.
    taken_whole user c.args.self.now.at c.in-Some.at c.args.self.now.got c.clear.new.self c.args.self.now.out c.args.frame c.in-Whole.told c.requires
    (came_as c.args.self.now.got c.args.frame c.in_ok-read.field-0 (came.Whole c.in-Whole.told) c.in_ok-read.ensures c.in-Whole.is) c.in-Some.ensures c.clear.ensures

pub returns-in-Some-clause-serves : goal.returns-in-Some-clause-serves
returns-in-Some-clause-serves c = λ user served. (
  served.0,
  held_spelled user c.in-Whole.told c.in-Some.at _ _ (came_as c.args.self.now.got c.args.frame c.in_ok-read.field-0 (came.Whole c.in-Whole.told) c.in_ok-read.ensures c.in-Whole.is).2 c.in-Some.ensures,
)

pub returns-in-Whole-clause-unlawful : goal.returns-in-Whole-clause-unlawful
returns-in-Whole-clause-unlawful c = λ user served wrong.
    not_whole user c.args.self.now.at c.args.self.now.got c.args.self.now.out c.args.frame c.in-Whole.told c.requires
    (came_as c.args.self.now.got c.args.frame c.in_ok-read.field-0 (came.Whole c.in-Whole.told) c.in_ok-read.ensures c.in-Whole.is) c.in-None.ensures

pub returns-clause-unlawful : goal.returns-clause-unlawful
returns-clause-unlawful c = λ user served wrong.
    not_lawful user c.args.self.now.at c.args.self.now.got c.args.self.now.out c.args.frame c.requires
    (came_as c.args.self.now.got c.args.frame c.in_ok-read.field-0 came.Unlawful c.in_ok-read.ensures c.in-Unlawful.is)
