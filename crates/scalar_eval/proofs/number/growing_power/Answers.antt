use Rattle.std.proofs.Common.{w64, ◌∙◌, rules}
use Rattle.std.proofs.lemmas.Int.{to_z-of_z}
use Rattle.scalar_eval.proofs.Powers.{left_at_step, next_power}
use Rattle.scalar_eval.proofs.number.growing_power.Goals as goal

pub returns-in-None : goal.returns-in-None
returns-in-None c =
    left_at_step c.args.base _ _ c.loop-step._step c.args.exponent (to_z-of_z w64 c.args.base c.ranges.base) c.requires c.loop-step-test.true c.loop-step.invariant c.in-None.ensures

pub loop-step-preserved : goal.loop-step-preserved
loop-step-preserved c = to_z-of_z w64 c.in-Some.next (search rules) ∙ next_power _ _ _ c.loop-step._step c.loop-step.invariant c.in-Some.ensures
