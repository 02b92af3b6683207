use Rattle.std.proofs.Common.{◌≡◌}
use Rattle.calculus.specs.Number.{repeated}
use Rattle.scalar_eval.proofs.number.growing_power.Given as goal

abbrev pub invariant-loop-step : goal.invariant-loop-step
invariant-loop-step l = l.power ≡ repeated l.base l._step
