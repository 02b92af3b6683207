use Rattle.std.proofs.Common.{◌≡◌, drop, false}
use Rattle.scalar_eval.specs.Walk.{close_from}
use Rattle.scalar_eval.proofs.class.close_of.Given as goal

abbrev pub invariant-loop-at : goal.invariant-loop-at
invariant-loop-at l = close_from l.at l.escaped (drop l.at l.behind) ≡ close_from 0 false l.behind
