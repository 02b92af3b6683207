use Rattle.std.proofs.Common.{◌≡◌, drop, false}
use Rattle.scalar_eval.specs.Walk.{kept_from}
use Rattle.scalar_eval.proofs.pattern.unpadded_length.Given as goal

abbrev pub invariant-loop-at : goal.invariant-loop-at
invariant-loop-at l = kept_from l.at l.kept l.escaped (drop l.at l.pattern) ≡ kept_from 0 0 false l.pattern
