use Rattle.std.proofs.Common.{◌≤◌, drop, length}
use Rattle.disk_model.specs.Walks.{IsQuiet}
use Rattle.disk_model.proofs.calls.synced.Given as goal

abbrev pub invariant-loop-n : goal.invariant-loop-n
invariant-loop-n l = record { size : l.n ≤ length l.calls; quiet : IsQuiet (drop l.n l.calls) }

abbrev pub decreases-loop-n : goal.decreases-loop-n
decreases-loop-n l = l.n
