use Rattle.std.proofs.Common.{◌≡◌, length}
use Rattle.quel_meaning.specs.Monitor.{stripped_at_end}
use Rattle.monitor.proofs.command.stripped_at_end.Given as goal

abbrev pub invariant-loop-last : goal.invariant-loop-last
invariant-loop-last l = stripped_at_end l.rest ≡ stripped_at_end l.bytes

abbrev pub decreases-loop-last : goal.decreases-loop-last
decreases-loop-last l = length l.rest
