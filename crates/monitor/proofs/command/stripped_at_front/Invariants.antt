use Rattle.std.proofs.Common.{◌≡◌, length}
use Rattle.quel_meaning.specs.Monitor.{stripped_at_front}
use Rattle.monitor.proofs.command.stripped_at_front.Given as goal

abbrev pub invariant-loop-first : goal.invariant-loop-first
invariant-loop-first l = stripped_at_front l.rest ≡ stripped_at_front l.bytes

abbrev pub decreases-loop-first : goal.decreases-loop-first
decreases-loop-first l = length l.rest
