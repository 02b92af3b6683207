use Rattle.std.proofs.Common.{◌≡◌, ◌++◌, map, length}
use Rattle.quel_meaning.specs.Monitor.{parts_of}
use Rattle.monitor.specs.Seen.{seen_part}
use Rattle.monitor.proofs.line.parts_of.Given as goal

abbrev pub invariant-loop-rest : goal.invariant-loop-rest
invariant-loop-rest l = map seen_part l.parts.items ++ parts_of l.rest ≡ parts_of l.line

abbrev pub decreases-loop-rest : goal.decreases-loop-rest
decreases-loop-rest l = length l.rest
