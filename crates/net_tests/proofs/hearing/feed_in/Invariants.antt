use Rattle.std.proofs.Common.{◌+◌, ◌≤◌, length}
use Rattle.net_tests.proofs.hearing.feed_in.Given as goal

abbrev pub invariant-pieces : goal.invariant-pieces
invariant-pieces l = l.reader.place + length l.reader.left + length l.rest ≤ length l.stream

abbrev pub decreases-pieces : goal.decreases-pieces
decreases-pieces l = length l.rest
