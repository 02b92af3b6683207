use Rattle.std.proofs.Common.{length}
use Rattle.net_tests.proofs.third.framed.Given as goal

abbrev pub decreases-frames : goal.decreases-frames
decreases-frames g l = length l.frames
