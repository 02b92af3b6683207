use Rattle.std.proofs.Common.{length}
use Rattle.net_tests.proofs.messages.is_joined.Given as goal

abbrev pub decreases-frames : goal.decreases-frames
decreases-frames g l = length l.frames
