use Rattle.std.proofs.Common.{length}
use Rattle.view_sizes.proofs.sizes.+sum_of.Given as goal

abbrev pub decreases-sum_of : goal.decreases-sum_of
decreases-sum_of l = length l.sizes.now
