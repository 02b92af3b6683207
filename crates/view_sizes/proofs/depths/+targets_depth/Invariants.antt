use Rattle.std.proofs.Common.{length}
use Rattle.view_sizes.proofs.depths.+targets_depth.Given as goal

abbrev pub decreases-targets_depth : goal.decreases-targets_depth
decreases-targets_depth l = length l.targets.now
