use Rattle.std.proofs.Common.{length}
use Rattle.tree_check.proofs.queries.+targets_compare.Given as goal

abbrev pub decreases-targets_compare : goal.decreases-targets_compare
decreases-targets_compare g l = length l.targets.now
