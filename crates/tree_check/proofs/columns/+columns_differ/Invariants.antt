use Rattle.std.proofs.Common.{length}
use Rattle.tree_check.proofs.columns.+columns_differ.Given as goal

abbrev pub decreases-columns_differ : goal.decreases-columns_differ
decreases-columns_differ l = length l.columns.now
