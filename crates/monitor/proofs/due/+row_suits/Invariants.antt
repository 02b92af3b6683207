use Rattle.std.proofs.Common.{length}
use Rattle.monitor.proofs.due.+row_suits.Given as goal

abbrev pub decreases-row_suits : goal.decreases-row_suits
decreases-row_suits l = length l.columns.now
