use Rattle.std.proofs.Common.{length}
use Rattle.stage_proc.proofs.suiting.+values_stand.Given as goal

abbrev pub decreases-values_stand : goal.decreases-values_stand
decreases-values_stand l = length l.columns.now
