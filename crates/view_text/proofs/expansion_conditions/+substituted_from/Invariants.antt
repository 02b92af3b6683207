use Rattle.std.proofs.Common.{length}
use Rattle.view_text.proofs.expansion_conditions.+substituted_from.Given as goal

abbrev pub decreases-substituted_from : goal.decreases-substituted_from
decreases-substituted_from l = length l.expansions.now
