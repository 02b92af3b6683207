use Rattle.std.proofs.Common.{length}
use Rattle.view_expand.proofs.plain.+are_few.Given as goal

abbrev pub decreases-are_few : goal.decreases-are_few
decreases-are_few l = length l.expansions.now
