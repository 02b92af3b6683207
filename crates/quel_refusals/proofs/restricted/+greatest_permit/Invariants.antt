use Rattle.std.proofs.Common.{length}
use Rattle.quel_refusals.proofs.restricted.+greatest_permit.Given as goal

abbrev pub decreases-greatest_permit : goal.decreases-greatest_permit
decreases-greatest_permit l = length l.permits.now
