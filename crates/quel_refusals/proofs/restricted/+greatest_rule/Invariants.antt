use Rattle.std.proofs.Common.{length}
use Rattle.quel_refusals.proofs.restricted.+greatest_rule.Given as goal

abbrev pub decreases-greatest_rule : goal.decreases-greatest_rule
decreases-greatest_rule l = length l.rules.now
