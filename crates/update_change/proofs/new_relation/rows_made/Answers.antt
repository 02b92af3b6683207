use Rattle.std.proofs.Common.{[]}
use Rattle.update_change.proofs.new_relation.rows_made.Goals as goal

pub returns-in-Err-clause-cause : goal.returns-in-Err-clause-cause
returns-in-Err-clause-cause c = c.in-Err.ensures.cause []
