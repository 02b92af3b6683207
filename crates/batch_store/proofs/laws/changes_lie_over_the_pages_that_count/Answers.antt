use Rattle.batch_store.proofs.Stands.{laid_alike, laid_kept}
use Rattle.batch_store.proofs.laws.changes_lie_over_the_pages_that_count.Goals as goal

pub returns-clause-alike : goal.returns-clause-alike
returns-clause-alike c = laid_alike

pub returns-clause-over : goal.returns-clause-over
returns-clause-over c = laid_kept
