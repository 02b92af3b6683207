use Rattle.page_chain.proofs.Took.{row_went}
use Rattle.page_chain.proofs.taking.take_row.Goals as goal

pub returns-in-Some-clause-took : goal.returns-in-Some-clause-took
returns-in-Some-clause-took c n = row_went n c.args.page.now c.clear_row.new.p c.in-Some.line c.args.row.now c.in-Some.ensures.found c.clear_row.ensures.slots
