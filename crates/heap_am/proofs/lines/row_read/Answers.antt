use Rattle.heap_am.proofs.Faults.{reader_by}
use Rattle.heap_am.proofs.Outcomes.{both_ok}
use Rattle.heap_am.proofs.lines.row_read.Goals as goal

pub returns : goal.returns
returns c = both_ok c.row_of.result c.row_of.ensures.spelled c.row_of.ensures.only (λ o s only. reader_by c.args.bytes.now c.args.domains.now o s only)
