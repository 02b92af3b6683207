use Rattle.page_cells.proofs.Marking.{none_set}
use Rattle.page_cells.proofs.check.no_flags.Goals as goal

pub returns : goal.returns
returns c i = none_set 1024 i
