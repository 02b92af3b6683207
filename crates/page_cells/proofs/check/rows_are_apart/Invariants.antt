use Rattle.page_cells.specs.Marks.{Marks}
use Rattle.page_cells.proofs.check.rows_are_apart.Given as goal

abbrev pub invariant-lines : goal.invariant-lines
invariant-lines l = Marks l.page l.line l.flags
