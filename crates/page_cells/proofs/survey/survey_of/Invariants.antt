use Rattle.std.proofs.Common.{◌≡◌, ◌*◌, ◌≤◌, is_none, position, sum_by}
use Rattle.page_cells.specs.Page.{slots_before, row_length}
use Rattle.page_cells.proofs.survey.survey_of.Given as goal

abbrev pub invariant-lines : goal.invariant-lines
invariant-lines l = record {
  empty : l.empty ≡ position is_none (slots_before l.page l.line);
  used : l.used ≡ sum_by row_length (slots_before l.page l.line);
  bound : l.used ≤ 1024 * l.line;
}
