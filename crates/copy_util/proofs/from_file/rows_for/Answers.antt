use Rattle.copy_util.proofs.Known.{not_of_base}
use Rattle.copy_util.proofs.from_file.rows_for.Goals as goal

pub returns-then-are_readable-clause-cause : goal.returns-then-are_readable-clause-cause
returns-then-are_readable-clause-cause g c = record {
  later = c.in_ok-kinds.ensures.cause.later;
  caused = not_of_base (g.B.Base.database c.args.base.now) _ _ c.rows_in_file.result c.in_ok-kinds.ensures.cause.caused c.rows_in_file.ensures.cause.base;
  shelf = c.rows_in_file.ensures.cause.shelf;
  file = c.rows_in_file.ensures.cause.file;
}
