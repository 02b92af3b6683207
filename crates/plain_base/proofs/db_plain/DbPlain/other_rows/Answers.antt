use Rattle.std.proofs.Common.{sym}
use Rattle.plain_base.proofs.RowsAt.{rows_of_view}
use Rattle.plain_base.proofs.db_plain.DbPlain.other_rows.Goals as goal

pub returns-in-Some : goal.returns-in-Some
returns-in-Some c n = sym (rows_of_view _ _ _ n c.in-Some.ensures)
