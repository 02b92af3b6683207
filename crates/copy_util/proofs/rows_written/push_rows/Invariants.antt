use Rattle.std.proofs.Common.{◌≡◌, ◌+◌, drop}
use Rattle.quel_meaning.specs.Copying.{file_of_rows}
use Rattle.copy_util.specs.Writing.{bytes_before, file_from}
use Rattle.copy_util.proofs.rows_written.push_rows.Given as goal

abbrev pub invariant-loop-i : goal.invariant-loop-i
invariant-loop-i l = file_of_rows l.columns l.rows ≡ bytes_before l.out.items (file_from (l.i + 1) l.columns (drop l.i l.rows))
