use Rattle.std.proofs.Common.{◌≡◌, ◌+◌, ◌≤◌, length}
use Rattle.quel_meaning.specs.Copying.{rows_in_file}
use Rattle.copy_util.specs.Reading.{rows_before}
use Rattle.copy_util.proofs.rows_read.read_rows.Given as goal

abbrev pub invariant-records : goal.invariant-records
invariant-records l = record {
  so_far : rows_in_file l.kinds l.columns l.bytes ≡ rows_before l.rows.items (rows_in_file l.kinds l.columns l.rest);
  short : length l.rows.items + length l.rest ≤ length l.bytes;
}

abbrev pub decreases-records : goal.decreases-records
decreases-records l = length l.rest
