use Rattle.std.proofs.Common.{◌≡◌, ◌++◌}
use Rattle.calculus.specs.Rows.{Row}
use Rattle.quel_meaning.proofs.Each.{Each}
use Rattle.quel_tree.specs.Values.{row as row_codec}
use Rattle.stage_proc.specs.Sending.{rows_frames}
use Rattle.stage_proc.proofs.sending.put_rows.Given as goal

abbrev pub invariant-rows : goal.invariant-rows
invariant-rows l = record {
  fit : Each (λ (r : Row). row_codec.Fits r) l.row-iterator.rest.items;
  sent : l.out ++ rows_frames l.row-iterator.rest.items ≡ l.fn.out ++ rows_frames l.fn.rows;
}
