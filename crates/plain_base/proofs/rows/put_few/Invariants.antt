use Rattle.std.proofs.Common.{◌≡◌, ◌≤◌, ◌+◌}
use Rattle.std.specs.Vec.{vec_len, vec_capacity}
use Rattle.calculus.specs.Replacement.{with_rows}
use Rattle.calculus.specs.Rows.{Ascends}
use Rattle.plain_base.proofs.rows.put_few.Given as goal

abbrev pub invariant-loop-row : goal.invariant-loop-row
invariant-loop-row l = record {
  rows : with_rows l.new.items l.rows.items ≡ with_rows l.fn.new.items l.fn.rows.items;
  ascend : Ascends l.rows.items;
  room : vec_len l.rows + vec_len l.new ≤ vec_capacity l.rows;
}

abbrev pub decreases-loop-row : goal.decreases-loop-row
decreases-loop-row l = goal.left-loop-row l
