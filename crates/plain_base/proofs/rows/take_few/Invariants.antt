use Rattle.std.proofs.Common.{◌≡◌, ◌≤◌, take}
use Rattle.std.specs.Vec.{vec_len, vec_capacity}
use Rattle.calculus.specs.Replacement.{without_rows}
use Rattle.plain_base.proofs.rows.take_few.Given as goal

abbrev pub invariant-loop-row : goal.invariant-loop-row
invariant-loop-row l = record {
  rows : l.rows.items ≡ without_rows (take l.row-index l.gone) l.fn.rows.items;
  room : vec_capacity l.rows ≡ vec_capacity l.fn.rows;
  fewer : vec_len l.rows ≤ vec_len l.fn.rows;
}
