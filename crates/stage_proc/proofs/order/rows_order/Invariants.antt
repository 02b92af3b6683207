use Rattle.std.proofs.Common.{◌≡◌, drop}
use Rattle.quel_meaning.specs.Tables.{rows_order}
use Rattle.stage_proc.proofs.order.rows_order.Given as goal

abbrev pub invariant-loop-key : goal.invariant-loop-key
invariant-loop-key l = rows_order l.keys l.left l.right ≡ rows_order (drop l.key-index l.keys) l.left l.right
