use Rattle.std.proofs.Common.{◌≡◌, ◌≤◌, ◌*◌, take, sum_by}
use Rattle.calculus.specs.IsDatabase.{kind_bytes}
use Rattle.quel_refusals.proofs.widths.row_bytes.Given as goal

abbrev pub invariant-loop-kind : goal.invariant-loop-kind
invariant-loop-kind l = record { bytes : l.bytes ≡ sum_by kind_bytes (take l.kind-index l.kinds); few : l.bytes ≤ 255 * l.kind-index }
