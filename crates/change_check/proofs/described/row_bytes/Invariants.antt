use Rattle.std.proofs.Common.{◌≡◌, ◌≤◌, ◌*◌, take, sum_by}
use Rattle.calculus.specs.IsDatabase.{kind_bytes}
use Rattle.change_check.proofs.described.row_bytes.Given as goal

abbrev pub invariant-loop-attr : goal.invariant-loop-attr
invariant-loop-attr l = record { bytes : l.bytes ≡ sum_by (λ a. kind_bytes a.kind) (take l.attr-index l.attrs); few : l.bytes ≤ 255 * l.attr-index }
