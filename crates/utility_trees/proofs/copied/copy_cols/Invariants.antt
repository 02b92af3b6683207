use Rattle.std.proofs.Common.{◌≡◌, ◌≤◌, Some, length, map, take}
use Rattle.quel_meaning.specs.Resolved.{copy_col}
use Rattle.utility_trees.proofs.copied.copy_cols.Given as goal

abbrev pub invariant-loop-name : goal.invariant-loop-name
invariant-loop-name l = length l.info.attrs ≤ 256 → l.cols.items ≡ map (copy_col (Some l.info)) (take l.name-index l.columns)
