use Rattle.std.proofs.Common.{◌≡◌, map, take}
use Rattle.quel_meaning.specs.Tables.{column_of}
use Rattle.stage_proc.proofs.columns.columns_of.Given as goal

abbrev pub invariant-loop-target : goal.invariant-loop-target
invariant-loop-target l = l.columns.items ≡ map column_of (take l.target-index l.targets)
