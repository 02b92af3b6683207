use Rattle.std.proofs.Common.{◌≡◌, take}
use Rattle.aggregates.specs.Members.{members}
use Rattle.aggregates.proofs.members.members.Given as goal

abbrev pub invariant-loop-row : goal.invariant-loop-row
invariant-loop-row l = l.members.items ≡ members l.agg (take l.row-index l.rows)
