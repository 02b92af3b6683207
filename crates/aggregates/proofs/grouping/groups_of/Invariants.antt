use Rattle.std.proofs.Common.{◌≡◌, ◌++◌, length}
use Rattle.aggregates.specs.Runs.{groups_of}
use Rattle.aggregates.proofs.grouping.groups_of.Given as goal

abbrev pub invariant-runs : goal.invariant-runs
invariant-runs l = l.groups.items ++ groups_of l.op l.none l.rest ≡ groups_of l.op l.none l.members

abbrev pub decreases-runs : goal.decreases-runs
decreases-runs l = length l.rest
