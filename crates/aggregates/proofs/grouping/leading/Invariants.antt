use Rattle.std.proofs.Common.{◌≡◌, ◌+◌, drop}
use Rattle.aggregates.specs.Runs.{leading}
use Rattle.aggregates.proofs.grouping.leading.Given as goal

abbrev pub invariant-loop-member : goal.invariant-loop-member
invariant-loop-member l = record {
  counted : l.many ≡ l.member-index;
  so_far : leading l.by l.members ≡ l.many + leading l.by (drop l.member-index l.members);
}
