use Rattle.std.proofs.Common.{◌≡◌, [], filter}
use Rattle.copy_util.specs.Rules.{keeps_all}
use Rattle.copy_util.proofs.rule_keeping.kept_rows.Given as goal

abbrev pub invariant-loop-row : goal.invariant-loop-row
invariant-loop-row l = record {
  none : l.at ≡ [];
  so_far : l.kept.items ≡ filter (keeps_all l.rules) l.yielded;
}
