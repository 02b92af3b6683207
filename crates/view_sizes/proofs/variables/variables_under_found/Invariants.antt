use Rattle.std.proofs.Common.{◌≡◌, ◌-◌, ◌^◌, min, sum_by, take, Some}
use Rattle.calculus.specs.Database.{Db}
use Rattle.calculus.specs.Sizes.{measure_within}
use Rattle.view_sizes.specs.Remembered.{AreMeasured}
use Rattle.view_sizes.proofs.variables.variables_under_found.Given as goal

abbrev pub invariant-loop-key : goal.invariant-loop-key
invariant-loop-key g l = record {
  known : (db : Db) → g.B.Base.schema l.initial.base ≡ Some db → AreMeasured db l.initial.found.entries
      → l.count ≡ min (sum_by (λ key. (measure_within 16 db key).variables) (take l.key-index l.vars)) (2 ^ 64 - 1);
  found : (db : Db) → g.B.Base.schema l.initial.base ≡ Some db → AreMeasured db l.initial.found.entries → AreMeasured db l.found.entries;
  kept : g.B.Base.database l.base ≡ g.B.Base.database l.initial.base;
  stays : (s : Db) → g.B.Base.schema l.initial.base ≡ Some s → g.B.Base.schema l.base ≡ Some s;
  asked : (b : _) → g.B.Base.asked b l.initial.base → g.B.Base.asked b l.base;
  faults : g.B.Base.faults l.base ≡ g.B.Base.faults l.initial.base;
}
