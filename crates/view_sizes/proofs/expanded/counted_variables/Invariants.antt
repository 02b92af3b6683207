use Rattle.std.proofs.Common.{◌≡◌, ◌-◌, ◌^◌, ◌≤◌, ◌||◌, min, take, Some}
use Rattle.calculus.specs.Assignments.{is_changed}
use Rattle.calculus.specs.Database.{Db}
use Rattle.calculus.specs.Lists.{is_any}
use Rattle.calculus.specs.Sizes.{measure_within}
use Rattle.calculus.specs.Used.{used_in_query}
use Rattle.view_sizes.specs.Remembered.{AreMeasured}
use Rattle.view_sizes.proofs.Counting.{counted}
use Rattle.view_sizes.proofs.expanded.counted_variables.Given as goal

abbrev pub invariant-loop-key : goal.invariant-loop-key
invariant-loop-key g l = record {
  place : l.place ≡ min l.key-index 255;
  known : (db : Db) → g.B.Base.schema l.initial.base ≡ Some db → AreMeasured db l.initial.found.entries → l.key-index ≤ 256
      → l.count ≡ min (counted (λ v. is_any (used_in_query v l.u.query) || is_changed l.u v) (λ key. (measure_within 16 db key).variables) 0 (take l.key-index l.key-items)) (2 ^ 64 - 1);
  found : (db : Db) → g.B.Base.schema l.initial.base ≡ Some db → AreMeasured db l.initial.found.entries → AreMeasured db l.found.entries;
  kept : g.B.Base.database l.base ≡ g.B.Base.database l.initial.base;
  stays : (s : Db) → g.B.Base.schema l.initial.base ≡ Some s → g.B.Base.schema l.base ≡ Some s;
  asked : (b : _) → g.B.Base.asked b l.initial.base → g.B.Base.asked b l.base;
  faults : g.B.Base.faults l.base ≡ g.B.Base.faults l.initial.base;
}
