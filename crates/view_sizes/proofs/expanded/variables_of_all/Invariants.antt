use Rattle.std.proofs.Common.{◌≡◌, ◌-◌, ◌^◌, min, sum_by, take, true, Some}
use Rattle.std.specs.List.{list_all}
use Rattle.calculus.specs.Database.{Db}
use Rattle.calculus.specs.Sizes.{measure_within, source_variables}
use Rattle.view_sizes.specs.Listing.{source_lists_few}
use Rattle.view_sizes.specs.Remembered.{AreMeasured}
use Rattle.view_sizes.proofs.expanded.variables_of_all.Given as goal

abbrev pub invariant-loop-aggregate : goal.invariant-loop-aggregate
invariant-loop-aggregate g l = record {
  known : (db : Db) → g.B.Base.schema l.initial.base ≡ Some db → AreMeasured db l.initial.found.entries → list_all (λ g. source_lists_few g.now.source) l.aggregates ≡ true
      → l.count ≡ min (sum_by (λ g. source_variables (measure_within 16 db) g.now.source) (take l.aggregate-index l.aggregates)) (2 ^ 64 - 1);
  found : (db : Db) → g.B.Base.schema l.initial.base ≡ Some db → AreMeasured db l.initial.found.entries → AreMeasured db l.found.entries;
  kept : g.B.Base.database l.base ≡ g.B.Base.database l.initial.base;
  stays : (s : Db) → g.B.Base.schema l.initial.base ≡ Some s → g.B.Base.schema l.base ≡ Some s;
  asked : (b : _) → g.B.Base.asked b l.initial.base → g.B.Base.asked b l.base;
  faults : g.B.Base.faults l.base ≡ g.B.Base.faults l.initial.base;
}
