use Rattle.std.proofs.Common.{◌≡◌, length, map, take, Some}
use Rattle.calculus.specs.Database.{Db}
use Rattle.aggregates.specs.Settled.{AllAscend, AllStand}
use Rattle.aggregates.proofs.settling.tables_of.Given as goal

abbrev pub invariant-loop-agg : goal.invariant-loop-agg
invariant-loop-agg g l = record {
  many : length l.tables.items ≡ l.agg-index;
  ascend : AllAscend l.tables.items;
  known : (db : Db) → g.B.Base.database l.initial.base ≡ Some db → AllStand db l.tables.items (map (λ g. g.now) (take l.agg-index l.aggs));
  kept : g.B.Base.database l.base ≡ g.B.Base.database l.initial.base;
  stays : (s : Db) → g.B.Base.schema l.initial.base ≡ Some s → g.B.Base.schema l.base ≡ Some s;
  asked : (b : _) → g.B.Base.asked b l.initial.base → g.B.Base.asked b l.base;
  faults : g.B.Base.faults l.base ≡ g.B.Base.faults l.initial.base;
}
