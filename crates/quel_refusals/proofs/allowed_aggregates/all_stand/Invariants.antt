use Rattle.std.proofs.Common.{◌≡◌, map, take, true, Some}
use Rattle.calculus.specs.Database.{Db}
use Rattle.std.specs.List.{list_all}
use Rattle.quel_check.specs.Known.{front}
use Rattle.quel_meaning.specs.Aggregates.{aggregate_allowed}
use Rattle.quel_meaning.specs.Scope.{Scope}
use Rattle.quel_meaning.specs.WrittenParts.{aggregate_vars}
use Rattle.quel_names.specs.Ranging.{each_ranges}
use Rattle.quel_refusals.proofs.allowed_aggregates.all_stand.Given as goal

abbrev pub invariant-loop-aggregate : goal.invariant-loop-aggregate
invariant-loop-aggregate g l = record {
  known : (s : Scope) → g.B.Base.schema l.initial.base ≡ Some s.db → s.ranges ≡ l.ranges → list_all (λ a. each_ranges s (front (aggregate_vars a))) (map (λ a. a.now) l.aggregates) ≡ true → list_all (λ a. aggregate_allowed s a.now) (take l.aggregate-index l.aggregates) ≡ true;
  kept : g.B.Base.database l.base ≡ g.B.Base.database l.initial.base;
  stays : (s : Db) → g.B.Base.schema l.initial.base ≡ Some s → g.B.Base.schema l.base ≡ Some s;
  asked : (b : _) → g.B.Base.asked b l.initial.base → g.B.Base.asked b l.base;
  faults : g.B.Base.faults l.base ≡ g.B.Base.faults l.initial.base;
}
