use Rattle.std.proofs.Common.{◌≡◌, take, true, Some, is_some}
use Rattle.std.specs.List.{list_all}
use Rattle.calculus.specs.Database.{Db}
use Rattle.calculus.specs.Stored.{range_at}
use Rattle.view_sizes.proofs.ranges.are_ranges.Given as goal

abbrev pub invariant-loop-key : goal.invariant-loop-key
invariant-loop-key g l = record {
  known : (db : Db) → g.B.Base.schema l.initial.base ≡ Some db → list_all (λ key. is_some (range_at db key)) (take l.key-index l.vars) ≡ true;
  kept : g.B.Base.database l.base ≡ g.B.Base.database l.initial.base;
  stays : (s : Db) → g.B.Base.schema l.initial.base ≡ Some s → g.B.Base.schema l.base ≡ Some s;
  asked : (b : _) → g.B.Base.asked b l.initial.base → g.B.Base.asked b l.base;
  faults : g.B.Base.faults l.base ≡ g.B.Base.faults l.initial.base;
}
