use Rattle.std.proofs.Common.{◌≡◌, Some, filter}
use Rattle.calculus.specs.Database.{Db}
use Rattle.calculus.specs.Rows.{has}
use Rattle.calculus.specs.Stored.{rows_at}
use Rattle.update_change.proofs.present.rows_present.Given as goal

abbrev pub invariant-loop-row : goal.invariant-loop-row
invariant-loop-row g l = record {
  kept : g.B.Base.database l.base ≡ g.B.Base.database l.fn.base;
  stays : (s : Db) → g.B.Base.schema l.fn.base ≡ Some s → g.B.Base.schema l.base ≡ Some s;
  asked : (b : _) → g.B.Base.asked b l.fn.base → g.B.Base.asked b l.base;
  faults : g.B.Base.faults l.base ≡ g.B.Base.faults l.fn.base;
  so_far : (db : Db) → g.B.Base.database l.fn.base ≡ Some db → l.there.items ≡ filter (has (rows_at db l.key)) l.yielded;
}
