use Rattle.std.proofs.Common.{◌≡◌, ◌++◌, Some, length}
use Rattle.calculus.specs.Database.{Db}
use Rattle.base_trait.specs.Scans.{first_place}
use Rattle.ovqp.proofs.scanned.put_scanned.Given as goal

abbrev pub invariant-loop-call : goal.invariant-loop-call
invariant-loop-call g l = record {
  kept : g.B.Base.database l.base ≡ g.B.Base.database l.fn.base;
  stays : (s : Db) → g.B.Base.schema l.fn.base ≡ Some s → g.B.Base.schema l.base ≡ Some s;
  same : g.B.Base.left l.base ≡ g.B.Base.left l.fn.base;
  asked : (b : _) → g.B.Base.asked b l.fn.base → g.B.Base.asked b l.base;
  faults : g.B.Base.faults l.base ≡ g.B.Base.faults l.fn.base;
  counted : length l.rows.items ≡ l.call;
  so_far : (db : Db) → g.B.Base.database l.fn.base ≡ Some db → l.rows.items ++ g.B.Base.left l.fn.base l.key l.at ≡ g.B.Base.left l.fn.base l.key first_place;
}
