use Rattle.std.proofs.Common.{◌≡◌, take, true, Some}
use Rattle.std.specs.List.{list_all}
use Rattle.calculus.specs.Database.{Db, is_there}
use Rattle.change_check.proofs.destroying.are_there.Given as goal

abbrev pub invariant-loop-key : goal.invariant-loop-key
invariant-loop-key g l = record {
  known : (db : Db) → g.B.Base.schema l.initial.base ≡ Some db → list_all (is_there db) (take l.key-index l.rels) ≡ true;
  kept : g.B.Base.database l.base ≡ g.B.Base.database l.initial.base;
  stays : (s : Db) → g.B.Base.schema l.initial.base ≡ Some s → g.B.Base.schema l.base ≡ Some s;
  asked : (b : _) → g.B.Base.asked b l.initial.base → g.B.Base.asked b l.base;
  faults : g.B.Base.faults l.base ≡ g.B.Base.faults l.initial.base;
}
