use Rattle.std.proofs.Common.{◌≡◌, take, true, Some}
use Rattle.std.specs.List.{list_all}
use Rattle.calculus.specs.Database.{Db}
use Rattle.quel_meaning.specs.FitQueries.{asked_fits, kept_alone}
use Rattle.tree_check.proofs.asking.all_asked_fit.Given as goal

abbrev pub invariant-loop-one : goal.invariant-loop-one
invariant-loop-one g l = record {
  known : (db : Db) → g.B.Base.schema l.initial.base ≡ Some db → list_all (asked_fits (kept_alone db) db) (take l.one-index l.asked) ≡ true;
  kept : g.B.Base.database l.base ≡ g.B.Base.database l.initial.base;
  stays : (s : Db) → g.B.Base.schema l.initial.base ≡ Some s → g.B.Base.schema l.base ≡ Some s;
  asked : (b : _) → g.B.Base.asked b l.initial.base → g.B.Base.asked b l.base;
  faults : g.B.Base.faults l.base ≡ g.B.Base.faults l.initial.base;
}
