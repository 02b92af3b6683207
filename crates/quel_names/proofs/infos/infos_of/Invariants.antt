use Rattle.std.proofs.Common.{◌≡◌, Some, List, map, take, ℕ}
use Rattle.calculus.specs.Database.{Db}
use Rattle.quel_meaning.specs.Scope.{ranged}
use Rattle.quel_names.specs.Asking.{scope_of}
use Rattle.quel_names.proofs.infos.infos_of.Given as goal

abbrev pub invariant-loop-var : goal.invariant-loop-var
invariant-loop-var g l = record {
  known : (db : Db) (user : List ℕ) → g.B.Base.schema l.fn.base ≡ Some db → map (ranged (scope_of db user l.ranges)) (take l.var-index l.vars) ≡ map Some l.infos.items;
  kept : g.B.Base.database l.base ≡ g.B.Base.database l.fn.base;
  stays : (s : Db) → g.B.Base.schema l.fn.base ≡ Some s → g.B.Base.schema l.base ≡ Some s;
  asked : (b : _) → g.B.Base.asked b l.fn.base → g.B.Base.asked b l.base;
  faults : g.B.Base.faults l.base ≡ g.B.Base.faults l.fn.base;
}
