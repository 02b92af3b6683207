use Rattle.std.proofs.Common.{◌≡◌, map, take, vec_items, Some}
use Rattle.calculus.specs.Database.{Db}
use Rattle.calculus.specs.Stored.{kinds_at}
use Rattle.quel_refusals.proofs.kinds.var_kinds.Given as goal

abbrev pub invariant-loop-key : goal.invariant-loop-key
invariant-loop-key g l = record {
  known : (db : Db) → g.B.Base.schema l.initial.base ≡ Some db → map vec_items l.kinds.items ≡ map (kinds_at db) (take l.key-index l.vars);
  kept : g.B.Base.database l.base ≡ g.B.Base.database l.initial.base;
  stays : (s : Db) → g.B.Base.schema l.initial.base ≡ Some s → g.B.Base.schema l.base ≡ Some s;
  asked : (b : _) → g.B.Base.asked b l.initial.base → g.B.Base.asked b l.base;
  faults : g.B.Base.faults l.base ≡ g.B.Base.faults l.initial.base;
}
