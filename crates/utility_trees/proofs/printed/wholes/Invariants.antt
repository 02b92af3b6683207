use Rattle.std.proofs.Common.{◌≡◌, Some, map, take}
use Rattle.calculus.specs.Database.{Db}
use Rattle.calculus.specs.Finding.{found}
use Rattle.quel_meaning.specs.Resolved.{whole}
use Rattle.utility_trees.proofs.printed.wholes.Given as goal

abbrev pub invariant-loop-name : goal.invariant-loop-name
invariant-loop-name g l = record {
  known : (db : Db) → g.B.Base.schema l.initial.base ≡ Some db → l.asked.items ≡ map (λ name. whole (found db l.user name)) (take l.name-index l.names);
  kept : g.B.Base.database l.base ≡ g.B.Base.database l.initial.base;
  stays : (s : Db) → g.B.Base.schema l.initial.base ≡ Some s → g.B.Base.schema l.base ≡ Some s;
  asked : (b : _) → g.B.Base.asked b l.initial.base → g.B.Base.asked b l.base;
  faults : g.B.Base.faults l.base ≡ g.B.Base.faults l.initial.base;
}
