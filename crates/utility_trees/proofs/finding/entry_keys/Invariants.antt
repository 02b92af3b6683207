use Rattle.std.proofs.Common.{◌≡◌, Some, filter_map, take}
use Rattle.calculus.specs.Database.{Db}
use Rattle.quel_meaning.specs.Ranges.{Ranges}
use Rattle.quel_meaning.specs.Scope.{entry_named}
use Rattle.quel_names.specs.Asking.{scope_of}
use Rattle.utility_trees.proofs.finding.entry_keys.Given as goal

abbrev pub invariant-loop-name : goal.invariant-loop-name
invariant-loop-name g l = record {
  known : (db : Db) (ranges : Ranges) → g.B.Base.schema l.initial.base ≡ Some db → l.dba ≡ db.dba → l.keys.items ≡ filter_map (entry_named (scope_of db l.user ranges)) (take l.name-index l.names);
  kept : g.B.Base.database l.base ≡ g.B.Base.database l.initial.base;
  stays : (s : Db) → g.B.Base.schema l.initial.base ≡ Some s → g.B.Base.schema l.base ≡ Some s;
  asked : (b : _) → g.B.Base.asked b l.initial.base → g.B.Base.asked b l.base;
  faults : g.B.Base.faults l.base ≡ g.B.Base.faults l.initial.base;
}
