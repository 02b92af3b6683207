use Rattle.std.proofs.Common.{◌≡◌, map, take, true, vec_items, Some}
use Rattle.std.specs.List.{list_all}
use Rattle.calculus.specs.Database.{Db}
use Rattle.calculus.specs.IsDatabase.{has_kind}
use Rattle.quel_meaning.specs.KindsInQueries.{kind_in_query}
use Rattle.quel_refusals.proofs.fitting.all_of_kinds.Given as goal

abbrev pub invariant-loop-target : goal.invariant-loop-target
invariant-loop-target g l = record {
  known : (db : Db) → g.B.Base.schema l.initial.base ≡ Some db → list_all (λ t. has_kind (kind_in_query db t.term (map vec_items l.vars)) t.kind) (take l.target-index l.targets) ≡ true;
  kept : g.B.Base.database l.base ≡ g.B.Base.database l.initial.base;
  stays : (s : Db) → g.B.Base.schema l.initial.base ≡ Some s → g.B.Base.schema l.base ≡ Some s;
  asked : (b : _) → g.B.Base.asked b l.initial.base → g.B.Base.asked b l.base;
  faults : g.B.Base.faults l.base ≡ g.B.Base.faults l.initial.base;
}
