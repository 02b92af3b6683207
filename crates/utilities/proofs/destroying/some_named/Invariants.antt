use Rattle.std.proofs.Common.{◌≡◌, take, false, Some}
use Rattle.std.specs.List.{list_any}
use Rattle.calculus.specs.Database.{Db}
use Rattle.base_trait.specs.Known.{is_named_by_view}
use Rattle.utilities.proofs.destroying.some_named.Given as goal

abbrev pub invariant-loop-key : goal.invariant-loop-key
invariant-loop-key g l = record {
  known : (db : Db) → g.B.Base.schema l.initial.base ≡ Some db → list_any (is_named_by_view db l.all) (take l.key-index l.rels) ≡ false;
  kept : g.B.Base.database l.base ≡ g.B.Base.database l.initial.base;
  stays : (s : Db) → g.B.Base.schema l.initial.base ≡ Some s → g.B.Base.schema l.base ≡ Some s;
  asked : (b : _) → g.B.Base.asked b l.initial.base → g.B.Base.asked b l.base;
  later : g.B.Base.faults l.base ≡ g.B.Base.faults l.initial.base;
}
