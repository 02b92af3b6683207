use Rattle.std.proofs.Common.{◌≡◌, ◌≤◌, Some, [], take}
use Rattle.calculus.specs.Database.{Db}
use Rattle.quel_resolve.specs.Targets.{Puts}
use Rattle.quel_resolve.proofs.Putting.{count}
use Rattle.quel_resolve.proofs.targets.targets_from.Given as goal

abbrev pub invariant-loop-item : goal.invariant-loop-item
invariant-loop-item g l = record {
  known : (db : Db) → g.B.Base.schema l.initial.base ≡ Some db → Puts db l.known.vars.now l.known.infos.now l.known.inner_vars.now l.known.inner_infos.now 0 (take l.item-index l.items) [] l.targets.items;
  counted : count (take l.item-index l.items) ≤ 65535 → l.slot ≡ count (take l.item-index l.items);
  kept : g.B.Base.database l.base ≡ g.B.Base.database l.initial.base;
  stays : (s : Db) → g.B.Base.schema l.initial.base ≡ Some s → g.B.Base.schema l.base ≡ Some s;
  asked : (b : _) → g.B.Base.asked b l.initial.base → g.B.Base.asked b l.base;
  faults : g.B.Base.faults l.base ≡ g.B.Base.faults l.initial.base;
}
