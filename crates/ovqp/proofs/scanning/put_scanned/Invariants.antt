use Rattle.std.proofs.Common.{◌≡◌, Some}
use Rattle.calculus.specs.declared.query.Query.{Query}
use Rattle.calculus.specs.Database.{Db}
use Rattle.base_trait.specs.Scans.{first_place}
use Rattle.ovqp.specs.Parts.{IsQueryOf, HasRead}
use Rattle.ovqp.proofs.scanning.put_scanned.Given as goal

abbrev pub invariant-loop-call : goal.invariant-loop-call
invariant-loop-call g l = record {
  kept : g.B.Base.database l.base ≡ g.B.Base.database l.fn.base;
  stays : (s : Db) → g.B.Base.schema l.fn.base ≡ Some s → g.B.Base.schema l.base ≡ Some s;
  same : g.B.Base.left l.base ≡ g.B.Base.left l.fn.base;
  asked : (b : _) → g.B.Base.asked b l.fn.base → g.B.Base.asked b l.base;
  faults : g.B.Base.faults l.base ≡ g.B.Base.faults l.fn.base;
  so_far : (db : Db) → g.B.Base.database l.fn.base ≡ Some db → (q : Query) → IsQueryOf q l.rel l.qual l.targets
      → HasRead q (g.B.Base.left l.fn.base l.rel first_place) (g.B.Base.left l.fn.base l.rel l.at) l.call l.given.items;
}
