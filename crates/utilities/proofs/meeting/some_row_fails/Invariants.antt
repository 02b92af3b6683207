use Rattle.std.proofs.Common.{◌≡◌, ◌+◌, ◌∷◌, [], not, Some, length}
use Rattle.std.specs.List.{list_any}
use Rattle.calculus.specs.Database.{Db}
use Rattle.calculus.specs.Term.{holds, no_aggs}
use Rattle.base_trait.specs.Scans.{first_place}
use Rattle.utilities.proofs.meeting.some_row_fails.Given as goal

abbrev pub invariant-loop-call : goal.invariant-loop-call
invariant-loop-call g l = record {
  kept : g.B.Base.database l.base ≡ g.B.Base.database l.fn.base;
  stays : (s : Db) → g.B.Base.schema l.fn.base ≡ Some s → g.B.Base.schema l.base ≡ Some s;
  asked : (b : _) → g.B.Base.asked b l.fn.base → g.B.Base.asked b l.base;
  same : g.B.Base.left l.base ≡ g.B.Base.left l.fn.base;
  later : g.B.Base.faults l.base ≡ g.B.Base.faults l.fn.base;
  none : l.at ≡ [];
  counted : (db : Db) → g.B.Base.database l.fn.base ≡ Some db → l.call + length (g.B.Base.left l.fn.base l.key l.place) ≡ length (g.B.Base.left l.fn.base l.key first_place);
  so_far : (db : Db) → g.B.Base.database l.fn.base ≡ Some db
      → list_any (λ row. not (holds no_aggs l.qual (row ∷ []))) (g.B.Base.left l.fn.base l.key first_place)
      ≡ list_any (λ row. not (holds no_aggs l.qual (row ∷ []))) (g.B.Base.left l.fn.base l.key l.place);
}
