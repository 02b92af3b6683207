use Rattle.std.proofs.Common.{◌≡◌, Some, false, map, take}
use Rattle.calculus.specs.Database.{Db}
use Rattle.calculus.specs.QueryParts.{targets_of}
use Rattle.calculus.specs.Who.{Unrestricted}
use Rattle.quel_meaning.specs.Tables.{column_of, table_of, some_query_lacks}
use Rattle.stage_proc.proofs.tables.tables_of.Given as goal

abbrev pub invariant-loop-one : goal.invariant-loop-one
invariant-loop-one g l = record {
  kept : g.B.Base.database l.base ≡ g.B.Base.database l.fn.base;
  stays : (s : Db) → g.B.Base.schema l.fn.base ≡ Some s → g.B.Base.schema l.base ≡ Some s;
  asked : (b : _) → g.B.Base.asked b l.fn.base → g.B.Base.asked b l.base;
  faults : g.B.Base.faults l.base ≡ g.B.Base.faults l.fn.base;
  columns : map (λ t. t.columns) l.tables.items ≡ map (λ a. map column_of (targets_of a.query)) (take l.one-index l.asked);
  known : (db : Db) → g.B.Base.database l.fn.base ≡ Some db → l.tables.items ≡ map (table_of db Unrestricted) (take l.one-index l.asked);
  none_lacks : (db : Db) → g.B.Base.database l.fn.base ≡ Some db → some_query_lacks db Unrestricted (take l.one-index l.asked) ≡ false;
}
