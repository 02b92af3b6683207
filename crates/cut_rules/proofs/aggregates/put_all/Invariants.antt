use Rattle.std.proofs.Common.{◌≡◌, ◌++◌, true, map, option_map, take, Some}
use Rattle.std.specs.List.{list_all}
use Rattle.calculus.specs.Database.{Db}
use Rattle.calculus.specs.Permission.{readable, source_permitted}
use Rattle.calculus.specs.Used.{used_in_aggregate}
use Rattle.view_expand.specs.Asking.{who_of}
use Rattle.view_expand.specs.Found.{IsFound}
use Rattle.view_text.specs.Expanded.{expanded_aggregate}
use Rattle.view_text.specs.Expansions.{substituted_from}
use Rattle.cut_rules.proofs.aggregates.put_all.Given as goal

abbrev pub invariant-loop-aggregate : goal.invariant-loop-aggregate
invariant-loop-aggregate g l = record {
  known : (db : Db) → g.B.Base.database l.initial.base ≡ Some db
      → l.made.items ≡ l.fn.made.items ++ map (λ g. expanded_aggregate db (who_of (option_map (λ n. n.now) l.who)) (substituted_from 0 l.expansions) g.now) (take l.aggregate-index l.aggregates);
  permitted : (db : Db) → g.B.Base.database l.initial.base ≡ Some db
      → list_all (λ g. source_permitted (readable db (who_of (option_map (λ n. n.now) l.who))) (used_in_aggregate g.now) g.now.source) (take l.aggregate-index l.aggregates) ≡ true;
  found : (db : Db) → g.B.Base.database l.initial.base ≡ Some db → IsFound db (who_of (option_map (λ n. n.now) l.who)) l.found;
  kept : g.B.Base.database l.base ≡ g.B.Base.database l.initial.base;
  stays : (s : Db) → g.B.Base.schema l.initial.base ≡ Some s → g.B.Base.schema l.base ≡ Some s;
  asked : (b : _) → g.B.Base.asked b l.initial.base → g.B.Base.asked b l.base;
  faults : g.B.Base.faults l.base ≡ g.B.Base.faults l.initial.base;
}
