use Rattle.std.proofs.Common.{◌≡◌, ◌++◌, true, map, length, Some, option_map, Contains}
use Rattle.std.specs.List.{list_all}
use Rattle.calculus.specs.declared.request.Asked.{Asked}
use Rattle.calculus.specs.Database.{Db}
use Rattle.calculus.specs.Permission.{query_permitted}
use Rattle.quel_meaning.specs.FitQueries.{kept_or_viewed, asked_fits}
use Rattle.view_expand.specs.Asking.{who_of}
use Rattle.view_expand.specs.Found.{IsFound}
use Rattle.view_text.specs.Expanded.{expanded_asked}
use Rattle.cut_rules.proofs.cutting.put_all_asked.Given as goal

abbrev pub decreases-asked : goal.decreases-asked
decreases-asked g l = length l.rest

abbrev pub invariant-asked : goal.invariant-asked
invariant-asked g l = record {
  within : (a : Asked) → Contains l.rest a → Contains l.asked a;
  known : (db : Db) → g.B.Base.database l.initial.base ≡ Some db
      → l.made.items ++ map (expanded_asked db (who_of (option_map (λ n. n.now) l.who))) l.rest ≡ l.fn.made.items ++ map (expanded_asked db (who_of (option_map (λ n. n.now) l.who))) l.asked;
  permitted : (db : Db) → g.B.Base.database l.initial.base ≡ Some db
      → list_all (λ a. query_permitted db (who_of (option_map (λ n. n.now) l.who)) a.query) l.rest ≡ list_all (λ a. query_permitted db (who_of (option_map (λ n. n.now) l.who)) a.query) l.asked;
  fit : (db : Db) → g.B.Base.database l.initial.base ≡ Some db → list_all (asked_fits (kept_or_viewed db) db) l.rest ≡ true;
  found : (db : Db) → g.B.Base.database l.initial.base ≡ Some db → IsFound db (who_of (option_map (λ n. n.now) l.who)) l.found;
  kept : g.B.Base.database l.base ≡ g.B.Base.database l.initial.base;
  stays : (s : Db) → g.B.Base.schema l.initial.base ≡ Some s → g.B.Base.schema l.base ≡ Some s;
  asked : (b : _) → g.B.Base.asked b l.initial.base → g.B.Base.asked b l.base;
  faults : g.B.Base.faults l.base ≡ g.B.Base.faults l.initial.base;
}
