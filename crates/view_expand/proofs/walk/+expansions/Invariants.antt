use Rattle.std.proofs.Common.{◌≡◌, ◌+◌, ◌*◌, ◌≤◌, ◌++◌, true, length, Some, option_map}
use Rattle.std.specs.List.{list_all}
use Rattle.calculus.specs.Database.{Db}
use Rattle.calculus.specs.Permission.{permitted_within}
use Rattle.calculus.specs.Sizes.{measure_within}
use Rattle.view_text.specs.Scoped.{is_scoped}
use Rattle.view_text.specs.ExpansionOf.{expansion_within}
use Rattle.view_expand.specs.Asking.{who_of}
use Rattle.view_expand.specs.Found.{IsFound}
use Rattle.view_expand.specs.Listed.{expansions_at, permitted_at, variables_at}
use Rattle.view_expand.proofs.walk.+expansions.Given as goal

abbrev pub decreases-expansion_of_view : goal.decreases-expansion_of_view
decreases-expansion_of_view g l = 6 * l.levels

abbrev pub decreases-expansion_anew : goal.decreases-expansion_anew
decreases-expansion_anew g l = 6 * l.levels + 1

abbrev pub decreases-expansion_through : goal.decreases-expansion_through
decreases-expansion_through g l = 6 * l.levels + 2

abbrev pub decreases-expansion_at : goal.decreases-expansion_at
decreases-expansion_at g l = 6 * l.levels + 3

abbrev pub decreases-put_expansions : goal.decreases-put_expansions
decreases-put_expansions g l = 6 * l.levels + 4

abbrev pub decreases-rows_through : goal.decreases-rows_through
decreases-rows_through g l = 6 * l.levels + 5

abbrev pub decreases-put_expansions-keys : goal.decreases-put_expansions-keys
decreases-put_expansions-keys g l = length l.rest

abbrev pub invariant-put_expansions-keys : goal.invariant-put_expansions-keys
invariant-put_expansions-keys g l = record {
  place : l.place + length l.rest ≡ length l.keys;
  known : (db : Db) → g.B.Base.database l.initial.base ≡ Some db
      → l.expansions.items ++ expansions_at (expansion_within l.levels db (who_of (option_map (λ n. n.now) l.who))) l.query l.place l.rest
      ≡ l.fn.expansions.items ++ expansions_at (expansion_within l.levels db (who_of (option_map (λ n. n.now) l.who))) l.query 0 l.keys;
  permitted : (db : Db) → g.B.Base.database l.initial.base ≡ Some db
      → permitted_at (permitted_within l.levels db (who_of (option_map (λ n. n.now) l.who))) l.query l.place l.rest
      ≡ permitted_at (permitted_within l.levels db (who_of (option_map (λ n. n.now) l.who))) l.query 0 l.keys;
  few : (db : Db) → g.B.Base.database l.initial.base ≡ Some db → variables_at (measure_within l.levels db) l.query l.place l.rest ≤ 256;
  found : (db : Db) → g.B.Base.database l.initial.base ≡ Some db → IsFound db (who_of (option_map (λ n. n.now) l.who)) l.found;
  scoped : list_all is_scoped l.fn.expansions.items ≡ true → list_all is_scoped l.expansions.items ≡ true;
  kept : g.B.Base.database l.base ≡ g.B.Base.database l.initial.base;
  stays : (s : Db) → g.B.Base.schema l.initial.base ≡ Some s → g.B.Base.schema l.base ≡ Some s;
  asked : (b : _) → g.B.Base.asked b l.initial.base → g.B.Base.asked b l.base;
  faults : g.B.Base.faults l.base ≡ g.B.Base.faults l.initial.base;
}
