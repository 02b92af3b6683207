use Rattle.std.proofs.Common.{◌≡◌, ℕ, ◌+◌, ◌++◌, true, map, length, Some, option_map}
use Rattle.std.specs.Prelude.{slice_get}
use Rattle.std.specs.List.{enumerate_from, list_all}
use Rattle.calculus.specs.Database.{Db}
use Rattle.view_expand.specs.Asking.{who_of}
use Rattle.view_expand.specs.Found.{IsFound}
use Rattle.view_text.specs.Scoped.{is_scoped}
use Rattle.cut_rules.specs.Placed.{read_expansion, may_be_read, is_small}
use Rattle.cut_rules.proofs.expansions.put_each.Given as goal

abbrev pub decreases-keys : goal.decreases-keys
decreases-keys g l = length l.rest

abbrev pub invariant-keys : goal.invariant-keys
invariant-keys g l = record {
  place : l.place + length l.rest ≡ length l.keys;
  same_keys : (v : ℕ) → slice_get l.rest v ≡ slice_get l.keys (l.place + v);
  known : (db : Db) → g.B.Base.database l.initial.base ≡ Some db
      → l.expansions.items ++ map (read_expansion db (who_of (option_map (λ n. n.now) l.who)) l.query) (enumerate_from l.place l.rest)
      ≡ l.fn.expansions.items ++ map (read_expansion db (who_of (option_map (λ n. n.now) l.who)) l.query) (enumerate_from 0 l.keys);
  permitted : (db : Db) → g.B.Base.database l.initial.base ≡ Some db
      → list_all (may_be_read db (who_of (option_map (λ n. n.now) l.who)) l.query) (enumerate_from l.place l.rest)
      ≡ list_all (may_be_read db (who_of (option_map (λ n. n.now) l.who)) l.query) (enumerate_from 0 l.keys);
  small : (db : Db) → g.B.Base.database l.initial.base ≡ Some db → list_all (is_small db l.query) (enumerate_from l.place l.rest) ≡ true;
  scoped : list_all is_scoped l.fn.expansions.items ≡ true → list_all is_scoped l.expansions.items ≡ true;
  found : (db : Db) → g.B.Base.database l.initial.base ≡ Some db → IsFound db (who_of (option_map (λ n. n.now) l.who)) l.found;
  kept : g.B.Base.database l.base ≡ g.B.Base.database l.initial.base;
  stays : (s : Db) → g.B.Base.schema l.initial.base ≡ Some s → g.B.Base.schema l.base ≡ Some s;
  asked : (b : _) → g.B.Base.asked b l.initial.base → g.B.Base.asked b l.base;
  faults : g.B.Base.faults l.base ≡ g.B.Base.faults l.initial.base;
}
