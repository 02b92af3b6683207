use Rattle.std.proofs.Common.{◌≡◌, Some, map, drop}
use Rattle.std.specs.List.{flat_map}
use Rattle.calculus.specs.Database.{Db}
use Rattle.quel_meaning.specs.Naming.{first_number, item_mentions, mention_refusal}
use Rattle.quel_names.specs.Asking.{scope_of}
use Rattle.quel_names.specs.Roles.{meant_by}
use Rattle.quel_names.proofs.text.items_refusal.Given as goal

abbrev pub invariant-loop-item : goal.invariant-loop-item
invariant-loop-item g l = record {
  known : (db : Db) → g.B.Base.schema l.fn.base ≡ Some db
      → first_number (map (mention_refusal (scope_of db l.user l.ranges)) (flat_map (item_mentions (scope_of db l.user l.ranges) (meant_by l.role)) (drop l.item-index l.items)))
      ≡ first_number (map (mention_refusal (scope_of db l.user l.ranges)) (flat_map (item_mentions (scope_of db l.user l.ranges) (meant_by l.role)) l.items));
  kept : g.B.Base.database l.base ≡ g.B.Base.database l.fn.base;
  stays : (s : Db) → g.B.Base.schema l.fn.base ≡ Some s → g.B.Base.schema l.base ≡ Some s;
  asked : (b : _) → g.B.Base.asked b l.fn.base → g.B.Base.asked b l.base;
  faults : g.B.Base.faults l.base ≡ g.B.Base.faults l.fn.base;
}
