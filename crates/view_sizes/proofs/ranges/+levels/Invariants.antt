use Rattle.std.proofs.Common.{◌≡◌, ◌+◌, ◌*◌, take, true, Some, is_some}
use Rattle.std.specs.List.{list_all}
use Rattle.calculus.specs.Database.{Db}
use Rattle.calculus.specs.Sizes.{level_within}
use Rattle.view_sizes.specs.Remembered.{HaveLevels}
use Rattle.view_sizes.proofs.ranges.+levels.Given as goal

abbrev pub decreases-has_level : goal.decreases-has_level
decreases-has_level g l = 3 * l.levels + 1

abbrev pub decreases-has_level_anew : goal.decreases-has_level_anew
decreases-has_level_anew g l = 3 * l.levels

abbrev pub decreases-have_levels_found : goal.decreases-have_levels_found
decreases-have_levels_found g l = 3 * l.levels + 2

abbrev pub invariant-have_levels_found-loop-key : goal.invariant-have_levels_found-loop-key
invariant-have_levels_found-loop-key g l = record {
  known : (db : Db) → g.B.Base.schema l.initial.base ≡ Some db → HaveLevels db l.initial.found.keys → list_all (λ key. is_some (level_within l.levels db key)) (take l.key-index l.vars) ≡ true;
  found : (db : Db) → g.B.Base.schema l.initial.base ≡ Some db → HaveLevels db l.initial.found.keys → HaveLevels db l.found.keys;
  kept : g.B.Base.database l.base ≡ g.B.Base.database l.initial.base;
  stays : (s : Db) → g.B.Base.schema l.initial.base ≡ Some s → g.B.Base.schema l.base ≡ Some s;
  asked : (b : _) → g.B.Base.asked b l.initial.base → g.B.Base.asked b l.base;
  faults : g.B.Base.faults l.base ≡ g.B.Base.faults l.initial.base;
}
