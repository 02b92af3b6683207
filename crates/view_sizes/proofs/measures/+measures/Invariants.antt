use Rattle.std.proofs.Common.{◌≡◌, ◌+◌, ◌*◌, map, take, Some}
use Rattle.calculus.specs.Database.{Db}
use Rattle.calculus.specs.Sizes.{measure_within}
use Rattle.view_sizes.specs.Measured.{held, stopped_measure}
use Rattle.view_sizes.specs.Remembered.{AreMeasured}
use Rattle.view_sizes.proofs.measures.+measures.Given as goal

abbrev pub decreases-measure_within : goal.decreases-measure_within
decreases-measure_within g l = 3 * l.levels + 1

abbrev pub decreases-measure_anew : goal.decreases-measure_anew
decreases-measure_anew g l = 3 * l.levels

abbrev pub decreases-measure_through : goal.decreases-measure_through
decreases-measure_through g l = 3 * l.levels + 2

abbrev pub invariant-measure_through-loop-key : goal.invariant-measure_through-loop-key
invariant-measure_through-loop-key g l = record {
  known : (db : Db) → g.B.Base.schema l.initial.base ≡ Some db → AreMeasured db l.initial.found.entries → map held l.vars.items ≡ map (λ key. stopped_measure (measure_within l.levels db key)) (take l.key-index l.key-items);
  found : (db : Db) → g.B.Base.schema l.initial.base ≡ Some db → AreMeasured db l.initial.found.entries → AreMeasured db l.found.entries;
  kept : g.B.Base.database l.base ≡ g.B.Base.database l.initial.base;
  stays : (s : Db) → g.B.Base.schema l.initial.base ≡ Some s → g.B.Base.schema l.base ≡ Some s;
  asked : (b : _) → g.B.Base.asked b l.initial.base → g.B.Base.asked b l.base;
  faults : g.B.Base.faults l.base ≡ g.B.Base.faults l.initial.base;
}
