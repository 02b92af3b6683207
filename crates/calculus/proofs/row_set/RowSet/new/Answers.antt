use Rattle.std.proofs.Common.{sym, subst}
use Rattle.calculus.specs.Rows.{Ascends}
use Rattle.calculus.proofs.Sets.{Ascends-nil}
use Rattle.calculus.proofs.row_set.RowSet.new.Goals as goal

pub invariant_of-result : goal.invariant_of-result
invariant_of-result c = subst Ascends (sym c.new.ensures.items) Ascends-nil
