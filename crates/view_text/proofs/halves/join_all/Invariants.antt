use Rattle.std.proofs.Common.{◌≡◌, length}
use Rattle.calculus.specs.declared.query.QQual.{QQual}
use Rattle.view_text.specs.Halves.{joined}
use Rattle.view_text.specs.Join.{join_by}
use Rattle.view_text.proofs.halves.join_all.Given as goal

abbrev pub invariant-rounds : goal.invariant-rounds
invariant-rounds l = (none : QQual) → joined (join_by l.join) none l.quals.items ≡ joined (join_by l.join) none l.fn.quals.items

abbrev pub decreases-rounds : goal.decreases-rounds
decreases-rounds l = length l.quals.items
