use Rattle.std.proofs.Common.{sym, subst}
use Rattle.calculus.specs.Rows.{Ascends}
use Rattle.plain_base.proofs.RowLists.{Ascends-without}
use Rattle.plain_base.proofs.rows.change.Goals as goal

pub put-requires-clause-ascend : goal.put-requires-clause-ascend
put-requires-clause-ascend c =
    subst Ascends (sym c.in_ok-take.ensures.ok)
    (Ascends-without c.args.gone.now _ (subst Ascends (sym c.reserve.ensures.items) c.requires))
