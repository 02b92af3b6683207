use Rattle.calculus.proofs.Made.{Ascends-dedup, dedup-set_of}
use Rattle.calculus.proofs.row_set.RowSet.of_rows.Goals as goal

pub invariant_of-result : goal.invariant_of-result
invariant_of-result c = Ascends-dedup _ _ c.sort_unstable.ensures.sorted c.dedup.ensures.filtered

pub returns : goal.returns
returns c =
    dedup-set_of _ _ _ c.sort_unstable.ensures.permutation c.sort_unstable.ensures.sorted c.dedup.ensures.filtered
