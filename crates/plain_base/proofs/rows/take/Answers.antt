use Rattle.std.proofs.Common.{◌∙◌}
use Rattle.plain_base.proofs.RowLists.{without_set}
use Rattle.plain_base.proofs.rows.take.Goals as goal

pub returns-clause-ok : goal.returns-clause-ok
returns-clause-ok c =
    c.take_set.ensures.rows
    ∙ rw (c.of_rows-gone.ensures, c.in_ok-copies.ensures) (without_set c.args.gone.now c.args.rows.now.items)
