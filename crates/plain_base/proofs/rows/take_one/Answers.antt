use Rattle.std.proofs.Common.{sym, ap, ◌∙◌}
use Rattle.calculus.specs.Rows.{has}
use Rattle.plain_base.proofs.RowLists.{absent_stay}
use Rattle.plain_base.proofs.rows.take_one.Goals as goal

pub returns-in-Err-clause-rows : goal.returns-in-Err-clause-rows
returns-in-Err-clause-rows c =
    sym (absent_stay c.args.row.now _ (ap (λ rows. has rows c.args.row.now) (sym c.deref.ensures.value) ∙ sym c.in-Err.ensures.there))
