use Rattle.std.proofs.Common.{sym, ap, ◌∙◌}
use Rattle.calculus.specs.Rows.{has}
use Rattle.calculus.proofs.Placing.{put-there}
use Rattle.plain_base.proofs.rows.put_one.Goals as goal

pub returns-in-Ok-clause-rows : goal.returns-in-Ok-clause-rows
returns-in-Ok-clause-rows c =
    sym (put-there c.args.row _ c.requires.ascend (ap (λ rows. has rows c.args.row) (sym c.deref.ensures.value) ∙ sym c.in-Ok.ensures.there))
