use Rattle.std.proofs.Common.{ap, ◌∙◌}
use Rattle.calculus.specs.Rows.{set_of}
use Rattle.calculus.specs.Replacement.{old_rows, new_rows}
use Rattle.update_change.proofs.MovedRows.{IsChange-made}
use Rattle.update_change.proofs.update.change_made.Goals as goal

pub returns-in-Ok-rows_of_pairs-clause-change : goal.returns-in-Ok-rows_of_pairs-clause-change
returns-in-Ok-rows_of_pairs-clause-change c = λ ascend.
    IsChange-made c.args.rows.now c.in-Ok-rows_of_pairs.old c.in-Ok-rows_of_pairs.new c.args.pairs.now c.change_of.result ascend
    (c.in-Ok-rows_of_pairs.ensures.old ∙ ap (λ ps. set_of (old_rows ps)) c.in-Ok.ensures)
    (c.in-Ok-rows_of_pairs.ensures.new ∙ ap (λ ps. set_of (new_rows ps)) c.in-Ok.ensures)
    c.change_of.ensures.removed c.change_of.ensures.added
