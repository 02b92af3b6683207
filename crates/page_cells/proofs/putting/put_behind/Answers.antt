use Rattle.std.proofs.Common.{◌+◌, [], ◌∷◌, ◌++◌, Some, length, sym, ap, ◌∙◌, arith}
use Rattle.page_cells.specs.Page.{slots, room}
use Rattle.page_cells.proofs.Lists.{length_slots}
use Rattle.page_cells.proofs.Placing.{with_row_new, some_if}
use Rattle.page_cells.proofs.putting.put_behind.Goals as goal

pub returns-clause-line : goal.returns-clause-line
returns-clause-line c = ap Some (c.lines-line.ensures ∙ sym (length_slots c.args.page.now)) ∙ some_if (length c.args.row.now + 4) (room c.args.page.now) (length (slots c.args.page.now)) (omega arith)

pub returns-clause-slots : goal.returns-clause-slots
returns-clause-slots c =
    c.add_row.ensures.slots ∙ ap (λ s. s ++ Some c.args.row.now ∷ []) c.make_gap.ensures.slots
    ∙ sym (with_row_new (slots c.args.page.now) c.lines-line.result c.args.row.now (c.lines-line.ensures ∙ sym (length_slots c.args.page.now)))
