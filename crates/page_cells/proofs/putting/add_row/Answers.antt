use Rattle.std.proofs.Common.{Some, None, slice_set, refl, sym, ap, ◌∙◌}
use Rattle.page_cells.specs.Page.{slots}
use Rattle.page_cells.proofs.Lists.{set_last, length_slots}
use Rattle.page_cells.proofs.putting.add_row.Goals as goal

pub returns-clause-slots : goal.returns-clause-slots
returns-clause-slots c =
    c.fill_line.ensures.slots ∙ ap (λ s. slice_set s c.lines-line.result (Some c.args.row.now)) c.add_line.ensures.slots
    ∙ set_last (slots c.args.page.now) c.lines-line.result c.lines-line.result None (Some c.args.row.now) (length_slots c.args.page.now ∙ sym c.lines-line.ensures) refl
