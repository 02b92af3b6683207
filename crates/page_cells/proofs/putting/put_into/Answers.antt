use Rattle.std.proofs.Common.{◌<◌, Some, None, length, get_or, slice_set, sym, ap, ◌∙◌, arith}
use Rattle.page_cells.specs.Page.{lines, slots}
use Rattle.page_cells.proofs.Lists.{length_slots}
use Rattle.page_cells.proofs.Placing.{with_row_in, size_of_none}
use Rattle.page_cells.proofs.putting.put_into.Goals as goal

pub fill_line-requires-clause-line : goal.fill_line-requires-clause-line
fill_line-requires-clause-line c = omega (arith, c.requires.line, ap length c.make_gap.ensures.slots, length_slots c.args.page.now, length_slots c.make_gap.new.page)

pub fill_line-requires-clause-empty : goal.fill_line-requires-clause-empty
fill_line-requires-clause-empty c =
    let lt : c.args.line < lines c.make_gap.new.page = omega (arith, c.requires.line, ap length c.make_gap.ensures.slots, length_slots c.args.page.now, length_slots c.make_gap.new.page) in
    size_of_none c.make_gap.new.page c.args.line lt (ap (λ s. get_or s c.args.line None) c.make_gap.ensures.slots ∙ c.requires.empty)

pub returns-clause-slots : goal.returns-clause-slots
returns-clause-slots c =
    c.fill_line.ensures.slots ∙ ap (λ s. slice_set s c.args.line (Some c.args.row.now)) c.make_gap.ensures.slots
    ∙ sym (with_row_in (slots c.args.page.now) c.args.line c.args.row.now (omega (arith, c.requires.line, length_slots c.args.page.now)))
