use Rattle.std.proofs.Common.{sym, ◌∙◌}
use Rattle.page_cells.proofs.Filling.{adding_slots, adding_page, adding_next}
use Rattle.page_cells.proofs.putting.add_line.Goals as goal

pub returns-clause-slots : goal.returns-clause-slots
returns-clause-slots c = adding_slots c.args.page.now c.put_number.new.page c.put_number-2.new.page c.lines-line.result c.lines-line.ensures c.requires.page (c.put_number-2.array_long ∙ sym c.told-page) c.requires.gap
    c.put_number.ensures.there c.put_number.ensures.others c.put_number-2.ensures.there c.put_number-2.ensures.others

pub returns-clause-next : goal.returns-clause-next
returns-clause-next c = adding_next c.args.page.now c.put_number.new.page c.put_number-2.new.page c.lines-line.result c.lines-line.ensures c.requires.page (c.put_number-2.array_long ∙ sym c.told-page) c.requires.gap
    c.put_number.ensures.there c.put_number.ensures.others c.put_number-2.ensures.there c.put_number-2.ensures.others

pub returns-clause-page : goal.returns-clause-page
returns-clause-page c = adding_page c.args.page.now c.put_number.new.page c.put_number-2.new.page c.lines-line.result c.lines-line.ensures c.requires.page (c.put_number-2.array_long ∙ sym c.told-page) c.requires.gap
    c.put_number.ensures.there c.put_number.ensures.others c.put_number-2.ensures.there c.put_number-2.ensures.others
