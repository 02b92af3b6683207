use Rattle.std.proofs.Common.{ℕ, ◌-◌, length, sym, ap, ◌∙◌}
use Rattle.page_cells.proofs.Filling.{filling_slots, filling_page, filling_next}
use Rattle.page_cells.proofs.putting.fill_line.Goals as goal

pub returns-clause-slots : goal.returns-clause-slots
returns-clause-slots c = filling_slots c.args.page.now c.put_bytes.new.page c.put_number.new.page c.put_number-2.new.page c.put_number-3.new.page c.args.line (c.low.result - length c.args.row.now) (length c.args.row.now) c.args.row.now c.requires.page
    (c.put_bytes.array_long ∙ sym c.told-page) (c.put_number-3.array_long ∙ sym c.told-page) c.requires.line c.requires.row c.requires.gap (ap (λ (n : ℕ). n - length c.args.row.now) c.low.ensures) c.put_bytes.ensures.there c.put_bytes.ensures.others
    c.put_number.ensures.there c.put_number.ensures.others c.put_number-2.ensures.there c.put_number-2.ensures.others c.put_number-3.ensures.there c.put_number-3.ensures.others

pub returns-clause-next : goal.returns-clause-next
returns-clause-next c = filling_next c.args.page.now c.put_bytes.new.page c.put_number.new.page c.put_number-2.new.page c.put_number-3.new.page c.args.line (c.low.result - length c.args.row.now) (length c.args.row.now) c.args.row.now c.requires.page
    (c.put_bytes.array_long ∙ sym c.told-page) (c.put_number-3.array_long ∙ sym c.told-page) c.requires.line c.requires.row c.requires.gap (ap (λ (n : ℕ). n - length c.args.row.now) c.low.ensures) c.put_bytes.ensures.there c.put_bytes.ensures.others
    c.put_number.ensures.there c.put_number.ensures.others c.put_number-2.ensures.there c.put_number-2.ensures.others c.put_number-3.ensures.there c.put_number-3.ensures.others

pub returns-clause-page : goal.returns-clause-page
returns-clause-page c = filling_page c.args.page.now c.put_bytes.new.page c.put_number.new.page c.put_number-2.new.page c.put_number-3.new.page c.args.line (c.low.result - length c.args.row.now) (length c.args.row.now) c.args.row.now c.requires.page
    (c.put_bytes.array_long ∙ sym c.told-page) (c.put_number-3.array_long ∙ sym c.told-page) c.requires.line c.requires.row c.requires.gap (ap (λ (n : ℕ). n - length c.args.row.now) c.low.ensures) c.put_bytes.ensures.there c.put_bytes.ensures.others
    c.put_number.ensures.there c.put_number.ensures.others c.put_number-2.ensures.there c.put_number-2.ensures.others c.put_number-3.ensures.there c.put_number-3.ensures.others
