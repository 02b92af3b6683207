use Rattle.std.proofs.Common.{sym, ◌∙◌}
use Rattle.page_cells.proofs.Following.{following_slots, following_page}
use Rattle.page_cells.proofs.page.set_next.Goals as goal

pub returns-clause-slots : goal.returns-clause-slots
returns-clause-slots c = following_slots c.args.p.now c.put_next_number.new.page c.requires (c.put_next_number.array_long ∙ sym c.told-p) c.put_next_number.ensures.others

pub returns-clause-page : goal.returns-clause-page
returns-clause-page c = following_page c.args.p.now c.put_next_number.new.page c.requires (c.put_next_number.array_long ∙ sym c.told-p) c.put_next_number.ensures.others
