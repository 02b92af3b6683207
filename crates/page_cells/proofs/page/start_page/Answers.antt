use Rattle.std.proofs.Common.{◌≡◌, ℕ, List, [], ap, ◌∙◌, inl, arith}
use Rattle.page_cells.specs.Page.{lines, slots_before, slots}
use Rattle.page_cells.proofs.Rows.{number_same}
use Rattle.page_cells.proofs.Following.{next_same}
use Rattle.page_cells.proofs.page.start_page.Goals as goal

no_slots : (p : List ℕ) → lines p ≡ 0 → slots p ≡ []
unfolding slots
no_slots p e = ap (slots_before p) e

pub returns-clause-slots : goal.returns-clause-slots
returns-clause-slots c = no_slots c.put_number-2.new.page (number_same c.put_number.new.page c.put_number-2.new.page 4 (c.put_number-2.ensures.others 4 (inl (omega arith))) (c.put_number-2.ensures.others 5 (inl (omega arith))) ∙ c.put_number.ensures.there)

pub returns-clause-next : goal.returns-clause-next
returns-clause-next c =
    next_same c.put_number.new.page c.put_number-2.new.page (λ j lt. c.put_number-2.ensures.others j (inl (omega arith)))
    ∙ next_same c.put_next_number.new.page c.put_number.new.page (λ j lt. c.put_number.ensures.others j (inl (omega arith)))
    ∙ c.put_next_number.ensures.there
