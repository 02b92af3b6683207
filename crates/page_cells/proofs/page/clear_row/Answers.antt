use Rattle.std.proofs.Common.{sym, ◌∙◌, arith}
use Rattle.page_cells.proofs.Clearing.{clearing_slots, clearing_page, clearing_next, not_cleared, cleared_before}
use Rattle.page_cells.proofs.page.clear_row.Goals as goal
use Rattle.page_cells.proofs.page.clear_row.Goals.{else-line-lines-via-then-line-lines+else-size-gt0, else-line-lines-via-else-line-lines}

pub returns-then-size-gt0-clause-slots : goal.returns-then-size-gt0-clause-slots
returns-then-size-gt0-clause-slots c = clearing_slots c.args.p.now c.put_number.new.page c.args.line c.requires (c.put_number.array_long ∙ sym c.told-p) (omega arith) c.put_number.ensures.there c.put_number.ensures.others

pub returns-then-size-gt0-clause-empty : goal.returns-then-size-gt0-clause-empty
returns-then-size-gt0-clause-empty c none = not_cleared c.args.p.now c.args.line (omega arith) (omega arith) none

pub returns-then-size-gt0-clause-next : goal.returns-then-size-gt0-clause-next
returns-then-size-gt0-clause-next c = clearing_next c.args.p.now c.put_number.new.page c.args.line c.requires (c.put_number.array_long ∙ sym c.told-p) (omega arith) c.put_number.ensures.there c.put_number.ensures.others

pub returns-then-size-gt0-clause-page : goal.returns-then-size-gt0-clause-page
returns-then-size-gt0-clause-page c = clearing_page c.args.p.now c.put_number.new.page c.args.line c.requires (c.put_number.array_long ∙ sym c.told-p) (omega arith) c.put_number.ensures.there c.put_number.ensures.others

pub returns-else-line-lines-clause-slots : goal.returns-else-line-lines-clause-slots
returns-else-line-lines-clause-slots c = elim c.else-line-lines.branch [
  | else-line-lines-via-then-line-lines+else-size-gt0 w ↦ cleared_before c.args.p.now c.args.line (λ lt. omega arith)
  | else-line-lines-via-else-line-lines w ↦ cleared_before c.args.p.now c.args.line (λ lt. absurd (omega arith))
]
