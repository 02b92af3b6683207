use Rattle.std.proofs.Common.{sym, ◌∙◌, ◌+◌, Some, slice_range, arith}
use Rattle.page_cells.proofs.Rows.{row_none, row_some}
use Rattle.page_cells.proofs.Lists.{slots_at, slots_past}
use Rattle.page_cells.proofs.page.slot.Goals as goal

pub returns-then-line-lines-clause-row : goal.returns-then-line-lines-clause-row
returns-then-line-lines-clause-row c = sym (slots_past c.args.p.now c.args.line (omega arith))

pub returns-then-size-eq0-clause-row : goal.returns-then-size-eq0-clause-row
returns-then-size-eq0-clause-row c = sym (slots_at c.args.p.now c.args.line (omega arith) ∙ row_none c.args.p.now c.args.line (omega arith))

pub returns-clause-row : goal.returns-clause-row
returns-clause-row c = (λ i. Some (slice_range c.args.p.now (c.offset-from.ensures i) (c.offset-from.ensures i + c.size-size.ensures i))) ∙ sym (slots_at c.args.p.now c.args.line (grind arith) ∙ row_some c.args.p.now c.args.line (grind arith))
