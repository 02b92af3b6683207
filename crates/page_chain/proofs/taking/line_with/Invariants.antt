use Rattle.std.proofs.Common.{◌≡◌, ◌<◌, ℕ, Some, None, get_or}
use Rattle.page_cells.specs.Page.{slots}
use Rattle.page_chain.proofs.taking.line_with.Given as goal

abbrev pub invariant-lines : goal.invariant-lines
invariant-lines l = (k : ℕ) → k < l.line → get_or (slots l.page) k None ≡ Some l.row → ⊥
