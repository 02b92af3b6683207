use Rattle.std.proofs.Common.{◌≡◌, ◌++◌, take}
use Rattle.page_cells.specs.Page.{slots}
use Rattle.page_chain.specs.Lying.{bytes_of, lying_in}
use Rattle.page_chain.proofs.chains.copy_rows.Given as goal

abbrev pub invariant-lines : goal.invariant-lines
invariant-lines l = l.rows.items ≡ l.initial.rows.items ++ bytes_of (lying_in 0 0 (take l.line (slots l.page)))
