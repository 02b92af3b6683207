use Rattle.std.proofs.Common.{refl, arith}
use Rattle.page_cells.proofs.Marking.{all_marked}
use Rattle.page_cells.proofs.check.rows_are_apart.Goals as goal

pub returns : goal.returns
returns c = (λ t. all_marked c.args.page.now c.lines.line c.lines.flags (omega arith) c.lines.invariant c.told-page c.requires.behind c.requires.top, λ page. refl)
