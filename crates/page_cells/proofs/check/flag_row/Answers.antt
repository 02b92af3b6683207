use Rattle.std.proofs.Common.{◌≡◌, ◌+◌, arith}
use Rattle.page_cells.specs.Page.{offset, size}
use Rattle.page_cells.proofs.Marking.{on_true, on_false, empty_marked, row_marked, not_apart}
use Rattle.page_cells.proofs.check.flag_row.Goals as goal

pub returns-then-size-eq0-clause-apart : goal.returns-then-size-eq0-clause-apart
returns-then-size-eq0-clause-apart c = empty_marked c.args.page.now c.args.line c.args.flags.now c.requires.marks (omega arith)

pub returns-clause-apart : goal.returns-clause-apart
returns-clause-apart c =
    let to : c.offset-from.result + c.size-size.result ≡ offset c.args.page.now c.args.line + size c.args.page.now c.args.line = omega arith in
    on_true c.flag_bytes.result c.flag_bytes.ensures.free c.flag_bytes.ensures.flagged c.flag_bytes.ensures.others
    (λ free flagged others. row_marked c.args.page.now c.args.line c.offset-from.result (c.offset-from.result + c.size-size.result) c.args.flags.now c.flag_bytes.new.flags c.requires.marks c.requires.line
    c.offset-from.ensures to (omega arith) (omega arith) free flagged others)

pub returns-clause-not : goal.returns-clause-not
returns-clause-not c =
    let to : c.offset-from.result + c.size-size.result ≡ offset c.args.page.now c.args.line + size c.args.page.now c.args.line = omega arith in
    on_false c.flag_bytes.result c.flag_bytes.ensures.taken
    (λ taken. not_apart c.args.page.now c.args.line c.offset-from.result (c.offset-from.result + c.size-size.result) c.args.flags.now c.requires.marks c.requires.line c.offset-from.ensures to taken)
