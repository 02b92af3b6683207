use Rattle.std.proofs.Common.{◌≡◌, sym, ap, subst, ◌∙◌, Some, None, IsTrue, OnOk, get_or}
use Rattle.std.specs.Option.{option_copied}
use Rattle.page_cells.specs.Page.{slots}
use Rattle.page_chain.specs.Rows.{reader}
use Rattle.heap_am.specs.Heap.{is_readable}
use Rattle.heap_am.proofs.Faults.{row_at_line, slot_read, of_page}
use Rattle.heap_am.proofs.Outcomes.{if_ok, if_err}
use Rattle.heap_am.proofs.heap.Heap.line.Goals as goal

pub returns-in-Some-clause-known : goal.returns-in-Some-clause-known
returns-in-Some-clause-known c m rows e is =
    let at : get_or (slots c.args.page.now) c.args.line None ≡ Some c.in-Some.bytes.now = sym c.slot.ensures.row ∙ ap option_copied c.in-Some.is in
    if_ok c.row_on.result c.row_on.ensures.row (λ row r. r ∙ sym (row_at_line c.args.self.now.file m rows c.args.number c.args.line c.args.page.now c.requires.below e is ∙ ap (slot_read (reader c.args.self.now.file.domains)) at))

pub returns-in-Some-clause-read : goal.returns-in-Some-clause-read
returns-in-Some-clause-read c =
    let at : get_or (slots c.args.page.now) c.args.line None ≡ Some c.in-Some.bytes.now = sym c.slot.ensures.row ∙ ap option_copied c.in-Some.is in
    subst (λ s. OnOk c.row_on.result (IsTrue (is_readable (reader c.args.self.now.file.domains) s))) (sym at) c.row_on.ensures.read

pub returns-in-Some-clause-fault : goal.returns-in-Some-clause-fault
returns-in-Some-clause-fault c =
    let at : get_or (slots c.args.page.now) c.args.line None ≡ Some c.in-Some.bytes.now = sym c.slot.ensures.row ∙ ap option_copied c.in-Some.is in
    if_err c.row_on.result c.row_on.ensures.fault (λ fault h. of_page c.args.self.now.file c.args.number c.args.line c.args.page.now c.in-Some.bytes.now fault c.requires.below at h)

pub returns-in-None-clause-known : goal.returns-in-None-clause-known
returns-in-None-clause-known c m rows e is =
    let at : get_or (slots c.args.page.now) c.args.line None ≡ None = sym c.slot.ensures.row ∙ ap option_copied c.in-None.is in
    sym (row_at_line c.args.self.now.file m rows c.args.number c.args.line c.args.page.now c.requires.below e is ∙ ap (slot_read (reader c.args.self.now.file.domains)) at)

pub returns-in-None-clause-read : goal.returns-in-None-clause-read
returns-in-None-clause-read c =
    let at : get_or (slots c.args.page.now) c.args.line None ≡ None = sym c.slot.ensures.row ∙ ap option_copied c.in-None.is in
    ap (is_readable (reader c.args.self.now.file.domains)) at
