use Rattle.std.proofs.Common.{rules, ◌≡◌, ◌∙◌, ap, sym, true}
use Rattle.disk_model.specs.Disk.{Image}
use Rattle.batch_file.specs.declared.fault.RestoreFault.TheVariants.{Disk}
use Rattle.batch_file.specs.Layout.{addr, has_image, or_empty}
use Rattle.batch_file.proofs.Checking.{address_fault, page_fault}
use Rattle.batch_file.proofs.redo.next_entry.Goals as goal

pub returns-in_err-a-clause-whole : goal.returns-in_err-a-clause-whole
returns-in_err-a-clause-whole g c = λ known lawful has.
    let fault : c.in_err-a.field-0.0 ≡ Disk = address_fault (g.D.Disk.seen c.args.disk.now) c.args.k c.in_err-a.field-0.0 lawful (c.in_err-a.ensures.address known) in
    search (rules, fault)

pub returns-in_err-page-clause-whole : goal.returns-in_err-page-clause-whole
returns-in_err-page-clause-whole g c = λ known lawful has.
    let there : has_image (g.D.Disk.seen c.next_address.new.disk) c.args.k ≡ true = ap (λ (m : Image). has_image m c.args.k) (c.next_address.ensures.same known).seen_same ∙ has in
    let fault : c.in_err-page.field-0.0 ≡ Disk = page_fault (g.D.Disk.seen c.next_address.new.disk) (addr 4 c.args.k) c.args.k c.page.new.out c.in_err-page.field-0.0 there (c.in_err-page.ensures.page known) in
    search (rules, fault)

pub returns-clause-entry : goal.returns-clause-entry
returns-clause-entry g c = λ known.
    let image = ap (λ (m : Image). m (addr 4 c.args.k)) (sym (c.next_address.ensures.same known).seen_same) ∙ c.in_ok-page.ensures.page known in
    let address = sym (c.in_ok-a.ensures.address known).1 in
    λ i. (address i, or_empty (image i))
