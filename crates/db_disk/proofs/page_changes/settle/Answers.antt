use Rattle.std.proofs.Common.{◌∙◌, refl, sym, inr}
use Rattle.std.proofs.lemmas.Option.{same_Some, none-some}
use Rattle.disk_model.proofs.Moments.{joins}
use Rattle.batch_store.specs.Store.{batch_of, disk_of, pages_of}
use Rattle.batch_store.proofs.Stands.{known_so}
use Rattle.db_disk.proofs.Changes.{on_ok_into, synced_caused}
use Rattle.db_disk.proofs.Fills.{of_synced}
use Rattle.db_disk.proofs.page_changes.settle.Goals as goal

pub returns-clause-stands : goal.returns-clause-stands
returns-clause-stands g c = λ s m came known closed pages.
    let d = g.D.Disk in
    joins d.seen d.touched d.clock d.left_since (disk_of s) (disk_of c.finish.new.store) (disk_of c.reopen.new.store) _ _ (c.finish.ensures.stands s m came known closed pages) (c.reopen.ensures.run known)
    (λ x from. inr (from.2 ∙ c.in_ok-finish.ensures.durable s m came known closed pages from.0 from.1))

pub returns-clause-durable : goal.returns-clause-durable
returns-clause-durable g c = λ s m came known closed pages.
    let d = g.D.Disk in
    let before = c.in_ok-finish.ensures.durable s m came known closed pages (d.seen (disk_of c.finish.new.store)) (λ b calm. refl) in
    of_synced c.reopen.result c.reopen.new.store known m (c.reopen.ensures.restored known) before c.reopen.ensures.ready

pub returns-clause-laid : goal.returns-clause-laid
returns-clause-laid g c = λ s m came known closed pages.
    let d = g.D.Disk in
    let before = c.in_ok-finish.ensures.durable s m came known closed pages (d.seen (disk_of c.finish.new.store)) (λ b calm. refl) in
    on_ok_into c.reopen.result _ _ (λ are. same_Some _ m (sym are ∙ before)) (c.reopen.ensures.restored known)

pub returns-clause-cause : goal.returns-clause-cause
returns-clause-cause g c = λ s came closed.
    let d = g.D.Disk in
    synced_caused (pages_of c.args.store.now) _ _ _ _ c.reopen.result c.in_ok-finish.ensures.cause.caused c.reopen.ensures.cause
    (λ m pages file page is.
    let known = (known_so d.is_known (d.seen (disk_of c.args.store.now)) m (batch_of c.args.store.now) pages).0 in
    let before = c.in_ok-finish.ensures.durable s m came known (closed known) pages (d.seen (disk_of c.finish.new.store)) (λ b calm. refl) in
    none-some m (sym (c.reopen.ensures.damaged known file page is) ∙ before))
