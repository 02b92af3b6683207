use Rattle.std.proofs.Common.{sym, ◌∙◌}
use Rattle.batch_store.proofs.Stands.{recovered_off, recovered_image, recovered_disk, read_so}
use Rattle.batch_store.proofs.reading.read_page.Goals as goal

pub returns-then-not-counts-clause-page : goal.returns-then-not-counts-clause-page
returns-then-not-counts-clause-page g c = λ known.
    recovered_off (g.D.Disk.seen c.args.disk.now) c.args.batch.now c.args.a (sym c.counts.ensures ∙ c.if-not-counts.true)

pub returns-in_ok-image-in-Some-clause-page : goal.returns-in_ok-image-in-Some-clause-page
returns-in_ok-image-in-Some-clause-page g c = λ known.
    recovered_image (g.D.Disk.seen c.args.disk.now) c.args.batch.now c.args.a c.in-Some.i c.image.new.out (sym c.counts.ensures ∙ c.if-not-counts.false)
    (sym (c.requires.numbered known c.args.a) ∙ sym c.number_for.ensures ∙ c.in-Some.is) (c.in_ok-image-in-Some.ensures.image known)

pub returns-in-None-clause-page : goal.returns-in-None-clause-page
returns-in-None-clause-page g c = λ known.
    read_so c.read.result c.read.new.out (recovered_disk (g.D.Disk.seen c.args.disk.now) c.args.batch.now c.args.a (sym c.counts.ensures ∙ c.if-not-counts.false)
    (sym (c.requires.numbered known c.args.a) ∙ sym c.number_for.ensures ∙ c.in-None.is)) (c.read.ensures.page known)
